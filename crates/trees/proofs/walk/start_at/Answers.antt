use Rattle.trees.proofs.Walking.{start_few, lower_row, start_zero, start_next}
use native.Mathlib.Omega.{arith}
use Rattle.trees.proofs.walk.start_at.Goals as goal

pub loop-i-init : goal.loop-i-init
loop-i-init c = start_zero _

pub count_at-start-requires : goal.count_at-start-requires
count_at-start-requires c = lower_row c.requires _ c.loop-i-test.true

pub overflow_add-start : goal.overflow_add-start
overflow_add-start c = omega (arith, start_few (lower_row c.requires _ c.loop-i-test.true), c.loop-i.invariant, c.count_at-start.ensures)

pub loop-i-preserved : goal.loop-i-preserved
loop-i-preserved c = start_next _ _ _ _ c.loop-i.invariant c.count_at-start.ensures
