use mathlib.Core.Path.{refl}
use Rattle.numbers.proofs.Refused.{never_0}
use Rattle.tidier.proofs.Made.{owed_start, owed_more, owed_refused, owed_done}
use Rattle.tidier.proofs.tidy.tidy_all.Goals as goal

pub loop-i-init : goal.loop-i-init
loop-i-init c = owed_start _ _ _ c.requires

pub make-requires : goal.make-requires
make-requires c = c.loop-i.invariant.standing

pub returns-in-Err : goal.returns-in-Err
returns-in-Err c = owed_refused c.loop-i.invariant c.loop-i-test.true c.step_at.ensures c.in-Err.ensures (never_0 _)

pub loop-i-preserved : goal.loop-i-preserved
loop-i-preserved c = owed_more c.loop-i.invariant c.loop-i-test.true c.step_at.ensures c.in-Ok.ensures refl

pub shape_of-words : goal.shape_of-words
shape_of-words c = c.loop-i.invariant.size

pub returns : goal.returns
returns c = owed_done c.loop-i.invariant c.loop-i-test.false
