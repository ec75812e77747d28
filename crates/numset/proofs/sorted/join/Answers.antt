use mathlib.Core.Path.{refl}
use native.Mathlib.Omega.{arith}
use Rattle.numset.proofs.Walk.{joining_start, joining_more, joining_stop, joining_end}
use Rattle.numset.proofs.sorted.join.Goals as goal

pub loop-run-init : goal.loop-run-init
loop-run-init g c = (refl, refl, joining_start _ c.requires)

pub returns-then-saturating_sub-gt-ADJACENT : goal.returns-then-saturating_sub-gt-ADJACENT
returns-then-saturating_sub-gt-ADJACENT g c = let i = c.loop-run.invariant in rw (i.0, i.1) (record { ended = c.requires; met = joining_stop i.2 (omega arith) (omega arith) })

pub loop-run-preserved : goal.loop-run-preserved
loop-run-preserved g c = (refl, refl, joining_more c.loop-run.invariant.2 (omega arith) (omega arith) (omega arith) (omega arith))

pub returns : goal.returns
returns g c = let i = c.loop-run.invariant in rw (i.0, i.1) (record { ended = c.requires; met = joining_end i.2 (omega arith) })
