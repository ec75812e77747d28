use native.Mathlib.Omega.{arith}
use Rattle.numset.proofs.Kept.{lapsing_more, lapsing_stop, lapsing_end}
use Rattle.ring.proofs.Oldest.{lapsing_first, oldest_decides, oldest_none}
use Rattle.ring.specs.Ring.{unrolled}
use Rattle.ring.proofs.newer_has.Goals as goal

pub loop-run-init : goal.loop-run-init
loop-run-init c = lapsing_first (unrolled c.args.set.now) c.args.t c.requires.t_value

pub returns-then-t-upper_at : goal.returns-then-t-upper_at
returns-then-t-upper_at c = let g = c.requires.rolling.good in rw c.lower_at.ensures (oldest_decides (lapsing_stop c.loop-run.invariant g (omega arith)) g (omega arith))

pub loop-run-preserved : goal.loop-run-preserved
loop-run-preserved c = lapsing_more c.loop-run.invariant (omega arith) (omega arith)

pub returns : goal.returns
returns c = oldest_none (lapsing_end c.loop-run.invariant (omega arith)) (omega arith)
