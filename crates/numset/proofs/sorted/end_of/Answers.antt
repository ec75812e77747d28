use native.Mathlib.Omega.{arith}
use Rattle.numset.proofs.Walk.{ending_more}
use Rattle.numset.proofs.sorted.end_of.Goals as goal

pub loop-run-preserved : goal.loop-run-preserved
loop-run-preserved g c = ending_more c.loop-run.invariant (omega arith) (omega arith)
