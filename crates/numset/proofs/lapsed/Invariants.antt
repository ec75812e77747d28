-- The invariant is `Lapsing`: the runs before `run` end before `t`.
use Rattle.numset.proofs.Kept.{Lapsing}
use Rattle.numset.proofs.lapsed.Given as goal

abbrev pub invariant-loop-run : goal.invariant-loop-run
invariant-loop-run l = Lapsing l.set l.t l.run
