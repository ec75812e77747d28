-- The invariant is `Lapsing`: the runs before `run` end before `t`.
use Rattle.numset.proofs.Kept.{Lapsing}
use Rattle.ring.specs.Ring.{unrolled}
use Rattle.ring.proofs.newer_has.Given as goal

abbrev pub invariant-loop-run : goal.invariant-loop-run
invariant-loop-run l = Lapsing (unrolled l.set) l.t l.run
