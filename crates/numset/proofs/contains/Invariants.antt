-- The invariant is `Looking`: the runs from `run` on begin after `t`.
use Rattle.numset.proofs.Looking.{Looking}
use Rattle.numset.proofs.contains.Given as goal

abbrev pub invariant-loop-run : goal.invariant-loop-run
invariant-loop-run l = Looking l.set l.t l.run
