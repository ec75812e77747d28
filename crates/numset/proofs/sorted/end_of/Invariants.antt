-- The invariant is `Ending`: the runs from `run` on begin past `upper + 1`.
use Rattle.numset.proofs.Walk.{Ending}
use Rattle.numset.proofs.sorted.end_of.Given as goal

abbrev pub invariant-loop-run : goal.invariant-loop-run
invariant-loop-run g l = Ending (g.S.SortedRuns.words l.set) l.upper l.run
