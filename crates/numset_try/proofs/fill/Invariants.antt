-- Each addition leaves a set again.
use Rattle.numset.specs.Runs.{Good}
use Rattle.numset_try.proofs.fill.Given as goal

abbrev pub invariant-loop-i : goal.invariant-loop-i
invariant-loop-i g l = Good l.set
