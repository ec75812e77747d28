-- Each addition leaves a set again.
use Rattle.numset.specs.Runs.{Good}
use Rattle.lent_try.proofs.full.Given as goal

abbrev pub invariant-loop-i : goal.invariant-loop-i
invariant-loop-i l = Good l.set.words
