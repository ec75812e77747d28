-- `text::decimals::write_last` meets its contract. The loop's invariant stands first. Assumes nothing.
use Rattle.text.proofs.Digits.{Spelling}
use Rattle.text.proofs.decimals.write_last.Given as goal

abbrev pub invariant-loop-rest : goal.invariant-loop-rest
invariant-loop-rest l = Spelling l.n l.initial.scratch l.scratch l.i l.rest

abbrev pub decreases-loop-rest : goal.decreases-loop-rest
decreases-loop-rest l = l.rest
