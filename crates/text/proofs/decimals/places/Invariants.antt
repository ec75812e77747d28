-- `text::decimals::places` meets its contract. The loop's invariant stands first. Assumes nothing.
use Rattle.text.proofs.Digits.{Counting}
use Rattle.text.proofs.decimals.places.Given as goal

abbrev pub invariant-loop-rest : goal.invariant-loop-rest
invariant-loop-rest l = Counting l.n l.count l.rest

abbrev pub decreases-loop-rest : goal.decreases-loop-rest
decreases-loop-rest l = l.rest
