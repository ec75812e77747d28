-- No window of the kits passed is too long.
use Rattle.desk.proofs.Kits.{Short}
use Rattle.desk.proofs.given.any_too_long.Given as goal

abbrev pub invariant-loop-k : goal.invariant-loop-k
invariant-loop-k l = Short l.kits l.k
