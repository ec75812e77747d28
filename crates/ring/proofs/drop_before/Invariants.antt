-- `ring::drop_before` meets its contract. Assumes nothing.
use lib.ListN.{get_or}
use Rattle.ring.proofs.Drops.{Dropping}
use Rattle.ring.proofs.drop_before.Given as goal

abbrev pub invariant-loop-set : goal.invariant-loop-set
invariant-loop-set l = Dropping l.initial.set l.set l.t

abbrev pub decreases-loop-set : goal.decreases-loop-set
decreases-loop-set l = get_or l.set 0 0
