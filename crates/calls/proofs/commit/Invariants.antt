-- `calls::commit` meets its contract. The invariant: the sets of the slots passed are changed, the others as they were. Assumes nothing.
use Rattle.planning.specs.Plan.{set_after}
use Rattle.calls.specs.Private.{Written}
use lib.ListN.{get_or}
use Rattle.calls.proofs.commit.Given as goal

abbrev pub invariant-loop-slot : goal.invariant-loop-slot
invariant-loop-slot l = Written l.initial.monitor l.clock (λ j. set_after l.initial.monitor l.clock (get_or l.modes j 0) j) l.slot l.monitor
