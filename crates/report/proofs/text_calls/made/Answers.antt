-- `report::text_calls::made` meets its contract. Assumes nothing.
use Rattle.report.specs.Private.{with_stamp}
use Rattle.report.proofs.text_calls.made.Goals as goal

pub returns-in-Some : goal.returns-in-Some
unfolding with_stamp
returns-in-Some c = rw c.in-Some.is c.update_stamped.ensures.0

pub returns-in-None : goal.returns-in-None
unfolding with_stamp
returns-in-None c = rw c.in-None.is c.update_state.ensures.0
