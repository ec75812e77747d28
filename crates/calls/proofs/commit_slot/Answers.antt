-- `calls::commit_slot` meets its contract: what is over is dropped from the set, or its part of the memory is changed. Assumes nothing.
use Rattle.calls.proofs.Commits.{fit_held, commit_stays, fit_roomy, fit_done}
use Rattle.calls.proofs.commit_slot.Goals as goal

pub drop_from-requires : goal.drop_from-requires
drop_from-requires c = fit_held c.requires

pub returns-then-mode-eq-STAYS : goal.returns-then-mode-eq-STAYS
returns-then-mode-eq-STAYS c = commit_stays c.requires c.if-mode-eq-STAYS.true c.drop_from.ensures

pub start_of-start-requires : goal.start_of-start-requires
start_of-start-requires c = rw c.owner_at-row.ensures c.requires.bounded

pub stop_of-stop-requires : goal.stop_of-stop-requires
stop_of-stop-requires c = rw c.owner_at-row.ensures c.requires.bounded

pub change_set-requires : goal.change_set-requires
change_set-requires c = let eo = c.owner_at-row.ensures in fit_roomy c.requires (rw eo at c.start_of-start.ensures) (rw eo at c.stop_of-stop.ensures)

pub returns : goal.returns
returns c = let eo = c.owner_at-row.ensures in fit_done c.requires (rw eo at c.start_of-start.ensures) (rw eo at c.stop_of-stop.ensures) c.change_set.ensures
