-- `report::call_lines` meets its contract. The invariant: what is still owed comes to what was owed at first. Assumes nothing.
use Rattle.text.specs.Decimals.{Counted}
use Rattle.report.proofs.Going.{Going}
use Rattle.report.proofs.call_lines.Given as goal

abbrev pub invariant-loop-done : goal.invariant-loop-done
invariant-loop-done l = Going l.input l.from l.count l.initial.monitor l.initial.out l.start l.monitor l.out l.at l.cursor l.done × Counted l.done l.digits l.first
