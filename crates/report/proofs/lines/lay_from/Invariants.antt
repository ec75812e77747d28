-- `report::lines::lay_from` meets its contract. The invariant: the words of the properties passed are laid. Assumes nothing.
use Rattle.report.proofs.Lasting.{Laying}
use Rattle.report.proofs.lines.lay_from.Given as goal

abbrev pub invariant-loop-i : goal.invariant-loop-i
invariant-loop-i l = Laying l.monitor l.at l.first l.count l.initial.out l.out l.i
