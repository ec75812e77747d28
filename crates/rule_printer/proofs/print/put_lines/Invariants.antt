use Rattle.rule_printer.proofs.Booking.{Lined}
use Rattle.trees.specs.Walking.{rows_said}
use Rattle.rule_printer.proofs.print.put_lines.Given as goal

abbrev pub invariant-loop-property : goal.invariant-loop-property
invariant-loop-property l = Lined (rows_said l.rows l.operands) l.properties l.initial.out l.at l.out l.end l.property-index
