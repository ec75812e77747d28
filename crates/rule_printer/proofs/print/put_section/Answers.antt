use Rattle.rule_printer.proofs.Booking.{section_put}
use Rattle.rule_printer.proofs.print.put_section.Goals as goal

-- src/print.rt:42:1
pub returns : goal.returns
returns c = section_put c.requires c.put_number-a.ensures c.put_bytes-b.ensures c.put_lines.ensures
