use Rattle.buffer_writer.proofs.Writes.{and_then}
use Rattle.rule_printer.specs.Printing.{spell, spelled}
use Rattle.rule_printer.proofs.put.put_range.Goals as goal

-- src/put.rt:43:1
pub returns : goal.returns
unfolding spelled spell
returns c = and_then c.put_bytes-low.ensures (and_then c.put_number-comma.ensures (and_then c.put_bytes-high.ensures (and_then c.put_upper-end.ensures c.put_bytes.ensures)))
