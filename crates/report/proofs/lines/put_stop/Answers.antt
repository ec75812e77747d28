-- `report::lines::put_stop` meets its contract. Assumes nothing.
use Rattle.buffer_writer.proofs.Writes.{and_then}
use Rattle.report.specs.Report.{stop_line}
use Rattle.report.proofs.lines.put_stop.Goals as goal

pub returns : goal.returns
unfolding stop_line
returns c = and_then c.put_numbered-p.ensures c.put_bytes.ensures
