-- `report::lines::ended` meets its contract. Assumes nothing.
use Rattle.report.specs.Report.{end_line}
use Rattle.report.proofs.Summing.{ended_written}
use Rattle.report.proofs.lines.ended.Goals as goal

pub returns : goal.returns
unfolding end_line
returns c = ended_written _ c.put_summaries-a.ensures c.put_bytes-p.ensures c.finished.ensures
