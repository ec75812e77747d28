-- `report::lines::put_excess` meets its contract. Assumes nothing.
use Rattle.report.proofs.Lasting.{excess_none, excess_written}
use Rattle.report.proofs.lines.put_excess.Goals as goal

pub returns-in_default : goal.returns-in_default
returns-in_default c = rw c.in_default.is (excess_none _ _)

pub returns : goal.returns
returns c = rw c.in-Some.is (excess_written _ c.put_numbered-a.ensures c.put_numbered.ensures)
