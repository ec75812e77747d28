-- `report::sums::put_summary` meets its contract. Assumes nothing.
use Rattle.report.proofs.Summing.{summary_written}
use Rattle.report.proofs.sums.put_summary.Goals as goal

pub returns : goal.returns
returns c =
    summary_written _ _ c.taken.ensures c.put_number-a.ensures c.put_fails-b.ensures c.put_spans-c.ensures c.put_bytes.ensures
