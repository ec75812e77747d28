-- `report::sums::put_spans` meets its contract. Assumes nothing.
use Rattle.report.proofs.Summing.{spans_written}
use Rattle.report.proofs.sums.put_spans.Goals as goal

pub returns : goal.returns
returns c = spans_written _ _ c.put_entry_word-a.ensures c.put_entry_word.ensures
