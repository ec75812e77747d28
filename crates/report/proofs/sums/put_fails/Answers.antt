-- `report::sums::put_fails` meets its contract. Assumes nothing.
use Rattle.report.proofs.Summing.{fails_written}
use Rattle.report.proofs.sums.put_fails.Goals as goal

pub returns : goal.returns
returns c =
    fails_written _ _ c.put_entry_word-a.ensures c.put_entry_word-b.ensures c.put_entry_word.ensures
