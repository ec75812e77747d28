-- `report::sums::put_entry_word` meets its contract. Assumes nothing.
use Rattle.report.proofs.sums.put_entry_word.Goals as goal

pub returns : goal.returns
returns c = rw c.entry_word.ensures at c.put_numbered.ensures
