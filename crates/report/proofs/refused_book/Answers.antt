-- `report::refused_book` meets its contract. Assumes nothing.
use mathlib.Core.Path.{◌∙◌}
use Rattle.buffer_writer.proofs.Writes.{at_end}
use Rattle.report.proofs.refused_book.Goals as goal

pub returns : goal.returns
returns c = c.finished.ensures ∙ at_end (rw c.number.ensures at c.put_book-at.ensures)
