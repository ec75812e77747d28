-- `book::check::rows_part` meets its contract. Assumes nothing.
use Rattle.book.proofs.Sections.{rows_at}
use Rattle.book.proofs.check.rows_part.Goals as goal

pub returns : goal.returns
returns c = rows_at _ _ _ _ _ c.part_of.ensures
