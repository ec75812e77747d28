-- `report::lines::put_book` meets its contract. Assumes nothing.
use Rattle.buffer_writer.proofs.Writes.{and_then}
use Rattle.report.specs.Report.{book_line}
use Rattle.report.proofs.lines.put_book.Goals as goal

pub returns : goal.returns
unfolding book_line
returns c =
    and_then
    (and_then c.put_numbered-a.ensures c.put_excess-b.ensures)
    c.put_bytes.ensures
