use Rattle.book_writer.proofs.Writing.{book_written}
use Rattle.book_writer.proofs.put_book.Goals as goal

pub returns : goal.returns
returns c =
    book_written c.place_accepted-places.ensures c.rows_part-rows.ensures c.operands_part.ensures c.assumes_part.ensures c.guarantees_part.ensures c.put_number-a.ensures c.put_bytes-b.ensures
    c.put_rows-c.ensures c.put_section-d.ensures c.put_section-e.ensures c.put_section.ensures
