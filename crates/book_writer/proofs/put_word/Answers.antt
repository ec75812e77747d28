use Rattle.buffer_writer.proofs.Writes.{and_then}
use Rattle.book_writer.proofs.put_word.Goals as goal

-- src/lib.rt:27:1
pub returns : goal.returns
returns c = and_then c.put_bytes-next.ensures c.put_number.ensures
