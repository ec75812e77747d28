use Rattle.buffer_writer.proofs.Writes.{and_then}
use Rattle.book_writer.specs.Layout.{section_line}
use Rattle.book_writer.proofs.put_section.Goals as goal

-- src/lib.rt:73:1
pub returns : goal.returns
unfolding section_line
returns c = and_then c.put_number-a.ensures (and_then c.put_words-b.ensures c.put_bytes.ensures)
