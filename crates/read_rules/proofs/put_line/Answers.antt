use Rattle.std.proofs.Common.{◌∙◌}
use Rattle.buffer_writer.proofs.Writes.{and_then}
use Rattle.read_rules.proofs.Saying.{line_placed, line_plain}
use Rattle.read_rules.proofs.put_line.Goals as goal

pub returns-then-number : goal.returns-then-number
returns-then-number c = line_placed _ _ (c.if-number.true ∙ c.number.ensures) (and_then c.put_book_number-end.ensures (and_then c.put_bytes-next.ensures (and_then c.put_number-last.ensures c.put_bytes.ensures)))

pub returns : goal.returns
returns c = line_plain _ _ (λ e. c.if-number.false (rw c.number.ensures e)) (and_then c.put_book_number-end.ensures c.put_bytes-2.ensures)
