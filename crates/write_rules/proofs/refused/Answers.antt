use Rattle.std.proofs.Common.{◌∙◌}
use Rattle.buffer_writer.proofs.Writes.{and_then, at_end, whole}
use Rattle.write_rules.specs.Answers.{refused_line}
use Rattle.write_rules.proofs.refused.Goals as goal

pub returns : goal.returns
unfolding refused_line
returns c = rw (← c.number.ensures) (c.finished.ensures ∙ at_end (and_then c.put_book_number-end.ensures c.put_bytes-next.ensures) ∙ whole _ _)
