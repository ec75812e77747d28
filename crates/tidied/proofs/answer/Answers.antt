use Rattle.std.proofs.Common.{ap, ◌∙◌, arith}
use Rattle.buffer_writer.specs.Buffer.{in_buffer}
use Rattle.buffer_writer.proofs.Writes.{at_end, whole}
use Rattle.tidied.proofs.Saying.{answer_long, answer_short}
use Rattle.tidied.proofs.answer.Goals as goal

pub returns-then-input-gt-LONGEST_INPUT : goal.returns-then-input-gt-LONGEST_INPUT
returns-then-input-gt-LONGEST_INPUT c = c.finished.ensures ∙ at_end (rw c.number.ensures at c.put_numbered-end.ensures) ∙ whole _ _ ∙ ap (in_buffer _) (answer_long _ c.if-input-gt-LONGEST_INPUT.true)

pub returns : goal.returns
returns c = c.finished-2.ensures ∙ at_end c.put_answer-end.ensures ∙ whole _ _ ∙ ap (in_buffer _) (answer_short _ (omega (arith, c.if-input-gt-LONGEST_INPUT.false)))
