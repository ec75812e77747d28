use Rattle.std.proofs.Common.{refl, sym, ap, ◌∙◌, arith}
use lib.Seq.{length-take-le}
use Rattle.buffer_writer.specs.Buffer.{in_buffer}
use Rattle.write_rules.proofs.Saying.{answer_long, answer_short}
use Rattle.write_rules.proofs.answer.Goals as goal

pub returns-then-input-gt-LONGEST_INPUT : goal.returns-then-input-gt-LONGEST_INPUT
returns-then-input-gt-LONGEST_INPUT c = c.refused.ensures ∙ ap (in_buffer _) (answer_long _ c.if-input-gt-LONGEST_INPUT.true)

pub returns-in-Ok : goal.returns-in-Ok
returns-in-Ok c = c.print_words.ensures ∙ ap (in_buffer _) (answer_short _ (omega (arith, c.if-input-gt-LONGEST_INPUT.false)) c.in-Ok.ensures.said)

pub returns-in-Err : goal.returns-in-Err
returns-in-Err c = c.refused-in-Err.ensures ∙ ap (in_buffer _) (answer_short _ (omega (arith, c.if-input-gt-LONGEST_INPUT.false)) c.in-Err.ensures)
