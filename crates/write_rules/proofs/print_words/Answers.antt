use Rattle.std.proofs.Common.{refl, sym, ap, ◌∙◌}
use Rattle.numbers.proofs.Refused.{never_0}
use Rattle.buffer_writer.specs.Buffer.{in_buffer}
use Rattle.write_rules.proofs.Saying.{words_refused, words_printed}
use Rattle.write_rules.proofs.print_words.Goals as goal

pub returns-in-Ok : goal.returns-in-Ok
returns-in-Ok c = c.print_book.ensures ∙ ap (in_buffer _) (words_printed _ _ c.in-Ok.ensures refl)

pub returns-in-Err : goal.returns-in-Err
returns-in-Err c = c.refused.ensures ∙ ap (in_buffer _) (words_refused _ _ c.in-Err.ensures (never_0 _))
