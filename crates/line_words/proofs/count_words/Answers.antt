use mathlib.Core.Path.{sym, ◌∙◌}
use Rattle.line_words.proofs.Lines.{count_start, count_more, count_less, count_done}
use Rattle.line_words.proofs.count_words.Goals as goal

pub loop-word-init : goal.loop-word-init
loop-word-init c = count_start _

pub returns-in-Err : goal.returns-in-Err
returns-in-Err c = count_done c.loop-word.invariant (sym c.next_word.ensures ∙ c.in-Err.is)

pub loop-word-smaller : goal.loop-word-smaller
loop-word-smaller c = count_less c.loop-word.invariant (sym c.next_word.ensures ∙ c.in-Ok.is)

pub loop-word-preserved : goal.loop-word-preserved
loop-word-preserved c = count_more c.loop-word.invariant (sym c.next_word.ensures ∙ c.in-Ok.is)
