use native.Mathlib.Omega.{arith}
use mathlib.Core.Path.{◌≡◌, sym, ◌∙◌}
use Rattle.line_words.proofs.Lines.{seek_start, seek_none, seek_found, seek_more}
use Rattle.line_words.proofs.word_in.Goals as goal

pub loop-init : goal.loop-init
loop-init c = seek_start _

pub returns-in_default : goal.returns-in_default
returns-in_default c = seek_none c.loop.invariant _ (omega arith) (sym c.next_word.ensures ∙ c.in_default.is)

pub loop-preserved : goal.loop-preserved
loop-preserved c = seek_more c.loop.invariant (sym c.next_word.ensures ∙ c.in-Ok.is)

pub returns-in-Ok-next_word : goal.returns-in-Ok-next_word
returns-in-Ok-next_word c = let z : c.loop.counter ≡ c.args.i = omega arith in rw z at (seek_found c.loop.invariant (sym c.next_word-2.ensures ∙ c.in-Ok-next_word.is))

pub returns-in-Err : goal.returns-in-Err
returns-in-Err c = seek_none c.loop.invariant _ (omega arith) (sym c.next_word-2.ensures ∙ c.in-Err.is)
