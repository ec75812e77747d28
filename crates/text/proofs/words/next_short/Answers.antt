-- Where the three bytes tell a word of one digit, that is the next word; elsewhere `other_word` reads it.
use Rattle.text.proofs.Letters.{next_is_short}
use Rattle.std.proofs.Common.{sym, ◌∙◌, arith}
use Rattle.text.proofs.words.next_short.Goals as goal

pub returns-in-Some : goal.returns-in-Some
returns-in-Some c = next_is_short _ _ (omega arith) (sym c.parts.ensures ∙ c.if-parts.true) (sym c.parts-then-parts.ensures ∙ c.if-parts-2.true) (sym c.in-Some.ensures)
