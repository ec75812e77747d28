use Rattle.text.proofs.Letters.{next_end, next_more, next_here}
use Rattle.std.proofs.Common.{sym, ◌∙◌}
use Rattle.text.proofs.words.next_word.Goals as goal

pub loop-i-preserved : goal.loop-i-preserved
loop-i-preserved c = sym (next_more _ _ c.loop-i-test.true (sym c.parts.ensures ∙ c.if-not-parts.false)) ∙ c.loop-i.invariant

pub word_here-requires : goal.word_here-requires
word_here-requires c = (c.loop-i-test.true, sym c.parts.ensures ∙ c.if-not-parts.true)

pub returns-then-not-parts : goal.returns-then-not-parts
returns-then-not-parts c =
    c.word_here.ensures
    ∙ next_here _ _ c.loop-i-test.true (sym c.parts.ensures ∙ c.if-not-parts.true)
    ∙ c.loop-i.invariant

pub returns : goal.returns
returns c = next_end _ _ c.loop-i-test.false ∙ c.loop-i.invariant
