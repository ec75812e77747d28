-- `text::words::parts` meets its contract. Assumes nothing.
use Rattle.text.specs.Words.{parts}
use Rattle.std.proofs.Common.{eq-eqb, ne_eqb}
use Rattle.text.proofs.words.parts.Goals as goal

pub returns-then-b-eq-SPACE : goal.returns-then-b-eq-SPACE
unfolding parts
returns-then-b-eq-SPACE c = rw (eq-eqb _ _ c.if-b-eq-SPACE.true)

pub returns-else-b-eq-SPACE : goal.returns-else-b-eq-SPACE
unfolding parts
returns-else-b-eq-SPACE c = rw (ne_eqb _ _ c.if-b-eq-SPACE.false)
