-- `set_change::spanning` meets its contract. Assumes nothing.
use Rattle.set_change.proofs.AsOne.{spans_1, spans_else}
use Rattle.set_change.proofs.spanning.Goals as goal

pub returns-then-mode-eq-STAYS_AND_ADDS : goal.returns-then-mode-eq-STAYS_AND_ADDS
returns-then-mode-eq-STAYS_AND_ADDS c = spans_1 _ c.if-mode-eq-STAYS_AND_ADDS.true

pub returns : goal.returns
returns c = spans_else _ c.if-mode-eq-STAYS_AND_ADDS.false
