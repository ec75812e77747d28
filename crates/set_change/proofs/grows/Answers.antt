-- `set_change::grows` meets its contract. Assumes nothing.
use Rattle.set_change.proofs.AsOne.{grows_1, grows_else}
use Rattle.set_change.proofs.grows.Goals as goal

pub returns-then-mode-eq-STAYS_AND_ADDS : goal.returns-then-mode-eq-STAYS_AND_ADDS
returns-then-mode-eq-STAYS_AND_ADDS c = grows_1 _ c.if-mode-eq-STAYS_AND_ADDS.true

pub returns : goal.returns
returns c = grows_else _ c.if-mode-eq-STAYS_AND_ADDS.false
