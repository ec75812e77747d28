-- `set_change::both` meets its contract. Assumes nothing.
use Rattle.set_change.proofs.AsOne.{both_0, both_1, both_2}
use Rattle.set_change.proofs.both.Goals as goal

pub returns-then-second-eq-STAYS : goal.returns-then-second-eq-STAYS
returns-then-second-eq-STAYS c = both_0 _ _ c.if-second-eq-STAYS.true

pub returns-then-grows : goal.returns-then-grows
returns-then-grows c = both_1 _ _ c.with_range.ensures c.grows.ensures c.if-grows.true

pub returns : goal.returns
returns c = both_2 _ _ c.if-second-eq-STAYS.false c.grows.ensures c.if-grows.false
