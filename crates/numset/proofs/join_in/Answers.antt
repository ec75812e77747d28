-- `numset::join_in` meets its contract. Assumes nothing.
use mathlib.Core.Path.{sym, ◌∙◌}
use Rattle.numset.proofs.Place.{added_none}
use Rattle.numset.proofs.join_in.Goals as goal

pub returns-then-upper-lower : goal.returns-then-upper-lower
returns-then-upper-lower c = added_none c.requires c.if-upper-lower.true

pub lengthen-requires : goal.lengthen-requires
lengthen-requires c = record { good = c.requires; lower_le_upper = (c.if-upper-lower.false, sym c.takes_in.ensures ∙ c.if-takes_in.true) }
