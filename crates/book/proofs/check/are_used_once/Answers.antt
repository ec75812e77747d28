-- `book::check::are_used_once` meets its contract. Assumes nothing.
use mathlib.Core.Path.{◌∙◌}
use Rattle.book.proofs.Uses.{operands_countable, assumes_countable, guarantees_countable, once}
use Rattle.book.proofs.check.are_used_once.Goals as goal

pub tally-requires : goal.tally-requires
tally-requires c = operands_countable _ c.requires

pub tally-requires-2 : goal.tally-requires-2
tally-requires-2 c = assumes_countable _ c.requires _ c.tally.ensures

pub tally-requires-3 : goal.tally-requires-3
tally-requires-3 c = guarantees_countable _ c.requires _ c.tally.ensures _ c.tally-2.ensures

pub returns : goal.returns
returns c = c.are_ones.ensures ∙ once _ c.requires _ c.tally.ensures _ c.tally-2.ensures _ c.tally-3.ensures
