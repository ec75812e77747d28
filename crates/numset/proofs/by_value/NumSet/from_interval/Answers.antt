-- `numset::by_value::NumSet::from_interval` meets its contract. Assumes nothing.
use mathlib.Core.Path.{◌∙◌}
use lib.Dec.{lit<, lit≤}
use lib.ListN.{replicate}
use Rattle.numset.proofs.Packs.{good_zeros}
use Rattle.numset.proofs.Changes.{set_words, one_room}
use Rattle.numset.proofs.by_value.NumSet.from_interval.Goals as goal

pub set_to-requires : goal.set_to-requires
set_to-requires c = good_zeros 129 (lit< tt)

pub returns : goal.returns
returns c = c.set_to.ensures.1 ∙ set_words (replicate 129 0) _ _ (one_room 129 _ _ (lit≤ tt))
