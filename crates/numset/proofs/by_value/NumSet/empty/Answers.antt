-- `numset::by_value::NumSet::empty` meets its contract. Assumes nothing.
use lib.Dec.{lit<}
use Rattle.numset.proofs.Packs.{zeros_pack}
use Rattle.numset.proofs.by_value.NumSet.empty.Goals as goal

pub returns : goal.returns
returns c = zeros_pack 129 (lit< tt)
