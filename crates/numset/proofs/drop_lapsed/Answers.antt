-- `numset::drop_lapsed` meets its contract. Assumes nothing.
use Rattle.numset.proofs.Kept.{some_lapsed}
use Rattle.numset.proofs.drop_lapsed.Goals as goal

pub returns : goal.returns
returns c = some_lapsed c.lapsed-count.ensures c.requires c.drop_oldest.ensures c.drop_oldest.auto.set
