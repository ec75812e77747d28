-- `numset::clear` meets its contract. Assumes nothing.
use Rattle.numset.proofs.Resets.{cleared}
use Rattle.numset.proofs.clear.Goals as goal

pub returns : goal.returns
returns c = cleared c.requires c.wipe.ensures c.wipe.auto.set
