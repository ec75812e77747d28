use Rattle.numset.proofs.Kept.{kept_good}
use Rattle.numset_try.proofs.print.dropped.Goals as goal

pub returns : goal.returns
returns c = rw c.drop_before.ensures (kept_good _ c.requires)
