use Rattle.numset.proofs.Kept.{kept_good}
use Rattle.lent_try.proofs.dropped.Goals as goal

pub returns : goal.returns
returns c = rw c.dropped.ensures (kept_good _ c.requires)
