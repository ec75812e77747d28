use Rattle.numset.proofs.Changes.{one_good}
use Rattle.std.proofs.Common.{lit≤}
use Rattle.lent_try.proofs.start.Goals as goal

pub returns : goal.returns
returns c = rw c.from_interval.ensures (one_good 129 _ _ (lit≤ tt) (lit≤ tt))
