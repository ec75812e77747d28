use Rattle.numset.proofs.Changes.{added_good}
use Rattle.std.proofs.Common.{arith}
use Rattle.lent_try.proofs.added.Goals as goal

pub returns : goal.returns
returns c = rw c.added.ensures.2 (added_good _ _ _ c.requires (omega arith))
