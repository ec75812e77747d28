use Rattle.numset.proofs.Changes.{added_good}
use Rattle.std.proofs.Common.{arith}
use Rattle.numset_try.proofs.print.added.Goals as goal

pub returns : goal.returns
returns c = rw c.add.ensures.2 (added_good _ _ _ c.requires (omega arith))
