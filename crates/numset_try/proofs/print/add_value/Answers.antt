use Rattle.numset.proofs.Changes.{added_good}
use Rattle.std.proofs.Common.{arith}
use Rattle.numset_try.proofs.print.add_value.Goals as goal

pub counted-requires : goal.counted-requires
counted-requires g c = rw c.add-sum.ensures.2 (added_good _ _ _ c.requires (omega arith))
