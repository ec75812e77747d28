use Rattle.numset.proofs.Kept.{kept_good}
use Rattle.numset_try.proofs.print.drop_value.Goals as goal

pub runs-requires : goal.runs-requires
runs-requires g c = rw c.drop_before-left.ensures (kept_good _ c.requires)
