use Rattle.std.proofs.Common.{lit<}
use Rattle.numset.proofs.Packs.{good_none}
use Rattle.lent_try.proofs.full.Goals as goal

pub loop-i-init : goal.loop-i-init
loop-i-init c = rw c.empty-set.ensures (good_none 129 (lit< tt))
