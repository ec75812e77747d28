use Rattle.numset.proofs.Packs.{good_none}
use Rattle.std.proofs.Common.{arith}
use Rattle.numset_try.proofs.print.clear.Goals as goal

pub runs-requires : goal.runs-requires
runs-requires g c = rw c.clear.ensures (good_none _ (omega (arith, c.requires.room)))

pub returns : goal.returns
returns g c = rw c.clear.ensures (good_none _ (omega (arith, c.requires.room)))
