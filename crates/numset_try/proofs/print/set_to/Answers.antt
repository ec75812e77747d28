use Rattle.numset.proofs.Changes.{set_good}
use Rattle.std.proofs.Common.{arith}
use Rattle.numset_try.proofs.print.set_to.Goals as goal

pub result-requires : goal.result-requires
result-requires g c = rw c.set_to-outcome.ensures.1 (set_good _ _ _ c.requires (omega arith))

pub returns : goal.returns
returns g c = rw c.set_to-outcome.ensures.1 (set_good _ _ _ c.requires (omega arith))
