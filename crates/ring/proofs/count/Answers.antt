-- `ring::count` meets its contract. Assumes nothing.
use mathlib.Core.Path.{sym}
use Rattle.ring.proofs.Rolls.{ringed_length}
use Rattle.ring.proofs.count.Goals as goal

pub returns : goal.returns
returns c = sym (ringed_length c.args.set.now)
