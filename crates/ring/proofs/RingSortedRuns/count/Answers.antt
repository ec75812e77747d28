-- `count` of a ring meets its contract. Assumes nothing.
use mathlib.Core.Path.{sym}
use Rattle.ring.proofs.Rolls.{unrolled_count}
use Rattle.ring.proofs.RingSortedRuns.count.Goals as goal

pub returns : goal.returns
returns c = sym (unrolled_count c.args.self.now.set.now)
