-- `ring::newest_lower` meets its contract. Assumes nothing.
use native.Mathlib.Omega.{arith}
use Rattle.ring.proofs.Rolls.{unrolled_count}
use Rattle.ring.proofs.newest_lower.Goals as goal

pub lower_at-requires : goal.lower_at-requires
lower_at-requires c = let n = unrolled_count c.args.set.now in omega arith
