-- `ring::newest_upper` meets its contract. Assumes nothing.
use native.Mathlib.Omega.{arith}
use Rattle.ring.proofs.Rolls.{unrolled_count}
use Rattle.ring.proofs.newest_upper.Goals as goal

pub upper_at-requires : goal.upper_at-requires
upper_at-requires c = let n = unrolled_count c.args.set.now in omega arith
