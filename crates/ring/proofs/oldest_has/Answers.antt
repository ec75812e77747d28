-- `ring::oldest_has` meets its contract. Assumes nothing.
use native.Mathlib.Omega.{arith}
use Rattle.ring.proofs.Rolls.{unrolled_count}
use Rattle.ring.proofs.Oldest.{oldest_none, oldest_decides}
use Rattle.numset.proofs.Kept.{none_lapses}
use Rattle.ring.proofs.oldest_has.Goals as goal

pub returns-then-set-eq0 : goal.returns-then-set-eq0
returns-then-set-eq0 c = let e = unrolled_count c.args.set.now in oldest_none (none_lapses c.requires.rolling.good c.requires.t_value) (omega arith)

pub returns : goal.returns
returns c = let e = unrolled_count c.args.set.now in rw c.oldest_lower.ensures (oldest_decides (none_lapses c.requires.rolling.good c.requires.t_value) c.requires.rolling.good (omega arith))
