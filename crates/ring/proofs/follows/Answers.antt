-- `ring::follows` meets its contract. Assumes nothing.
use mathlib.Core.Path.{◌∙◌}
use native.Mathlib.Omega.{arith}
use Rattle.ring.proofs.Adds.{follows_none, follows_is}
use Rattle.ring.proofs.Rolls.{unrolled_count}
use Rattle.ring.specs.Ring.{unrolled}
use Rattle.ring.proofs.follows.Goals as goal

pub returns-then-set-eq0 : goal.returns-then-set-eq0
returns-then-set-eq0 c = follows_none (unrolled c.args.set.now) c.args.lower (unrolled_count c.args.set.now ∙ c.if-set-eq0.true)

pub returns : goal.returns
returns c = let n = unrolled_count c.args.set.now in rw (c.saturating_sub.ensures, c.newest_upper.ensures, ← n) (follows_is (unrolled c.args.set.now) c.args.lower (omega arith))
