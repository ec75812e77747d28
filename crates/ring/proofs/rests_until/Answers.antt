-- `ring::rests_until` meets its contract. Assumes nothing.
use mathlib.Core.Path.{◌∙◌}
use native.Mathlib.Omega.{arith}
use lib.ListN.{get_or}
use Rattle.ring.proofs.Rolls.{unrolled_count}
use Rattle.ring.specs.Ring.{unrolled}
use Rattle.ring.proofs.Oldest.{until_none, until_begins, until_ends}
use Rattle.ring.proofs.rests_until.Goals as goal

pub returns-then-set-eq0 : goal.returns-then-set-eq0
returns-then-set-eq0 c = until_none (unrolled c.args.set.now) c.args.t (get_or (unrolled c.args.set.now) 0 0) (unrolled_count c.args.set.now ∙ c.if-set-eq0.true)

pub returns-then-t-lower : goal.returns-then-t-lower
returns-then-t-lower c = let e = unrolled_count c.args.set.now in let m = unrolled c.args.set.now in rw c.oldest_lower-lower.ensures (until_begins m c.args.t (get_or m 0 0) (omega arith) (omega arith))

pub returns : goal.returns
returns c = let e = unrolled_count c.args.set.now in let m = unrolled c.args.set.now in rw c.oldest_upper.ensures (until_ends m c.args.t (get_or m 0 0) (omega arith) (omega arith))

pub oldest_upper-requires : goal.oldest_upper-requires
oldest_upper-requires c = let e = unrolled_count c.args.set.now in omega arith
