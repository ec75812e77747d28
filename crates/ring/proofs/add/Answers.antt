-- `ring::add` meets its contract. Assumes nothing.
use mathlib.Core.Path.{sym, ◌∙◌}
use native.Mathlib.Omega.{arith}
use Rattle.ring.proofs.Adds.{added_nothing, not_none, then_taken}
use Rattle.ring.proofs.Rolls.{unrolled_count}
use Rattle.ring.specs.Ring.{unrolled}
use Rattle.ring.proofs.add.Goals as goal

pub returns-then-upper-lower : goal.returns-then-upper-lower
returns-then-upper-lower c = added_nothing c.args.set.now c.args.lower c.args.upper c.requires.rolling (omega arith)

pub append-requires : goal.append-requires
append-requires c = record { rolling = (c.requires.rolling, omega arith, sym c.follows.ensures ∙ c.if-follows.true); set_value = c.requires.set_value }

pub newest_lower-requires : goal.newest_lower-requires
newest_lower-requires c = let n = unrolled_count c.args.set.now in let h = not_none (unrolled c.args.set.now) c.args.lower (sym c.follows.ensures ∙ c.if-follows.false) in (c.requires.rolling, omega arith)

pub lengthen-requires : goal.lengthen-requires
lengthen-requires c = let m = c.args.set.now in let n = unrolled_count m in let e = c.newest_lower.ensures in (c.requires.rolling, omega arith, then_taken (unrolled m) c.args.lower (sym c.follows.ensures ∙ c.if-follows.false) (rw n (omega arith)))

pub put-requires : goal.put-requires
put-requires c = c.requires
