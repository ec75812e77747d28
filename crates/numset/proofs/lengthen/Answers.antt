-- `numset::lengthen` meets its contract. Assumes nothing.
use mathlib.Core.Path.{sym, ◌∙◌}
use native.Mathlib.Omega.{arith}
use Rattle.numset.proofs.Newest.{takes_some, lengthened}
use Rattle.numset.proofs.lengthen.Goals as goal

pub overflow_sub-last : goal.overflow_sub-last
overflow_sub-last c = omega (arith, takes_some c.args.set.now c.args.lower c.requires.lower_le_upper.1)

pub lower_at-low-requires : goal.lower_at-low-requires
lower_at-low-requires c = omega (arith, takes_some c.args.set.now c.args.lower c.requires.lower_le_upper.1)

pub upper_at-high-requires : goal.upper_at-high-requires
upper_at-high-requires c = omega (arith, takes_some c.args.set.now c.args.lower c.requires.lower_le_upper.1)

pub store-requires : goal.store-requires
store-requires c = omega (arith, takes_some c.args.set.now c.args.lower c.requires.lower_le_upper.1, c.requires.good.room)

pub returns : goal.returns
returns c = let a = lengthened c.args.set.now c.args.lower c.requires.lower_le_upper.1 c.requires.good c.requires.lower_le_upper.0 (c.store.ensures ∙ rw (c.lower_at-low.ensures, c.max.ensures, c.upper_at-high.ensures)) c.store.auto.set (omega arith) in (sym a.0, a.1)
