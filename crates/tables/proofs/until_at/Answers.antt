-- `tables::until_at` meets its contract. Assumes nothing.
use native.Mathlib.Omega.{arith}
use mathlib.Core.Path.{refl}
use Rattle.memory.specs.Memory.{owner_at}
use Rattle.tables.proofs.Puts.{few_sets, few_rows}
use Rattle.tables.proofs.until_at.Goals as goal

pub owner_at-row-requires : goal.owner_at-row-requires
owner_at-row-requires c = let f = few_sets c.requires.0 in omega arith

pub lower_at-lower-requires : goal.lower_at-lower-requires
lower_at-lower-requires c = let f = few_rows c.requires.0 in let o = c.requires.0.book.owned c.args.slot c.requires.1 in let e = c.owner_at-row.ensures in omega arith

pub upper_at-upper-requires : goal.upper_at-upper-requires
upper_at-upper-requires c = let f = few_rows c.requires.0 in let o = c.requires.0.book.owned c.args.slot c.requires.1 in let e = c.owner_at-row.ensures in omega arith

pub set_at-requires : goal.set_at-requires
set_at-requires c = let f = few_sets c.requires.0 in omega arith

pub until_of-requires : goal.until_of-requires
until_of-requires c = let f = few_sets c.requires.0 in let row = c.requires.0.book.rows (owner_at c.args.monitor.now c.args.slot) (c.requires.0.book.owned c.args.slot c.requires.1) in rw (c.set_at.ensures, c.upper_at-upper.ensures, c.lower_at-lower.ensures, c.clock-clock.ensures, c.owner_at-row.ensures) record { rolling = (c.requires.0.sets c.args.slot (omega arith), c.requires.0.clock, row.lower); upper_bound = row.upper }

pub returns : goal.returns
returns c = rw (c.until_of.ensures, c.set_at.ensures, c.upper_at-upper.ensures, c.lower_at-lower.ensures, c.clock-clock.ensures, c.owner_at-row.ensures) refl
