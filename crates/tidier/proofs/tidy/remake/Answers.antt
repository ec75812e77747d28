use native.Mathlib.Omega.{arith}
use Rattle.tidier.proofs.Made.{makes_past, can_put, makes_book}
use borrow.Author.Rules.{rules}
use Rattle.tidier.proofs.tidy.remake.Goals as goal

-- src/tidy.rt:87:9
pub lay_all-laid-requires : goal.lay_all-laid-requires
lay_all-laid-requires c = record { ok = rw c.part_of.ensures c.requires.standing.ok; fit = rw c.part_of.ensures c.requires.fit; rooms = record { rows_long = search rules; operands_long = search rules; tops_long = search rules } }

-- src/tidy.rt:95:9
pub returns-then-laid-gt-MOST_ROWS : goal.returns-then-laid-gt-MOST_ROWS
returns-then-laid-gt-MOST_ROWS c = makes_past c.requires c.part_of.ensures c.lay_all-laid.ensures c.if-laid-gt-MOST_ROWS.true

-- src/tidy.rt:97:9
pub counts_after-counts-requires : goal.counts_after-counts-requires
counts_after-counts-requires c = rw c.part_of-2.ensures c.requires.standing.ok

-- src/tidy.rt:98:9
pub put_sections-requires : goal.put_sections-requires
put_sections-requires c = can_put c.requires c.part_of.ensures c.lay_all-laid.ensures (omega (arith, c.if-laid-gt-MOST_ROWS.false)) c.part_of-2.ensures c.counts_after-counts.ensures

-- src/tidy.rt:80:1
pub returns : goal.returns
returns c = makes_book c.requires c.part_of.ensures c.lay_all-laid.ensures (omega (arith, c.if-laid-gt-MOST_ROWS.false)) c.part_of-2.ensures c.counts_after-counts.ensures c.put_sections.ensures c.put_sections.auto.words
