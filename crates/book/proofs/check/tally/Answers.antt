use mathlib.Core.Path.{refl}
use Rattle.book.proofs.Uses.{tally_start, tally_room, tally_more}
use Rattle.book.proofs.check.tally.Goals as goal

pub loop-row-init : goal.loop-row-init
loop-row-init c = tally_start c.args.uses.now _ c.requires.long

pub overflow_add-times : goal.overflow_add-times
overflow_add-times c = record { fits = tally_room _ _ _ _ c.loop-row.invariant c.requires _ (c.requires.rows c.loop-row.row-index c.loop-row-test.true) c.loop-row-test.true }

pub loop-row-preserved : goal.loop-row-preserved
loop-row-preserved c = tally_more _ _ _ _ c.loop-row.invariant _ refl (c.requires.rows c.loop-row.row-index c.loop-row-test.true) c.loop-row-test.true
