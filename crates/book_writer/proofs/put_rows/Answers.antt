use Rattle.book_writer.proofs.Writing.{rows_start, rows_more}
use Rattle.book_writer.proofs.put_rows.Goals as goal

pub loop-row-init : goal.loop-row-init
loop-row-init c = rows_start _ _ _

pub loop-row-preserved : goal.loop-row-preserved
loop-row-preserved c = rows_more _ _ c.loop-row.invariant c.put_row-end.ensures
