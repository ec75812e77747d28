use Rattle.book_writer.specs.Layout.{row_lines}
use Rattle.buffer_writer.specs.Finish.{Wrote}
use Rattle.book_writer.proofs.put_rows.Given as goal

abbrev pub invariant-loop-row : goal.invariant-loop-row
invariant-loop-row l = Wrote l.initial.out l.at (row_lines l.rows l.row) l.out l.end
