-- `book::check::judge_rows` meets its contract. The loop's invariant stands first. Assumes nothing.
use mathlib.Core.Path.{◌≡◌}
use Rattle.book.specs.Judging.{temporals_in, first_to, row_number}
use Rattle.book.proofs.check.judge_rows.Given as goal

abbrev pub invariant-loop-row : goal.invariant-loop-row
invariant-loop-row l = (l.temporals ≡ temporals_in l.rows l.row) × (first_to (row_number l.rows) l.row ≡ 0)
