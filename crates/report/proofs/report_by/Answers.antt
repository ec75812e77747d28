-- `report::report_by` meets its contract. Assumes nothing.
use mathlib.Core.Path.{◌∙◌, sym}
use native.Mathlib.Omega.{arith}
use lib.Seq.{length-take-le}
use Rattle.buffer_writer.proofs.Writes.{whole}
use Rattle.report.proofs.Lasting.{ending}
use Rattle.report.proofs.Going.{too_long, no_book, book_there, of_book}
use Rattle.report.proofs.report_by.Goals as goal

pub returns-then-input-gt-LONGEST_INPUT : goal.returns-then-input-gt-LONGEST_INPUT
returns-then-input-gt-LONGEST_INPUT c = ending _ _ (rw c.number.ensures at c.stopped.ensures) (too_long _ _ c.if-input-gt-LONGEST_INPUT.true) ∙ whole _ _

pub returns-in-Err : goal.returns-in-Err
returns-in-Err c = ending _ _ c.refused_book.ensures (no_book _ _ c.if-input-gt-LONGEST_INPUT.false _ _ c.in-Err.ensures) ∙ whole _ _

pub slice_bounds-words-end : goal.slice_bounds-words-end
slice_bounds-words-end c = omega (arith, (book_there _ _ c.in-Ok.ensures).place)

pub slice_bounds-loaded_book-end : goal.slice_bounds-loaded_book-end
slice_bounds-loaded_book-end c = sym (length-take-le _ _ (book_there _ _ c.in-Ok.ensures).place)

pub returns-in-Ok : goal.returns-in-Ok
returns-in-Ok c = ending _ _ c.loaded_book.ensures (of_book _ _ c.if-input-gt-LONGEST_INPUT.false (book_there _ _ c.in-Ok.ensures)) ∙ whole _ _
