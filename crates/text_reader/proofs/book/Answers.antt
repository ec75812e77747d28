-- `text_reader::book` meets its contract. Assumes nothing.
use Rattle.std.proofs.Common.{refl, arith}
use Rattle.std.proofs.lemmas.Result.{err_from_is_err_and}
use Rattle.text_reader.proofs.Taking.{section_is, no_rows, no_operands, no_assumes, book_read}
use Rattle.text_reader.proofs.book.Goals as goal

pub returns-in_err-rows : goal.returns-in_err-rows
returns-in_err-rows c =
    let p = err_from_is_err_and c.from_residual.result c.from_residual.ensures.1 in
    rw (p.1, p.2) (no_rows _ _ _ c.in_err-rows.ensures refl)

pub section-requires-2 : goal.section-requires-2
section-requires-2 c =
    let rows = section_is _ _ _ _ _ _ _ c.in_ok-rows.ensures refl in
    omega (arith, rows.place, rows.few)

pub returns-in_err-operands : goal.returns-in_err-operands
returns-in_err-operands c =
    let p = err_from_is_err_and c.from_residual-in_err-operands.result c.from_residual-in_err-operands.ensures.1 in
    rw (p.1, p.2) (no_operands (section_is _ _ _ _ _ _ _ c.in_ok-rows.ensures refl) _ c.in_err-operands.ensures refl)

pub section-requires-3 : goal.section-requires-3
section-requires-3 c =
    let rows = section_is _ _ _ _ _ _ _ c.in_ok-rows.ensures refl in
    let operands = section_is _ _ _ _ _ _ _ c.in_ok-operands.ensures refl in
    omega (arith, rows.place, rows.few, operands.place, operands.few)

pub returns-in_err-assumes : goal.returns-in_err-assumes
returns-in_err-assumes c =
    let p = err_from_is_err_and c.from_residual-in_err-assumes.result c.from_residual-in_err-assumes.ensures.1 in
    rw (p.1, p.2) (no_assumes (section_is _ _ _ _ _ _ _ c.in_ok-rows.ensures refl) (section_is _ _ _ _ _ _ _ c.in_ok-operands.ensures refl) _ c.in_err-assumes.ensures refl)

pub section-requires-4 : goal.section-requires-4
section-requires-4 c =
    let rows = section_is _ _ _ _ _ _ _ c.in_ok-rows.ensures refl in
    let operands = section_is _ _ _ _ _ _ _ c.in_ok-operands.ensures refl in
    let assumes = section_is _ _ _ _ _ _ _ c.in_ok-assumes.ensures refl in
    omega (arith, rows.place, rows.few, operands.place, operands.few, assumes.place, assumes.few)

pub returns : goal.returns
returns c = book_read (section_is _ _ _ _ _ _ _ c.in_ok-rows.ensures refl) (section_is _ _ _ _ _ _ _ c.in_ok-operands.ensures refl) (section_is _ _ _ _ _ _ _ c.in_ok-assumes.ensures refl) _ _ (omega arith) c.section-4.ensures
