-- `book::check::counts` meets its contract. Assumes nothing.
use native.Mathlib.Omega.{arith}
use Rattle.std.proofs.lemmas.Result.{err_from_is_err_and}
use Rattle.book.proofs.Sections.{in_rows, in_operands, in_assumes, in_guarantees, left_over, to_the_last}
use Rattle.book.proofs.check.counts.Goals as goal

pub returns-in_err-rows-clause-err : goal.returns-in_err-rows-clause-err
returns-in_err-rows-clause-err c =
    let p = err_from_is_err_and c.from_residual.result c.from_residual.ensures.1 in
    rw (p.1, p.2) (in_rows _ _ c.in_err-rows.ensures.err)

pub returns-in_err-operands-clause-err : goal.returns-in_err-operands-clause-err
returns-in_err-operands-clause-err c =
    let p = err_from_is_err_and c.from_residual-in_err-operands.result c.from_residual-in_err-operands.ensures.1 in
    rw (p.1, p.2) (in_operands _ c.in_ok-rows.ensures.ok _ c.in_err-operands.ensures.err)

pub returns-in_err-assumes-clause-err : goal.returns-in_err-assumes-clause-err
returns-in_err-assumes-clause-err c =
    let p = err_from_is_err_and c.from_residual-in_err-assumes.result c.from_residual-in_err-assumes.ensures.1 in
    rw (p.1, p.2) (in_assumes _ c.in_ok-rows.ensures.ok c.in_ok-operands.ensures.ok _ c.in_err-assumes.ensures.err)

pub returns-in_err-guarantees-clause-err : goal.returns-in_err-guarantees-clause-err
returns-in_err-guarantees-clause-err c =
    let p = err_from_is_err_and c.from_residual-in_err-guarantees.result c.from_residual-in_err-guarantees.ensures.1 in
    rw (p.1, p.2) (in_guarantees _ c.in_ok-rows.ensures.ok c.in_ok-operands.ensures.ok c.in_ok-assumes.ensures.ok _ c.in_err-guarantees.ensures.err)

pub returns-then-guarantees-words-clause-err : goal.returns-then-guarantees-words-clause-err
returns-then-guarantees-words-clause-err c =
    left_over _ c.in_ok-rows.ensures.ok c.in_ok-operands.ensures.ok c.in_ok-assumes.ensures.ok c.in_ok-guarantees.ensures.ok (omega arith)

pub returns-clause-ok : goal.returns-clause-ok
returns-clause-ok c =
    to_the_last _ c.in_ok-rows.ensures.ok c.in_ok-operands.ensures.ok c.in_ok-assumes.ensures.ok c.in_ok-guarantees.ensures.ok (omega arith)
