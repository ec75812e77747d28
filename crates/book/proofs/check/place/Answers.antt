-- `book::check::place` meets its contract. Assumes nothing.
use Rattle.std.proofs.lemmas.Result.{err_from_is_err_and}
use Rattle.book.proofs.Judges.{unread, judged_so}
use Rattle.book.proofs.check.place.Goals as goal

pub returns-in_err-places-clause-number : goal.returns-in_err-places-clause-number
returns-in_err-places-clause-number c =
    let p = err_from_is_err_and c.from_residual.result c.from_residual.ensures.1 in
    rw (p.1, p.2) (unread _ _ c.in_err-places.ensures.err)

pub returns-in_err-judge_parts-clause-number : goal.returns-in_err-judge_parts-clause-number
returns-in_err-judge_parts-clause-number c =
    let p = err_from_is_err_and c.from_residual-in_err-judge_parts.result c.from_residual-in_err-judge_parts.ensures.1 in
    rw (p.1, p.2) (judged_so _ _ _ _ _ _ c.in_ok-places.ensures.ok c.in_err-judge_parts.ensures)

pub returns-clause-number : goal.returns-clause-number
returns-clause-number c = judged_so _ _ _ _ _ _ c.in_ok-places.ensures.ok c.in_ok-judge_parts.ensures
