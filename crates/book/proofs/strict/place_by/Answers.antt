-- `book::strict::place_by` meets its contract. Assumes nothing.
use Rattle.std.proofs.lemmas.Result.{err_from_is_err_and}
use Rattle.book.proofs.Excess.{refused_so}
use Rattle.book.proofs.strict.place_by.Goals as goal

pub returns-in_err-places-clause-number : goal.returns-in_err-places-clause-number
returns-in_err-places-clause-number c =
    let p = err_from_is_err_and c.from_residual.result c.from_residual.ensures.1 in
    rw (p.1, p.2) (refused_so _ _ _ c.in_err-places.ensures.number)
