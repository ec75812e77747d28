use Rattle.std.proofs.Common.{◌≡◌, length, refl, rules, arith}
use lib.Seq.{length-take-le}
use Rattle.std.proofs.lemmas.Result.{err_from_is_err_and}
use Rattle.numbers.proofs.Refused.{never_0}
use Rattle.tidied.proofs.Saying.{took_book, book_none, book_refused, book_taken}
use Rattle.tidied.proofs.read_words.Goals as goal

pub returns-in_err-read : goal.returns-in_err-read
returns-in_err-read c =
    let p = err_from_is_err_and c.from_residual.result c.from_residual.ensures.1 in
    rw (p.1, p.2) (book_none _ _ _ c.in_err-read.ensures)

pub slice_bounds-check-end : goal.slice_bounds-check-end
slice_bounds-check-end c =
    let h = (took_book c.in_ok-read.ensures).place in
    let k = length-take-le _ _ h in
    omega (arith, h, k)

pub shared_ref_as_front-check : goal.shared_ref_as_front-check
shared_ref_as_front-check c =
    let h = (took_book c.in_ok-read.ensures).place in
    let l : length c.book.new.words ≡ 676 = search rules in
    omega (arith, h, l)

pub returns-in_err-check : goal.returns-in_err-check
returns-in_err-check c =
    let p = err_from_is_err_and c.from_residual-in_err-check.result c.from_residual-in_err-check.ensures.1 in
    rw (p.1, p.2) (book_refused (took_book c.in_ok-read.ensures) _ c.in_err-check.ensures (never_0 _))

pub returns : goal.returns
returns c = book_taken (took_book c.in_ok-read.ensures) _ c.in_ok-check.ensures refl
