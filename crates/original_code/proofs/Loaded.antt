-- The book that is loaded has what is asked of a book: one that is accepted, and the empty one that a refusal leaves. Assumes nothing.
use Prim.Native.Nat.{ℕ, zero, suc, ◌<◌, ◌≤◌}
use native.Mathlib.Omega.{arith}
use native.Mathlib.Decide.{dec_lt}
use native.Mathlib.Nat.{not-suc-le-zero}
use mathlib.Core.Path.{◌≡◌}
use mathlib.Core.Logic.{◌⊎◌, inl, inr}
use mathlib.Core.Bool.{true, false}
use mathlib.Core.List.{List, [], ◌∷◌}
use lib.ListN.{length, get_or, take}
use lib.Dec.{eqb}
use borrow.Author.Tests.{eqb-true, eqb-false}
use Rattle.numbers.specs.Limits.{MAX, LAST_TIME}
use Rattle.lists.proofs.Tests.{either}
use Rattle.pmtl.specs.Book.{Range, Row, row_at, empty_book, AllBelow}
use Rattle.pmtl.specs.Book.Row.{never, always, atom, conj, disj, neg, implies, historically, once, since}
use Rattle.pmtl.proofs.Table.{row_out}
use Rattle.book.specs.Rows.{row_from}
use Rattle.lists.proofs.Listed.{listed_length, listed_at}
use Rattle.book.specs.Reading.{Sections}
use Rattle.book.specs.Judging.{rows_in, range_good, judged, row_in, book_in, loaded}
use Rattle.book.specs.declared.loading.Loading.{Loading}
use Rattle.book.proofs.Accepted.{range, range_ordered, lower_small, upper_small, assume_below, guarantee_below}
use Rattle.book.proofs.Ordered.{book_ordered}
use Rattle.book.proofs.Admitted.{admitted_any, words_any}
use Rattle.oracle.specs.Made.{book_said}
use Rattle.original.specs.Proper.{Fit, RowFit, Proper}
use Rattle.original_code.proofs.Uses.{book_used}

-- ---- rows
AllFit : List (Row ℕ) → Type 0
AllFit [] = Unit {0}
AllFit (row ∷ rows) = RowFit row × AllFit rows

fit_at : (rows : List (Row ℕ)) (k : ℕ) → AllFit rows → RowFit (get_or rows k never)
unfolding AllFit
fit_at [] k f = tt
fit_at (row ∷ rows) zero f = f.0
fit_at (row ∷ rows) (suc k) f = fit_at rows k f.1

row_fit : (kind arg lower upper : ℕ) (os : List ℕ) → range_good lower upper ≡ true → RowFit (row_from kind arg lower upper os)
unfolding row_from AllFit
row_fit kind arg lower upper os good =
    let g : Range = record { lower = lower; upper = upper } in
    let x = get_or os 0 0 in
    let y = get_or os 1 0 in
    let fit : Fit g = record { ordered = range_ordered lower upper good; low = lower_small lower upper good; high = high (either (eqb upper MAX)) } in
    fit_at (never ∷ always ∷ atom arg ∷ conj (take arg os) ∷ disj (take arg os) ∷ neg x ∷ implies x y ∷ historically g x ∷ once g x ∷ since g x y ∷ []) kind
    (tt, (tt, (tt, (tt, (tt, (tt, (tt, (fit, (fit, (fit, tt))))))))))
  where
    high : (eqb upper MAX ≡ true) ⊎ (eqb upper MAX ≡ false) → (upper ≤ LAST_TIME) ⊎ (upper ≡ MAX)
    high (inl e) = inr (eqb-true upper MAX e)
    high (inr e) = inl (upper_small lower upper good (eqb-false upper MAX e))

below_all : (n : ℕ) (xs : List ℕ) → ((i : ℕ) → i < length xs → get_or xs i 0 < n) → AllBelow n xs
below_all n [] f = tt
below_all n (x ∷ xs) f = (f 0 (omega arith), below_all n xs (λ i h. f (suc i) (omega arith)))

-- ---- books
empty_proper : Proper empty_book
empty_proper = record { ordered = λ r. tt; ranges = λ r. tt; assumes_there = tt; guarantees_there = tt; used = λ r h. absurd (not-suc-le-zero h) }

book_proper : (s : Sections) → judged s ≡ 0 → Proper (book_in s)
unfolding book_in row_in
book_proper s ok = record {
  ordered = book_ordered s ok;
  ranges = λ r. go r (dec_lt r (rows_in s));
  assumes_there = below_all _ s.assumes (λ i h. rw listed_length (assume_below s ok i h));
  guarantees_there = below_all _ s.guarantees (λ i h. rw listed_length (guarantee_below s ok i h));
  used = book_used s ok;
}
  where
    go : (r : ℕ) → Dec (r < rows_in s) → RowFit (row_at (book_in s).rows r)
    go r (yes h) = rw (listed_at (row_in s) never (rows_in s) r h) (row_fit _ _ _ _ _ (range s ok r h))
    go r (no h) = rw (row_out (book_in s).rows r (omega (arith, listed_length (row_in s) (rows_in s)))) tt

-- in each way of loading
pub said_proper : (way : Loading) (words : List ℕ) → Proper (book_said way words)
said_proper way words = admitted_any Proper empty_proper way (loaded words) (words_any Proper empty_proper book_proper words)
