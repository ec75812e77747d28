-- In a book that loading accepts every row is a property or an operand of a row. Assumes nothing.
use Prim.Native.Nat.{ℕ, zero, suc, ◌+◌, ◌-◌, ◌≤◌, ◌<◌}
use native.Mathlib.Omega.{arith}
use native.Mathlib.Nat.{not-suc-le-zero, le_of_suc-le-suc}
use mathlib.Core.Path.{◌≡◌, refl, ap, ◌∙◌}
use mathlib.Core.Logic.{⊎_elim}
use mathlib.Core.Bool.{Bool, true, false}
use mathlib.Core.List.{List, [], ◌∷◌, ◌++◌}
use lib.ListN.{length, get_or, take, drop, length-take, length-drop}
use lib.Seq.{get_or-take, get_or-drop}
use lib.Dec.{eqb}
use borrow.Author.Tests.{eqb-true}
use Rattle.lists.proofs.Tests.{lt_or_ge}
use Rattle.pmtl.specs.Answer.{bit_of}
use Rattle.pmtl.specs.Book.{Row}
use Rattle.pmtl.specs.Book.Row.{never}
use Rattle.book.specs.Rows.{row_from, count_of}
use Rattle.lists.proofs.Listed.{listed_length, listed_at}
use Rattle.book.specs.Reading.{Sections}
use Rattle.book.specs.Judging.{rows_in, kind_in, arg_in, lower_in, upper_in, start_in, times_in, judged, row_in, book_in}
use Rattle.book.proofs.Accepted.{operands_taken, operands_there, used}
use Rattle.book.proofs.Uses.{times_append}
use Rattle.original.specs.Proper.{In, operands_in, UsedIn, Used}
use Rattle.original.specs.Proper.UsedIn.{assume, guarantee, operand}

-- what is counted at all stands in the list
in_times : (r : ℕ) (xs : List ℕ) → 0 < times_in r xs → In r xs
unfolding times_in
in_times r [] h = absurd (not-suc-le-zero h)
in_times r (x ∷ xs) h = go (eqb x r) refl (in_times r xs) h
  where
    go : (z : Bool) → eqb x r ≡ z → (0 < times_in r xs → In r xs) → 0 < bit_of z + times_in r xs → In r (x ∷ xs)
    go true e ih k = (0, omega arith, eqb-true x r e)
    go false e ih k = let m = ih (omega arith) in (suc m.0, omega (arith, m.1), m.2)

-- the row that an operand belongs to
owner : (ws : List ℕ) (i n : ℕ) → i < start_in ws n → (q : ℕ) × (q < n) × (start_in ws q ≤ i) × (i < start_in ws q + count_of (kind_in ws q) (arg_in ws q))
unfolding start_in
owner ws i zero h = absurd (not-suc-le-zero h)
owner ws i (suc n) h =
    ⊎_elim
    (λ p. let m = owner ws i n p in (m.0, omega (arith, m.1), m.2, m.3))
    (λ p. (n, omega arith, p, h))
    (lt_or_ge i (start_in ws n))

-- operand k of a row
Operand : Row ℕ → List ℕ → ℕ → Type 0
Operand row os k = (k < length (operands_in row)) × (get_or (operands_in row) k 0 ≡ get_or os k 0)

taken : (arg : ℕ) (os : List ℕ) (k : ℕ) → k < arg → arg ≤ length os → (k < length (take arg os)) × (get_or (take arg os) k 0 ≡ get_or os k 0)
taken arg os k h l = (omega (arith, length-take arg os), get_or-take arg os k 0 h)

one : (os : List ℕ) (k : ℕ) → k < 1 → (k < length (get_or os 0 0 ∷ [])) × (get_or (get_or os 0 0 ∷ []) k 0 ≡ get_or os k 0)
one os zero h = (omega arith, refl)
one os (suc k) h = absurd (not-suc-le-zero (le_of_suc-le-suc h))

two : (os : List ℕ) (k : ℕ) → k < 2 → (k < length (get_or os 0 0 ∷ get_or os 1 0 ∷ [])) × (get_or (get_or os 0 0 ∷ get_or os 1 0 ∷ []) k 0 ≡ get_or os k 0)
two os zero h = (omega arith, refl)
two os (suc zero) h = (omega arith, refl)
two os (suc (suc k)) h = absurd (not-suc-le-zero (le_of_suc-le-suc (le_of_suc-le-suc h)))

row_operand : (kind arg lower upper : ℕ) (os : List ℕ) (k : ℕ) → k < count_of kind arg → count_of kind arg ≤ length os → Operand (row_from kind arg lower upper os) os k
unfolding row_from count_of Operand
row_operand zero arg lower upper os k h l = absurd (not-suc-le-zero h)
row_operand (suc zero) arg lower upper os k h l = absurd (not-suc-le-zero h)
row_operand (suc (suc zero)) arg lower upper os k h l = absurd (not-suc-le-zero h)
row_operand (suc (suc (suc zero))) arg lower upper os k h l = taken arg os k h l
row_operand (suc (suc (suc (suc zero)))) arg lower upper os k h l = taken arg os k h l
row_operand (suc (suc (suc (suc (suc zero))))) arg lower upper os k h l = one os k h
row_operand (suc (suc (suc (suc (suc (suc zero)))))) arg lower upper os k h l = two os k h
row_operand (suc (suc (suc (suc (suc (suc (suc zero))))))) arg lower upper os k h l = one os k h
row_operand (suc (suc (suc (suc (suc (suc (suc (suc zero)))))))) arg lower upper os k h l = one os k h
row_operand (suc (suc (suc (suc (suc (suc (suc (suc (suc zero))))))))) arg lower upper os k h l = two os k h
row_operand (suc (suc (suc (suc (suc (suc (suc (suc (suc (suc n)))))))))) arg lower upper os k h l = absurd (not-suc-le-zero h)

module _ (s : Sections) (ok : judged s ≡ 0) where
  by_operand : (r : ℕ) → In r s.operands → UsedIn (book_in s) r
  unfolding book_in row_in Operand
  by_operand r i =
      let m = owner s.rows i.0 (rows_in s) (omega (arith, i.1, operands_taken s ok)) in
      let q : ℕ = m.0 in
      let from : ℕ = start_in s.rows q in
      let os : List ℕ = drop from s.operands in
      let k : ℕ = i.0 - from in
      let e : from + k ≡ i.0 = omega (arith, m.2) in
      let a = row_operand (kind_in s.rows q) (arg_in s.rows q) (lower_in s.rows q) (upper_in s.rows q) os k (omega (arith, m.2, m.3))
      (omega (arith, length-drop from s.operands, operands_there s ok q m.1)) in
      let there : In r (operands_in (row_in s q)) = (k, a.0, a.1 ∙ get_or-drop from s.operands k 0 ∙ ap (λ j. get_or s.operands j 0) e ∙ i.2) in
      operand q (rw listed_length m.1) (rw (listed_at (row_in s) never (rows_in s) q m.1) there)

  pub book_used : Used (book_in s)
  unfolding book_in
  book_used r l =
      let n : times_in r ((s.operands ++ s.assumes) ++ s.guarantees) ≡ 1 = used s ok r (rw listed_length at l) in
      let p = times_append r (s.operands ++ s.assumes) s.guarantees in
      let q = times_append r s.operands s.assumes in
      ⊎_elim
      (λ x. by_operand r (in_times r s.operands x))
      (λ x. ⊎_elim
      (λ y. assume (in_times r s.assumes y))
      (λ y. guarantee (in_times r s.guarantees (omega arith)))
      (lt_or_ge 0 (times_in r s.assumes)))
      (lt_or_ge 0 (times_in r s.operands))
