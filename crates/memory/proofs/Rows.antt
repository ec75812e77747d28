-- The rows that a kept memory holds: a row from its words, and its operands, which are below it. Assumes nothing.
use Prim.Native.Nat.{ℕ, zero, suc, ◌+◌, ◌-◌, ◌<◌}
use native.Mathlib.Omega.{arith}
use native.Mathlib.Nat.{add-zero, add_assoc}
use native.Mathlib.Numerals.{add-one}
use native.Mathlib.Decide.{dec_lt}
use mathlib.Core.Path.{◌≡◌, refl, sym, ap, subst, ◌∙◌}
use mathlib.Core.List.{List, ◌∷◌, map}
use lib.ListN.{length, get_or, take, drop, length-take, length-drop}
use lib.Seq.{drop-cons, get_or-take, get_or-drop}
use lib.Dec.{lit<}
use Rattle.pmtl.specs.Book.{row_at, AllBelow, Below, Ordered}
use Rattle.pmtl.specs.Book.Row.{never}
use Rattle.pmtl.proofs.Table.{row_out}
use Rattle.memory.specs.Layout.{OPERANDS, SIZE}
use Rattle.memory.specs.Memory.{row_count, kind_at, arg_at, lower_at, upper_at, start_at, operands_of, row_of, rows_of, operands_from}
use Rattle.book.specs.Rows.{row_from, count_of}
use Rattle.memory.specs.Kept.{BookKept, Span}
use Rattle.lists.proofs.Listed.{listed_length, listed_at}

-- ---- rows by their words
pub rows_length : (m : List ℕ) → length (rows_of m) ≡ row_count m
unfolding rows_of
rows_length m = listed_length (row_of m) (row_count m)

pub row_at_lem : (m : List ℕ) (r : ℕ) → r < row_count m → row_at (rows_of m) r ≡ row_of m r
unfolding rows_of
row_at_lem m r h = listed_at (row_of m) never (row_count m) r h

-- what the code has read of a row
pub record Read (m : List ℕ) (r kind arg start : ℕ) : Type 0 where
  pub kept : BookKept m
  pub inside : r < row_count m
  pub kind_is : kind ≡ kind_at m r
  pub arg_is : arg ≡ arg_at m r
  pub start_is : start ≡ start_at m r

pub row_read : {m : List ℕ} {r kind arg start : ℕ} → Read m r kind arg start → row_at (rows_of m) r ≡ row_from kind arg (lower_at m r) (upper_at m r) (drop start (operands_of m))
unfolding row_of
row_read {m} {r} e = rw (e.kind_is, e.arg_is, e.start_is) (row_at_lem m r e.inside)

pub below_128 : {m : List ℕ} {r : ℕ} → BookKept m → r < row_count m → r < 128
below_128 kept h = omega (arith, kept.few)

-- ---- operands
pub span_read : {m : List ℕ} {r kind arg start : ℕ} → Read m r kind arg start → Span m r start (count_of kind arg)
span_read {m} {r} e =
    let k = e.kept.rows r e.inside in
    rw (e.kind_is, e.arg_is, e.start_is) record { inside = k.span; below = k.below }

pub operand_is : (m : List ℕ) (place i : ℕ) → place + i < 128 → get_or (drop place (operands_of m)) i 0 ≡ get_or m (OPERANDS + (place + i)) 0
operand_is m place i h = rw (get_or-drop, get_or-take, get_or-drop)

pub first_is : {m : List ℕ} {r place n x : ℕ} → Span m r place n → 0 < n → x ≡ get_or m (OPERANDS + place) 0 → get_or (drop place (operands_of m)) 0 0 ≡ x
first_is {m} {r} {place} s h e = operand_is m place 0 (omega (arith, s.inside)) ∙ rw add-zero (sym e)

pub second_is : {m : List ℕ} {r place n x : ℕ} → Span m r place n → 1 < n → x ≡ get_or m (OPERANDS + (place + 1)) 0 → get_or (drop place (operands_of m)) 1 0 ≡ x
second_is {m} {r} {place} s h e = operand_is m place 1 (omega (arith, s.inside)) ∙ sym e

pub first_below : {m : List ℕ} {r place n x : ℕ} → Span m r place n → 0 < n → x ≡ get_or m (OPERANDS + place) 0 → x < r
first_below s h e = rw e (rw add-zero at (s.below 0 h))

pub second_below : {m : List ℕ} {r place n x : ℕ} → Span m r place n → 1 < n → x ≡ get_or m (OPERANDS + (place + 1)) 0 → x < r
second_below s h e = rw e (s.below 1 h)

-- what is left of a span after its first operand
pub span_rest : {m : List ℕ} {r place n : ℕ} → Span m r place n → 0 < n → Span m r (place + 1) (n - 1)
span_rest {m} {r} {place} {n} s h = record {
  inside = omega (arith, s.inside);
  below = λ k lt. rw (add_assoc place 1 k) (s.below (1 + k) (omega arith));
}

-- a span with an operand begins with it
span_cons : {m : List ℕ} {r place n x : ℕ} → length m ≡ SIZE → Span m r place n → 0 < n → x ≡ get_or m (OPERANDS + place) 0
    → operands_from m place n ≡ x ∷ operands_from m (place + 1) (n - 1)
span_cons {n = zero} long s h e = absurd (omega arith)
span_cons {m} {r} {place} {n = suc n} long s h e =
    let short : place < length (operands_of m) = rw (length-take, length-drop) (omega (arith, s.inside)) in
    let one : suc n - 1 ≡ n = omega arith in
    rw (drop-cons (operands_of m) place 0 short, add-one, one) (ap (λ x. x ∷ take n (drop (suc place) (operands_of m))) (get_or-take 128 (drop OPERANDS m) place 0 (omega (arith, s.inside)) ∙ get_or-drop OPERANDS m place 0 ∙ sym e))

-- as a walk that has asked the first of them finds their answers
pub walk_cons : {A : Type 0} (f : ℕ → A) {m : List ℕ} {r place n x : ℕ} → length m ≡ SIZE → Span m r place n → 0 < n → x ≡ get_or m (OPERANDS + place) 0 → {v : A} → v ≡ f x
    → map f (operands_from m place n) ≡ v ∷ map f (operands_from m (place + 1) (n - 1))
walk_cons f {m} {r} {place} {n} long s h e ev = ap (map f) (span_cons long s h e) ∙ ap (λ v. v ∷ map f (operands_from m (place + 1) (n - 1))) (sym ev)

-- ---- an operand's number is below its owner's
all_below_lem : (n : ℕ) {m : List ℕ} {r place : ℕ} → length m ≡ SIZE → Span m r place n → AllBelow r (operands_from m place n)
all_below_lem zero long s = tt
all_below_lem (suc n) {m} {r} {place} long s =
    let one : suc n - 1 ≡ n = omega arith in
    subst (AllBelow r) (sym (span_cons long s (omega arith) refl))
    (first_below s (omega arith) refl, rw one (all_below_lem n long (rw one at (span_rest s (omega arith)))))

one_below : {m : List ℕ} {r place n : ℕ} → Span m r place n → 0 < n → get_or (drop place (operands_of m)) 0 0 < r
one_below s h = rw (first_is s h refl) (first_below s h refl)

two_below : {m : List ℕ} {r place n : ℕ} → Span m r place n → 1 < n → get_or (drop place (operands_of m)) 1 0 < r
two_below s h = rw (second_is s h refl) (second_below s h refl)

below_from : (kind arg lower upper : ℕ) {m : List ℕ} {r start : ℕ} → length m ≡ SIZE → Span m r start (count_of kind arg) → Below r (row_from kind arg lower upper (drop start (operands_of m)))
unfolding row_from count_of
below_from zero arg lower upper long s = tt
below_from (suc zero) arg lower upper long s = tt
below_from (suc (suc zero)) arg lower upper long s = tt
below_from (suc (suc (suc zero))) arg lower upper long s = all_below_lem arg long s
below_from (suc (suc (suc (suc zero)))) arg lower upper long s = all_below_lem arg long s
below_from (suc (suc (suc (suc (suc zero))))) arg lower upper long s = one_below s (lit< tt)
below_from (suc (suc (suc (suc (suc (suc zero)))))) arg lower upper long s = (one_below s (lit< tt), two_below s (lit< tt))
below_from (suc (suc (suc (suc (suc (suc (suc zero))))))) arg lower upper long s = one_below s (lit< tt)
below_from (suc (suc (suc (suc (suc (suc (suc (suc zero)))))))) arg lower upper long s = one_below s (lit< tt)
below_from (suc (suc (suc (suc (suc (suc (suc (suc (suc zero))))))))) arg lower upper long s = (one_below s (lit< tt), two_below s (lit< tt))
below_from (suc (suc (suc (suc (suc (suc (suc (suc (suc (suc k)))))))))) arg lower upper long s = tt

pub kept_ordered : {m : List ℕ} → BookKept m → Ordered (rows_of m)
unfolding row_of
kept_ordered {m} kept r = go (dec_lt r (row_count m))
  where
    go : Dec (r < row_count m) → Below r (row_at (rows_of m) r)
    go (yes h) = rw (row_at_lem m r h) (below_from (kind_at m r) (arg_at m r) (lower_at m r) (upper_at m r) {m = m} {r = r} {start = start_at m r} kept.long record { inside = (kept.rows r h).span; below = (kept.rows r h).below })
    go (no h) = rw (row_out (rows_of m) r (omega (arith, rows_length m))) tt
