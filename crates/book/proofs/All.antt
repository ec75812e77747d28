-- A test of all numbers below a bound, made one after the other. Assumes nothing.
use mathlib.Core.Path.{◌≡◌, refl, sym, ap, ◌∙◌}
use mathlib.Core.Bool.{Bool, true, false, ◌&&◌, and_assoc, and-true}
use mathlib.Core.Logic.{⊎_elim}
use mathlib.Core.List.{List, [], ◌∷◌, ◌++◌}
use Prim.Native.Nat.{ℕ, zero, suc, ◌+◌, ◌-◌, ◌≤◌, ◌<◌}
use native.Mathlib.Nat.{le_of_suc-le-suc, not-suc-le-zero, eq-or-lt_of_le}
use native.Mathlib.Numerals.{add-one}
use native.Mathlib.Omega.{arith}
use lib.ListN.{length, get_or, take, drop, length-drop}
use lib.Seq.{get_or-drop, length-take-le}
use Rattle.std.specs.List.{list_all}
use Rattle.std.proofs.lemmas.List.{get_or-take}
use Rattle.std.proofs.lemmas.List.Folds.{list_all-append}
use Rattle.lists.proofs.Tests.{and_intro, and_no_left, and_no_right}
use Rattle.pmtl.specs.Book.{every}
use Rattle.book.specs.Judging.{all_to}

module _ (f : ℕ → Bool) where
  pub all_start : all_to f 0 ≡ true
  unfolding all_to
  all_start = refl

  pub all_more : (i : ℕ) → all_to f i ≡ true → f i ≡ true → all_to f (i + 1) ≡ true
  unfolding all_to
  all_more i h e = rw add-one (and_intro (all_to f i) (f i) h e)

  pub all_fails : (i n : ℕ) → i < n → f i ≡ false → all_to f n ≡ false
  unfolding all_to
  all_fails i zero l e = absurd (not-suc-le-zero l)
  all_fails i (suc n) l e =
      ⊎_elim
      (λ q. and_no_right (all_to f n) (f n) (rw (← q) e))
      (λ m. and_no_left (all_to f n) (f n) (all_fails i n m e))
      (eq-or-lt_of_le (le_of_suc-le-suc l))

pub all_same : (f g : ℕ → Bool) (n : ℕ) → ((i : ℕ) → i < n → f i ≡ g i) → all_to f n ≡ all_to g n
unfolding all_to
all_same f g zero e = refl
all_same f g (suc n) e = rw (all_same f g n (λ i l. e i (omega arith)), e n (omega arith))

-- the same of the elements of a list, or of a part of it
all_front : (f : ℕ → Bool) (n : ℕ) → all_to f (suc n) ≡ (f 0 && all_to (λ i. f (suc i)) n)
unfolding all_to
all_front f zero = sym (and-true (f 0))
all_front f (suc n) = ap (λ b. b && f (suc n)) (all_front f n) ∙ and_assoc (f 0) (all_to (λ i. f (suc i)) n) (f (suc n))

all_listed : (p : ℕ → Bool) (xs : List ℕ) → list_all p xs ≡ all_to (λ i. p (get_or xs i 0)) (length xs)
unfolding all_to
all_listed p [] = refl
all_listed p (x ∷ xs) = ap (λ b. p x && b) (all_listed p xs) ∙ sym (all_front (λ i. p (get_or (x ∷ xs) i 0)) (length xs))

pub all_in_front : (p : ℕ → Bool) (xs : List ℕ) (n : ℕ) → n ≤ length xs → list_all p (take n xs) ≡ all_to (λ i. p (get_or xs i 0)) n
all_in_front p xs n fits =
    all_listed p (take n xs)
    ∙ rw (length-take-le n xs fits) (all_same (λ i. p (get_or (take n xs) i 0)) (λ i. p (get_or xs i 0)) n (λ i l. ap p (get_or-take n xs i 0 l)))

pub all_in_part : (p : ℕ → Bool) (xs : List ℕ) (from count : ℕ) → from + count ≤ length xs
    → list_all p (take (from + count - from) (drop from xs)) ≡ all_to (λ i. p (get_or xs (from + i) 0)) count
all_in_part p xs from count fits =
    let long : from + count - from ≡ count = omega arith in
    rw long
    (all_in_front p (drop from xs) count (omega (arith, length-drop from xs))
    ∙ all_same (λ i. p (get_or (drop from xs) i 0)) (λ i. p (get_or xs (from + i) 0)) count (λ i l. ap p (get_or-drop from xs i 0)))

every_listed : (p : ℕ → Bool) (xs : List ℕ) → every p xs ≡ list_all p xs
unfolding every
every_listed p [] = refl
every_listed p (x ∷ xs) = ap (λ b. p x && b) (every_listed p xs)

pub every_append : (p : ℕ → Bool) (xs ys : List ℕ) → every p (xs ++ ys) ≡ (list_all p xs && list_all p ys)
every_append p xs ys = every_listed p (xs ++ ys) ∙ list_all-append p xs ys
