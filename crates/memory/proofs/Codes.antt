-- A row tells its words: kind, arg, lower, upper and operands come back from the row that they make. Assumes nothing.
use Prim.Native.Nat.{ℕ, zero, suc, ◌≤◌, ◌<◌}
use mathlib.Core.Path.{◌≡◌, refl, sym, ◌∙◌}
use mathlib.Core.Bool.{true}
use mathlib.Core.List.{List, [], ◌∷◌}
use native.Mathlib.Omega.{arith}
use lib.ListN.{length, get_or, take}
use lib.Seq.{length-take-le}
use borrow.Author.Tests.{eqb-true}
use Rattle.pmtl.specs.Book.{Row}
use Rattle.pmtl.specs.Book.Row.{never, always, atom, conj, disj, neg, implies, historically, once, since}
use Rattle.book.specs.Rows.{row_from, count_of}
use Rattle.book.specs.Judging.{arg_good, form_good}
use Rattle.book.proofs.Accepted.{form_arg, form_kind, bounds_none}

abbrev pub kind_of : Row ℕ → ℕ
kind_of never = 0
kind_of always = 1
kind_of (atom a) = 2
kind_of (conj os) = 3
kind_of (disj os) = 4
kind_of (neg o) = 5
kind_of (implies x y) = 6
kind_of (historically g o) = 7
kind_of (once g o) = 8
kind_of (since g x y) = 9

abbrev pub arg_of : Row ℕ → ℕ
arg_of never = 0
arg_of always = 0
arg_of (atom a) = a
arg_of (conj os) = length os
arg_of (disj os) = length os
arg_of (neg o) = 1
arg_of (implies x y) = 2
arg_of (historically g o) = 1
arg_of (once g o) = 1
arg_of (since g x y) = 2

abbrev pub lower_of : Row ℕ → ℕ
lower_of never = 0
lower_of always = 0
lower_of (atom a) = 0
lower_of (conj os) = 0
lower_of (disj os) = 0
lower_of (neg o) = 0
lower_of (implies x y) = 0
lower_of (historically g o) = g.lower
lower_of (once g o) = g.lower
lower_of (since g x y) = g.lower

abbrev pub upper_of : Row ℕ → ℕ
upper_of never = 0
upper_of always = 0
upper_of (atom a) = 0
upper_of (conj os) = 0
upper_of (disj os) = 0
upper_of (neg o) = 0
upper_of (implies x y) = 0
upper_of (historically g o) = g.upper
upper_of (once g o) = g.upper
upper_of (since g x y) = g.upper

abbrev pub taken_by : Row ℕ → List ℕ
taken_by never = []
taken_by always = []
taken_by (atom a) = []
taken_by (conj os) = os
taken_by (disj os) = os
taken_by (neg o) = o ∷ []
taken_by (implies x y) = x ∷ y ∷ []
taken_by (historically g o) = o ∷ []
taken_by (once g o) = o ∷ []
taken_by (since g x y) = x ∷ y ∷ []

pub record Spelled (row : Row ℕ) (kind arg lower upper : ℕ) (os : List ℕ) : Type 0 where
  pub kind_is : kind_of row ≡ kind
  pub arg_is : arg_of row ≡ arg
  pub lower_is : lower_of row ≡ lower
  pub upper_is : upper_of row ≡ upper
  pub taken_is : taken_by row ≡ take (count_of kind arg) os

one_taken : (os : List ℕ) → 1 ≤ length os → get_or os 0 0 ∷ [] ≡ take 1 os
one_taken [] h = absurd (omega arith)
one_taken (x ∷ os) h = refl

two_taken : (os : List ℕ) → 2 ≤ length os → get_or os 0 0 ∷ get_or os 1 0 ∷ [] ≡ take 2 os
two_taken [] h = absurd (omega arith)
two_taken (x ∷ []) h = absurd (omega arith)
two_taken (x ∷ y ∷ os) h = refl

module _ (arg lower upper : ℕ) (os : List ℕ) where
  -- kinds 0 to 6 have lower and upper 0
  plain : (kind : ℕ) (row : Row ℕ) → kind < 7 → form_good kind arg lower upper ≡ true → kind_of row ≡ kind → arg_of row ≡ arg → lower_of row ≡ 0 → upper_of row ≡ 0
      → taken_by row ≡ take (count_of kind arg) os → Spelled row kind arg lower upper os
  plain kind row h g k a l u t =
      let b = bounds_none kind arg lower upper h g in
      record { kind_is = k; arg_is = a; lower_is = l ∙ sym b.0; upper_is = u ∙ sym b.1; taken_is = t }

  pub spelled_by : (kind : ℕ) → form_good kind arg lower upper ≡ true → count_of kind arg ≤ length os → Spelled (row_from kind arg lower upper os) kind arg lower upper os
  unfolding row_from count_of arg_good
  spelled_by zero g h = plain 0 never (omega arith) g refl (sym (eqb-true arg 0 (form_arg 0 arg lower upper g))) refl refl refl
  spelled_by (suc zero) g h = plain 1 always (omega arith) g refl (sym (eqb-true arg 0 (form_arg 1 arg lower upper g))) refl refl refl
  spelled_by (suc (suc zero)) g h = plain 2 (atom arg) (omega arith) g refl refl refl refl refl
  spelled_by (suc (suc (suc zero))) g h = plain 3 (conj (take arg os)) (omega arith) g refl (length-take-le arg os h) refl refl refl
  spelled_by (suc (suc (suc (suc zero)))) g h = plain 4 (disj (take arg os)) (omega arith) g refl (length-take-le arg os h) refl refl refl
  spelled_by (suc (suc (suc (suc (suc zero))))) g h =
      plain 5 (neg (get_or os 0 0)) (omega arith) g refl (sym (eqb-true arg 1 (form_arg 5 arg lower upper g))) refl refl (one_taken os h)
  spelled_by (suc (suc (suc (suc (suc (suc zero)))))) g h =
      plain 6 (implies (get_or os 0 0) (get_or os 1 0)) (omega arith) g refl (sym (eqb-true arg 2 (form_arg 6 arg lower upper g))) refl refl (two_taken os h)
  spelled_by (suc (suc (suc (suc (suc (suc (suc zero))))))) g h =
      record { kind_is = refl; arg_is = sym (eqb-true arg 1 (form_arg 7 arg lower upper g)); lower_is = refl; upper_is = refl; taken_is = one_taken os h }
  spelled_by (suc (suc (suc (suc (suc (suc (suc (suc zero)))))))) g h =
      record { kind_is = refl; arg_is = sym (eqb-true arg 1 (form_arg 8 arg lower upper g)); lower_is = refl; upper_is = refl; taken_is = one_taken os h }
  spelled_by (suc (suc (suc (suc (suc (suc (suc (suc (suc zero))))))))) g h =
      record { kind_is = refl; arg_is = sym (eqb-true arg 2 (form_arg 9 arg lower upper g)); lower_is = refl; upper_is = refl; taken_is = two_taken os h }
  spelled_by (suc (suc (suc (suc (suc (suc (suc (suc (suc (suc kind)))))))))) g h =
      absurd (let k = form_kind (suc (suc (suc (suc (suc (suc (suc (suc (suc (suc kind)))))))))) arg lower upper g in omega arith)
