-- A step that fits: what the row that it names is. Assumes nothing.
use Prim.Native.Nat.{ℕ, ◌<◌}
use mathlib.Core.Path.{◌≡◌, refl, sym, ap, ◌∙◌}
use mathlib.Core.Logic.{◌⊎◌, inl, inr}
use mathlib.Core.Bool.{Bool, true, false, ◌||◌, false≢true}
use mathlib.Core.List.{[], ◌∷◌}
use native.Mathlib.Omega.{arith}
use lib.ListN.{length, get_or}
use lib.Dec.{eqb, ltb}
use borrow.Author.Tests.{eqb-true, ltb-true}
use Rattle.lists.proofs.Tests.{and_left, and_right}
use Rattle.pmtl.specs.Book.{Range, Row, Rows, row_at, Ordered}
use Rattle.pmtl.specs.Book.Row.{conj, disj, neg, implies, historically}
use Rattle.trees.specs.Forest.{Head, head_of}
use Rattle.trees.specs.Numbered.{row_with}
use Rattle.book.specs.Kinds.{word_of_kind, kind_of_word}
use Rattle.trees.specs.Books.{head_in, parts_in}
use Rattle.book.specs.declared.kind.Kind.{Kind}
use Rattle.book.specs.declared.kind.Kind.TheVariants.{False, True, Atom, And, Or, Not, Implies, Historically, Once, Since}
use Rattle.trees.proofs.Books.{with_itself}
use Rattle.trees.proofs.Back.{one_part}
use Rattle.tidying.specs.declared.Form.{Form}
use Rattle.tidying.specs.declared.Form.TheVariants.{Nots, Single, Implication, History, Unknown}
use Rattle.tidying.specs.declared.Step.{Step}
use Rattle.tidying.specs.Steps.{word_at, parts_at, begins, fits_at, fits}

-- row r is there and is this
pub record In (b : Rows) (r : ℕ) (row : Row ℕ) : Type 0 where
  pub there : r < length b
  pub is : row_at b r ≡ row

-- ---- words by their kinds
word_back : (w : Kind) → kind_of_word (word_of_kind w) ≡ w
unfolding kind_of_word
word_back False = refl
word_back True = refl
word_back Atom = refl
word_back And = refl
word_back Or = refl
word_back Not = refl
word_back Implies = refl
word_back Historically = refl
word_back Once = refl
word_back Since = refl

begins_with : (w : Kind) (b : Rows) (r : ℕ) → begins w b r ≡ true → word_at b r ≡ w
unfolding begins
begins_with w b r e = sym (word_back (word_at b r)) ∙ ap kind_of_word (eqb-true (word_of_kind (word_at b r)) (word_of_kind w) e) ∙ word_back w

-- a row by its head
pub row_of : (row : Row ℕ) (h : Head) → head_in row ≡ h → row ≡ row_with 0 h (parts_in row)
row_of row h e = sym (with_itself 0 row) ∙ ap (λ (z : Head). row_with 0 z (parts_in row)) e

row_by : (w : Kind) (b : Rows) (r : ℕ) → begins w b r ≡ true → row_at b r ≡ row_with 0 (head_of w (head_in (row_at b r)).atom (head_in (row_at b r)).lower (head_in (row_at b r)).upper) (parts_at b r)
row_by w b r e = let h = head_in (row_at b r) in row_of (row_at b r) (head_of w h.atom h.lower h.upper) (ap (λ (z : Kind). head_of z h.atom h.lower h.upper) (begins_with w b r e))

-- ---- what the row of a step that fits is
pub data Fitting (b : Rows) (r : ℕ) : Form → Type 0 where
  not_not : {o p : ℕ} → In b r (neg o) → In b o (neg p) → Fitting b r Nots
  and_one : {o : ℕ} → In b r (conj (o ∷ [])) → Fitting b r Single
  or_one : {o : ℕ} → In b r (disj (o ∷ [])) → Fitting b r Single
  implication : {x y : ℕ} → In b r (implies x y) → Fitting b r Implication
  history : {g : Range} {x : ℕ} → In b r (historically g x) → Fitting b r History

module _ (b : Rows) (w : Ordered b) (r : ℕ) (l : r < length b) where
  abbrev first : ℕ
  first = get_or (parts_at b r) 0 0

  is_not : begins Not b r ≡ true → In b r (neg first)
  unfolding row_with
  is_not e = record { there = l; is = row_by Not b r e }

  pub not_count : begins Not b r ≡ true → length (parts_at b r) ≡ 1
  not_count e = ap (λ (row : Row ℕ). length (parts_in row)) (is_not e).is

  single_row : (begins And b r ≡ true) ⊎ (begins Or b r ≡ true) → length (parts_at b r) ≡ 1 → Fitting b r Single
  unfolding row_with
  single_row (inl e) k = and_one (record { there = l; is = row_by And b r e ∙ ap conj (sym (one_part 0 (parts_at b r) k)) })
  single_row (inr e) k = or_one (record { there = l; is = row_by Or b r e ∙ ap disj (sym (one_part 0 (parts_at b r) k)) })

  either : (x y : Bool) → (x || y) ≡ true → (x ≡ true) ⊎ (y ≡ true)
  either true y e = inl refl
  either false y e = inr e

  fitting_at : (form : Form) → fits_at form b r ≡ true → Fitting b r form
  unfolding fits_at row_with
  fitting_at Nots e =
      let i = is_not (and_left (begins Not b r) (begins Not b first) e) in
      let low : first < r = rw i.is at (w r) in
      let o = get_or (parts_at b first) 0 0 in
      let j : In b first (neg o) = record { there = omega (arith, l); is = row_by Not b first (and_right (begins Not b r) (begins Not b first) e) } in
      not_not i j
  fitting_at Single e =
      single_row (either (begins And b r) (begins Or b r) (and_left (begins And b r || begins Or b r) (eqb (length (parts_at b r)) 1) e))
      (eqb-true (length (parts_at b r)) 1 (and_right (begins And b r || begins Or b r) (eqb (length (parts_at b r)) 1) e))
  fitting_at Implication e = implication (record { there = l; is = row_by Implies b r e })
  fitting_at History e = history (record { there = l; is = row_by Historically b r e })
  fitting_at Unknown e = absurd (false≢true e)

module _ (b : Rows) (w : Ordered b) (s : Step) (e : fits b s ≡ true) where
  pub named_there : s.row < length b
  unfolding fits
  named_there = ltb-true s.row (length b) (and_left (ltb s.row (length b)) (fits_at s.form b s.row) e)

  pub fitting : Fitting b s.row s.form
  unfolding fits
  fitting = fitting_at b w s.row named_there s.form (and_right (ltb s.row (length b)) (fits_at s.form b s.row) e)
