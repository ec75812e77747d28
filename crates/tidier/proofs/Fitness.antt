-- What the words of an accepted book say of a step: whether it fits, and what it lays in the place of a row. Assumes nothing.
use Prim.Native.Nat.{ℕ, ◌+◌, ◌-◌, ◌/◌, ◌≤◌, ◌<◌}
use mathlib.Core.Path.{◌≡◌, refl, sym, ap, ◌∙◌}
use mathlib.Core.Bool.{Bool, true, false, ◌&&◌, ◌||◌}
use mathlib.Core.List.{List}
use native.Mathlib.Omega.{arith}
use lib.ListN.{length, get_or}
use lib.Dec.{eqb, ltb}
use borrow.Author.Tests.{eqb-true, eq-eqb, ne_eqb, lt-ltb, le-ltb}
use Rattle.numbers.specs.Limits.{ROW_WORDS}
use Rattle.lists.proofs.Tests.{and_no_left, and_no_right}
use Rattle.pmtl.specs.Book.{Row, Rows}
use Rattle.pmtl.specs.Book.Row.{neg}
use Rattle.book.specs.Rows.{count_of}
use Rattle.book.specs.Judging.{kind_in, arg_in, start_in}
use Rattle.book.specs.Kinds.{word_of_kind}
use Rattle.trees.specs.Books.{parts_in}
use Rattle.trees.specs.Walking.{Held, HeldRow, Walk, rows_said}
use Rattle.book.specs.declared.kind.Kind.{Kind}
use Rattle.book.specs.declared.kind.Kind.TheVariants.{And, Or, Not, Implies, Historically}
use Rattle.trees.proofs.Renumbered.{kind_is}
use Rattle.trees.proofs.Walking.{all, part_walk, said_is, said_ordered, said_long, said_count, said_part}
use Rattle.tidying.specs.declared.Form.{Form}
use Rattle.tidying.specs.declared.Form.TheVariants.{Nots, Single, Implication, History, Unknown}
use Rattle.tidying.specs.declared.Step.{Step}
use Rattle.tidying.specs.Steps.{parts_at, begins, fits_at, fits}
use Rattle.tidying.proofs.Fits.{In, Fitting, not_not, and_one, or_one, implication, history, not_count, fitting}
use Rattle.tidier.specs.Laying.{HeldAt, Fitted, form_at, target_by, target_of}

-- ---- a row of an accepted book
module _ {rows operands : List ℕ} {row : ℕ} (x : HeldAt rows operands row) where
  abbrev b : Rows
  b = rows_said rows operands

  abbrev n : ℕ
  n = count_of (kind_in rows row) (arg_in rows row)

  pub held_row : HeldRow rows row
  held_row = record { operands = operands; held = x.held; inside = x.inside }

  row_there : row < length b
  row_there = omega (arith, said_long x.held, x.inside)

  begins_said : (w : Kind) → begins w b row ≡ eqb (kind_in rows row) (word_of_kind w)
  unfolding begins
  begins_said w = ap (λ (k : ℕ). eqb k (word_of_kind w)) (rw (said_is x.held) (kind_is (all x.held) x.held.ok row x.inside))

  -- its one operand
  pub first_walk : length (parts_at b row) ≡ 1 → Walk rows operands row 1
  first_walk e = record { held = x.held; inside = x.inside; some = omega (arith, said_count x.held row x.inside) }

  first_said : length (parts_at b row) ≡ 1 → (o : ℕ) → o ≡ get_or operands (start_in rows row + (n - 1)) 0 → o ≡ get_or (parts_at b row) 0 0
  first_said e o eo =
      let c = said_count x.held row x.inside in
      let z : n - 1 ≡ 0 = omega arith in
      (rw z at eo) ∙ sym (said_part x.held row x.inside 0 (omega arith))

  first_held : length (parts_at b row) ≡ 1 → (o : ℕ) → o ≡ get_or operands (start_in rows row + (n - 1)) 0 → HeldAt rows operands o
  first_held e o eo = record { held = x.held; inside = (part_walk (first_walk e) (omega arith) o eo).inside }

  -- ---- forms
  is_not : (k : ℕ) → k ≡ kind_in rows row → k ≡ 5 → begins Not b row ≡ true
  is_not k e f = begins_said Not ∙ eq-eqb (kind_in rows row) 5 (sym e ∙ f)

  pub not_walk : {k : ℕ} → k ≡ kind_in rows row → k ≡ 5 → Walk rows operands row 1
  not_walk {k} e f = first_walk (not_count b (said_ordered x.held) row row_there (is_not k e f))

  pub not_there : {k : ℕ} (o : ℕ) → k ≡ kind_in rows row → k ≡ 5 → o ≡ get_or operands (start_in rows row + (n - 1)) 0 → o < length rows / ROW_WORDS
  not_there {k} o e f eo = (first_held (not_count b (said_ordered x.held) row row_there (is_not k e f)) o eo).inside

  pub not_no : {k : ℕ} → k ≡ kind_in rows row → (k ≡ 5 → ⊥) → false ≡ fits_at Nots b row
  unfolding fits_at
  not_no {k} e f = sym (and_no_left (begins Not b row) (begins Not b (get_or (parts_at b row) 0 0)) (begins_said Not ∙ ne_eqb (kind_in rows row) 5 (λ z. f (e ∙ z))))

  not_yes : {k : ℕ} (o : ℕ) → k ≡ kind_in rows row → k ≡ 5 → o ≡ get_or operands (start_in rows row + (n - 1)) 0 → fits_at Nots b row ≡ begins Not b o
  unfolding fits_at
  not_yes {k} o e f eo =
      let y = is_not k e f in
      let c = not_count b (said_ordered x.held) row row_there y in
      rw (y, ← first_said c o eo)

  pub single_no : {c : ℕ} → c ≡ n → (c ≡ 1 → ⊥) → false ≡ fits_at Single b row
  unfolding fits_at
  single_no {c} e f = sym (and_no_right (begins And b row || begins Or b row) (eqb (length (parts_at b row)) 1) (ne_eqb (length (parts_at b row)) 1 (λ z. f (omega (arith, said_count x.held row x.inside)))))

  one_part : {c : ℕ} → c ≡ n → c ≡ 1 → eqb (length (parts_at b row)) 1 ≡ true
  one_part e f = eq-eqb (length (parts_at b row)) 1 (omega (arith, said_count x.held row x.inside))

  pub single_and : {c k : ℕ} → c ≡ n → c ≡ 1 → k ≡ kind_in rows row → k ≡ 3 → true ≡ fits_at Single b row
  unfolding fits_at
  single_and {c} {k} e f g h = let y : begins And b row ≡ true = begins_said And ∙ eq-eqb (kind_in rows row) 3 (sym g ∙ h) in sym (rw (y, one_part e f) refl)

  pub single_or : {c k : ℕ} {z : Bool} → c ≡ n → c ≡ 1 → k ≡ kind_in rows row → (k ≡ 3 → ⊥) → z ≡ eqb (kind_in rows row) 4 → z ≡ fits_at Single b row
  unfolding fits_at
  single_or {c} {k} {z} e f g h y =
      let u : begins And b row ≡ false = begins_said And ∙ ne_eqb (kind_in rows row) 3 (λ q. h (g ∙ q)) in
      y ∙ sym (begins_said Or) ∙ sym (rw (u, one_part e f) (and_yes (begins Or b row)))
    where
      and_yes : (v : Bool) → (v && true) ≡ v
      and_yes true = refl
      and_yes false = refl

  pub implies_is : {z : Bool} → z ≡ eqb (kind_in rows row) 6 → z ≡ fits_at Implication b row
  unfolding fits_at
  implies_is e = e ∙ sym (begins_said Implies)

  pub history_is : {z : Bool} → z ≡ eqb (kind_in rows row) 7 → z ≡ fits_at History b row
  unfolding fits_at
  history_is e = e ∙ sym (begins_said Historically)

pub not_second : {rows operands : List ℕ} {row k : ℕ} {z : Bool} (x : HeldAt rows operands row) (o : ℕ) → k ≡ kind_in rows row → k ≡ 5
    → o ≡ get_or operands (start_in rows row + (count_of (kind_in rows row) (arg_in rows row) - 1)) 0 → z ≡ eqb (kind_in rows o) 5 → z ≡ fits_at Nots (rows_said rows operands) row
not_second x o e f eo y = y ∙ sym (not_yes x o e f eo ∙ begins_said (record { held = x.held; inside = not_there x o e f eo }) Not)

-- ---- the whole test
pub fits_none : {rows operands : List ℕ} → Held rows operands → (s : Step) → length rows / ROW_WORDS ≤ s.row → false ≡ fits (rows_said rows operands) s
unfolding fits
fits_none {rows} {operands} x s h = sym (and_no_left (ltb s.row (length (rows_said rows operands))) (fits_at s.form (rows_said rows operands) s.row) (le-ltb s.row (length (rows_said rows operands)) (omega (arith, said_long x))))

pub fits_there : {rows operands : List ℕ} {z : Bool} → Held rows operands → (s : Step) → s.row < length rows / ROW_WORDS → z ≡ fits_at s.form (rows_said rows operands) s.row → z ≡ fits (rows_said rows operands) s
unfolding fits
fits_there {rows} {operands} x s h e = let k : s.row < length (rows_said rows operands) = omega (arith, said_long x) in e ∙ sym (rw (lt-ltb s.row (length (rows_said rows operands)) k) refl)

-- ---- the form of a step at a row
pub form_named : (s : Step) (r : ℕ) → r ≡ s.row → s.form ≡ form_at s r
unfolding form_at
form_named s r e = rw (eq-eqb r s.row e, form_at) refl

pub form_other : (s : Step) (r : ℕ) → (r ≡ s.row → ⊥) → Unknown ≡ form_at s r
unfolding form_at
form_other s r e = rw (ne_eqb r s.row e, form_at) refl

-- a form that is one is that of the row that is named
pub named_form : (s : Step) (r : ℕ) (f : Form) → form_at s r ≡ f → (f ≡ Unknown → ⊥) → (r ≡ s.row) × (s.form ≡ f)
unfolding form_at
named_form s r f e n = by_test (eqb r s.row) refl e
  where
    by_test : (z : Bool) → eqb r s.row ≡ z → elim z as (λ y. Form) [ true ↦ s.form | false ↦ Unknown ] ≡ f → (r ≡ s.row) × (s.form ≡ f)
    by_test true z q = (eqb-true r s.row z, q)
    by_test false z q = absurd (n (sym q))

-- ---- a row that the step drops
number_of : Form → ℕ
number_of Nots = 0
number_of Single = 1
number_of Implication = 2
number_of History = 3
number_of Unknown = 4

-- a Not of a Not, and a row of one operand
not_not_is : {b : Rows} {r : ℕ} (f : Form) → Fitting b r f → f ≡ Nots → (o : ℕ) × (p : ℕ) × In b r (neg o) × In b o (neg p)
unfolding number_of
not_not_is f (not_not {o} {p} i j) e = (o, p, i, j)
not_not_is f (and_one i) e = absurd (omega (arith, ap number_of e))
not_not_is f (or_one i) e = absurd (omega (arith, ap number_of e))
not_not_is f (implication i) e = absurd (omega (arith, ap number_of e))
not_not_is f (history i) e = absurd (omega (arith, ap number_of e))

single_is : {b : Rows} {r : ℕ} (f : Form) → Fitting b r f → f ≡ Single → length (parts_at b r) ≡ 1
unfolding number_of
single_is f (not_not i j) e = absurd (omega (arith, ap number_of e))
single_is f (and_one i) e = ap (λ (row : Row ℕ). length (parts_in row)) i.is
single_is f (or_one i) e = ap (λ (row : Row ℕ). length (parts_in row)) i.is
single_is f (implication i) e = absurd (omega (arith, ap number_of e))
single_is f (history i) e = absurd (omega (arith, ap number_of e))

module _ {rows operands : List ℕ} {s : Step} {row : ℕ} (x : Fitted rows operands s row) where
  abbrev said : Rows
  said = rows_said rows operands

  abbrev place : ℕ → ℕ
  place r = start_in rows r + (count_of (kind_in rows r) (arg_in rows r) - 1)

  fitting_here : (f : Form) → form_at s row ≡ f → (f ≡ Unknown → ⊥) → Fitting said row f
  fitting_here f e n = let k = named_form s row f e n in rw (k.0, ← k.1) (fitting said (said_ordered x.at.held) s x.fit)

  module _ (f : Form) (e : f ≡ form_at s row) (k : f ≡ Nots) where
    nots : (o : ℕ) × (p : ℕ) × In said row (neg o) × In said o (neg p)
    unfolding number_of
    nots = not_not_is Nots (fitting_here Nots (sym e ∙ k) (λ z. omega (arith, ap number_of z))) refl

    outer : length (parts_at said row) ≡ 1
    outer = ap (λ (r : Row ℕ). length (parts_in r)) nots.2.is

    pub nots_walk : Walk rows operands row 1
    nots_walk = first_walk x.at outer

    module _ (o : ℕ) (eo : o ≡ get_or operands (place row) 0) where
      inner_is : o ≡ nots.0
      inner_is = first_said x.at outer o eo ∙ ap (λ (r : Row ℕ). get_or (parts_in r) 0 0) nots.2.is

      inner : length (parts_at said o) ≡ 1
      inner = ap (λ (z : ℕ). length (parts_at said z)) inner_is ∙ ap (λ (r : Row ℕ). length (parts_in r)) nots.3.is

      pub nots_inner : Walk rows operands o 1
      nots_inner = first_walk (first_held x.at outer o eo) inner

      pub nots_target : (p : ℕ) → p ≡ get_or operands (place o) 0 → p ≡ target_of said s row
      unfolding target_of
      nots_target p ep =
          first_said (first_held x.at outer o eo) inner p ep
          ∙ ap (λ (z : ℕ). get_or (parts_at said z) 0 0) (first_said x.at outer o eo)
          ∙ ap (λ (g : Form). target_by g said row) (sym k ∙ e)

  module _ (f : Form) (e : f ≡ form_at s row) (k : f ≡ Single) where
    one_operand : length (parts_at said row) ≡ 1
    unfolding number_of
    one_operand = single_is Single (fitting_here Single (sym e ∙ k) (λ z. omega (arith, ap number_of z))) refl

    pub single_walk : Walk rows operands row 1
    single_walk = first_walk x.at one_operand

    pub single_target : (o : ℕ) → o ≡ get_or operands (place row) 0 → o ≡ target_of said s row
    unfolding target_of
    single_target o eo = first_said x.at one_operand o eo ∙ ap (λ (g : Form). target_by g said row) (sym k ∙ e)

pub other_target : (b : Rows) (s : Step) (row : ℕ) (f g : Form) → f ≡ form_at s row → f ≡ g → target_by g b row ≡ row → row ≡ target_of b s row
unfolding target_of
other_target b s row f g e k z = sym z ∙ ap (λ (h : Form). target_by h b row) (sym k ∙ e)
