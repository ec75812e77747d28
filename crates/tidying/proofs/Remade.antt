-- The trees of a book after a step that fits: what each row becomes, and that all are good. Assumes nothing.
use Prim.Native.Nat.{ℕ, ◌<◌}
use mathlib.Core.Path.{◌≡◌, refl, sym, ap, ap₂, ◌∙◌}
use mathlib.Core.Bool.{Bool, true, false}
use mathlib.Core.List.{List, [], ◌∷◌, ◌++◌, map}
use native.Mathlib.Omega.{arith}
use lib.ListN.{length, length-map}
use lib.Dec.{eqb}
use borrow.Author.Tests.{eqb-true, eqb-false, eq-eqb, ne_eqb}
use Rattle.pmtl.specs.Book.{Range, Row, Rows, row_at, AllBelow, Ordered}
use Rattle.pmtl.specs.Book.Row.{conj, disj, neg, implies, historically}
use Rattle.pmtl.proofs.Table.{by_rows, answer_in}
use Rattle.book.specs.Judging.{arg_good, form_good, range_good}
use Rattle.trees.specs.Forest.{Head, head_of, Forest, none, tree, one, ◌then◌, count, Fit, Good}
use Rattle.trees.specs.Books.{head_in, parts_in, joined}
use Rattle.book.specs.declared.kind.Kind.TheVariants.{Or, Not, Historically, Once}
use Rattle.trees.proofs.Numbered.{good_then}
use Rattle.trees.proofs.Built.{then_none, then_assoc, count_then}
use Rattle.trees.proofs.Books.{AllOf, each_below, parts_below, head_map, parts_map, fit_head}
use Rattle.trees.proofs.Judged.{HeadGood, HeadsGood, heads_then}
use Rattle.trees.proofs.Back.{Single, Singles}
use Rattle.tidying.specs.declared.Form.{Form}
use Rattle.tidying.specs.declared.Form.TheVariants as form
use Rattle.tidying.specs.declared.Step.{Step}
use Rattle.tidying.specs.Steps.{parts_at, fits, not_of, remade, step_rule, stepped_at}
use Rattle.tidying.proofs.Fits.{In, Fitting, not_not, and_one, or_one, implication, history, fitting}

-- ---- lists of trees
pub only : (f : Forest) → joined (f ∷ []) ≡ f
unfolding joined
only f = then_none f

pub joined_append : (xs ys : List Forest) → joined (xs ++ ys) ≡ joined xs then joined ys
unfolding joined ◌then◌
joined_append [] ys = refl
joined_append (x ∷ xs) ys = ap (λ (z : Forest). x then z) (joined_append xs ys) ∙ sym (then_assoc x (joined xs) (joined ys))

-- ---- trees that are single, with heads that a row may have
pub record Sane (f : Forest) : Type 0 where
  pub single : Single f
  pub heads : HeadsGood f

abbrev pub Sanes : List Forest → Type 0
Sanes [] = Unit {0}
Sanes (f ∷ fs) = Sane f × Sanes fs

pub record AllSane (fs : List Forest) : Type 0 where
  pub counted : count (joined fs) ≡ length fs
  pub good : Good (joined fs)
  pub heads : HeadsGood (joined fs)
  pub singles : Singles fs

pub all_sane : (fs : List Forest) → Sanes fs → AllSane fs
unfolding joined count
all_sane [] x = record { counted = refl; good = tt; heads = tt; singles = tt }
all_sane (f ∷ fs) x = let a = all_sane fs x.1 in record {
  counted = count_then f (joined fs) ∙ omega (arith, x.0.single.only, a.counted);
  good = good_then f (joined fs) x.0.single.good a.good;
  heads = heads_then f (joined fs) x.0.heads a.heads;
  singles = (x.0.single, a.singles);
}

-- a head over such trees
pub sane_one : (h : Head) (fs : List Forest) → Sanes fs → Fit h.word h.atom h.lower h.upper (length fs) → HeadGood h (length fs) → Sane (one h (joined fs))
unfolding count
sane_one h fs x f g = let a = all_sane fs x in record {
  single = record { only = refl; good = (rw a.counted f, a.good, tt) };
  heads = (rw a.counted g, a.heads, tt);
}

not_good : HeadGood (head_of Not 0 0 0) 1
unfolding form_good arg_good range_good
not_good = (refl, refl)

or_good : HeadGood (head_of Or 0 0 0) 2
unfolding form_good arg_good range_good
or_good = (refl, refl)

once_good : (l u : ℕ) → HeadGood (head_of Historically 0 l u) 1 → HeadGood (head_of Once 0 l u) 1
unfolding form_good arg_good
once_good l u g = (refl, g.1)

pub sane_not : (f : Forest) → Sane f → Sane (not_of f)
sane_not f x = rw (only f) at (sane_one (head_of Not 0 0 0) (f ∷ []) (x, tt) (refl, refl, refl, refl) not_good)

-- ---- what remaking makes of parts that are there
nots_of : (h k : Head) (q : Forest) → remade form.Nots h (joined (one k q ∷ [])) ≡ q
unfolding remade
nots_of h k q = ap (remade form.Nots h) (only (one k q))

single_of : (h : Head) (f : Forest) → remade form.Single h (joined (f ∷ [])) ≡ f
unfolding remade
single_of h f = only f

implication_of : (h : Head) (f g : Forest) → Single f → remade form.Implication h (joined (f ∷ g ∷ [])) ≡ one (head_of Or 0 0 0) (joined (not_of f ∷ g ∷ []))
unfolding remade joined ◌then◌ count
implication_of h none g x = absurd (omega (arith, x.only))
implication_of h (tree k p none) g x = refl
implication_of h (tree k p (tree k₂ p₂ s)) g x = absurd (omega (arith, x.only))

history_of : (h : Head) (f : Forest) → remade form.History h (joined (f ∷ [])) ≡ not_of (one (head_of Once 0 h.lower h.upper) (not_of f))
unfolding remade
history_of h f = ap (λ (z : Forest). not_of (one (head_of Once 0 h.lower h.upper) (not_of z))) (only f)

-- ---- a book and a step
module _ (b : Rows) (w : Ordered b) (s : Step) where
  abbrev st : ℕ → Forest
  st = stepped_at b s

  rule_is : (z : Bool) (r : ℕ) → r < length b → eqb r s.row ≡ z
      → st r ≡ elim z as (λ y. Forest) [ true ↦ remade s.form (head_in (row_at b r)) (joined (map st (parts_at b r))) | false ↦ one (head_in (row_at b r)) (joined (map st (parts_at b r))) ]
  unfolding stepped_at
  rule_is z r h e =
      answer_in b none (step_rule s) w r h
      ∙ ap₂ (λ (k : Head) (fs : List Forest). elim (eqb r s.row) as (λ y. Forest) [ true ↦ remade s.form k (joined fs) | false ↦ one k (joined fs) ]) (head_map st (row_at b r)) (parts_map st (row_at b r))
      ∙ ap (λ (y : Bool). elim y as (λ y. Forest) [ true ↦ remade s.form (head_in (row_at b r)) (joined (map st (parts_at b r))) | false ↦ one (head_in (row_at b r)) (joined (map st (parts_at b r))) ]) e

  -- another row, and the row that is named
  pub step_plain : (r : ℕ) → r < length b → (r ≡ s.row → ⊥) → st r ≡ one (head_in (row_at b r)) (joined (map st (parts_at b r)))
  step_plain r h n = rule_is false r h (ne_eqb r s.row n)

  pub step_named : (r : ℕ) → r < length b → r ≡ s.row → st r ≡ remade s.form (head_in (row_at b r)) (joined (map st (parts_at b r)))
  step_named r h e = rule_is true r h (eq-eqb r s.row e)

  module _ (r : ℕ) (e : r ≡ s.row) where
    step_at_lem : (f : Form) {row : Row ℕ} → s.form ≡ f → In b r row → st r ≡ remade f (head_in row) (joined (map st (parts_in row)))
    step_at_lem f {row} k i = step_named r i.there e ∙ ap₂ (λ (f : Form) (row : Row ℕ). remade f (head_in row) (joined (map st (parts_in row)))) k i.is

    lower : {o : ℕ} → o < r → o ≡ s.row → ⊥
    lower l k = omega arith

    pub step_nots : {o p : ℕ} → s.form ≡ form.Nots → In b r (neg o) → In b o (neg p) → st r ≡ st p
    step_nots {o} {p} k i j =
        let l : o < r = rw i.is at (w r) in
        step_at_lem form.Nots k i
        ∙ ap (λ (z : Forest). remade form.Nots (head_of Not 0 0 0) (joined (z ∷ []))) (step_plain o j.there (lower l) ∙ ap (λ (row : Row ℕ). one (head_in row) (joined (map st (parts_in row)))) j.is)
        ∙ nots_of (head_of Not 0 0 0) (head_of Not 0 0 0) (joined (st p ∷ []))
        ∙ only (st p)

    pub step_and : {o : ℕ} → s.form ≡ form.Single → In b r (conj (o ∷ [])) → st r ≡ st o
    step_and {o} k i = step_at_lem form.Single k i ∙ single_of _ (st o)

    pub step_or : {o : ℕ} → s.form ≡ form.Single → In b r (disj (o ∷ [])) → st r ≡ st o
    step_or {o} k i = step_at_lem form.Single k i ∙ single_of _ (st o)

    pub step_implies : {x y : ℕ} → s.form ≡ form.Implication → In b r (implies x y) → Single (st x) → st r ≡ one (head_of Or 0 0 0) (joined (not_of (st x) ∷ st y ∷ []))
    step_implies {x} {y} k i one-x = step_at_lem form.Implication k i ∙ implication_of _ (st x) (st y) one-x

    pub step_history : {g : Range} {x : ℕ} → s.form ≡ form.History → In b r (historically g x) → st r ≡ not_of (one (head_of Once 0 g.lower g.upper) (not_of (st x)))
    step_history {g} {x} k i = step_at_lem form.History k i ∙ history_of _ (st x)

  -- ---- all trees are good
  module _ (fit : fits b s ≡ true) (good_row : (r : ℕ) → r < length b → HeadGood (head_in (row_at b r)) (length (parts_at b r))) where
    abbrev Fine : ℕ → Type 0
    Fine r = Sane (st r)

    sanes : (os : List ℕ) → AllOf Fine os → Sanes (map st os)
    sanes [] a = tt
    sanes (o ∷ os) a = (a.0, sanes os a.1)

    module _ (r : ℕ) (h : r < length b) (below : (o : ℕ) → o < r → Fine o) where
      plain_sane : (r ≡ s.row → ⊥) → Fine r
      plain_sane n =
          let row = row_at b r in
          let l = length-map (parts_in row) st in
          rw (step_plain r h n) (sane_one (head_in row) (map st (parts_in row)) (sanes (parts_in row) (each_below Fine r below (parts_in row) (parts_below r row (w r))))
          (rw l (fit_head row)) (rw l (good_row r h)))

      named_sane : r ≡ s.row → (f : Form) → s.form ≡ f → Fitting b r f → Fine r
      named_sane e f k (not_not {o} {p} i j) =
          let l : o < r = rw i.is at (w r) in
          let m : p < o = rw j.is at (w o) in
          rw (step_nots r e k i j) (below p (omega arith))
      named_sane e f k (and_one i) = let l = rw i.is at (w r) in rw (step_and r e k i) (below _ l.0)
      named_sane e f k (or_one i) = let l = rw i.is at (w r) in rw (step_or r e k i) (below _ l.0)
      named_sane e f k (implication {x} {y} i) =
          let l = rw i.is at (w r) in
          rw (step_implies r e k i (below x l.0).single) (sane_one (head_of Or 0 0 0) (not_of (st x) ∷ st y ∷ []) (sane_not (st x) (below x l.0), (below y l.1, tt)) (refl, refl, refl) or_good)
      named_sane e f k (history {g} {x} i) =
          let l : x < r = rw i.is at (w r) in
          let q : HeadGood (head_of Historically 0 g.lower g.upper) 1 = rw i.is at (good_row r h) in
          let o = sane_one (head_of Once 0 g.lower g.upper) (not_of (st x) ∷ []) (sane_not (st x) (below x l), tt) (refl, refl) (once_good g.lower g.upper q) in
          rw (step_history r e k i) (sane_not _ (rw (only (not_of (st x))) at o))

      fine_next : (z : Bool) → eqb r s.row ≡ z → Fine r
      fine_next true e = let k = eqb-true r s.row e in named_sane k s.form refl (rw k (fitting b w s fit))
      fine_next false e = plain_sane (eqb-false r s.row e)

    pub all_fine : (r : ℕ) → r < length b → Sane (st r)
    all_fine = by_rows (λ r. r < length b → Fine r) λ r below h. fine_next r h (λ o l. below o l (omega arith)) (eqb r s.row) refl

    pub list_fine : (os : List ℕ) → AllBelow (length b) os → Sanes (map st os)
    list_fine os l = sanes os (each_below Fine (length b) all_fine os l)
