-- What the rows of a book weigh, its trees after a step weigh, too, by any weight that a step does not change. Assumes nothing.
use Prim.Native.Nat.{ℕ, ◌+◌, ◌<◌}
use mathlib.Core.Path.{◌≡◌, refl, sym, ap, ◌∙◌}
use mathlib.Core.Bool.{Bool, true, false}
use mathlib.Core.List.{List, [], ◌∷◌, map}
use native.Mathlib.Omega.{arith}
use lib.ListN.{length}
use lib.Dec.{eqb}
use borrow.Author.Tests.{eqb-true, eqb-false}
use Rattle.pmtl.specs.Book.{Row, Rows, row_at, Ordered}
use Rattle.book.specs.Reading.{Sections}
use Rattle.book.specs.Judging.{rows_in, judged, book_in}
use Rattle.trees.specs.Forest.{Head, head_of, Forest, none, one, ◌then◌}
use Rattle.trees.specs.Books.{head_in, parts_in, joined}
use Rattle.book.specs.declared.kind.Kind.TheVariants.{And, Or, Not, Implies, Historically, Once}
use Rattle.trees.proofs.Sections.{rows_there, parts_are, book_ordered}
use Rattle.trees.proofs.Sums.{sum_to, sum_over, weight, weight_then, weight_one, weight_joined, properties_weigh}
use Rattle.trees.proofs.Judged.{HeadGood}
use Rattle.tidying.specs.declared.Form.{Form}
use Rattle.tidying.specs.declared.Step.{Step}
use Rattle.tidying.specs.Steps.{parts_at, fits, not_of, stepped_at, stepped_of}
use Rattle.tidying.proofs.Fits.{In, Fitting, not_not, and_one, or_one, implication, history, fitting}
use Rattle.tidying.proofs.Remade.{all_fine, step_plain, step_nots, step_and, step_or, step_implies, step_history}

-- a weight that no step changes: what steps drop or add weighs nothing, and a Once what a Historically over its range does
pub record Unmoved (v : Head → ℕ) : Type 0 where
  pub nots : v (head_of Not 0 0 0) ≡ 0
  pub ands : v (head_of And 0 0 0) ≡ 0
  pub ors : v (head_of Or 0 0 0) ≡ 0
  pub implications : v (head_of Implies 0 0 0) ≡ 0
  pub histories : (l u : ℕ) → v (head_of Historically 0 l u) ≡ v (head_of Once 0 l u)

module _ (a : Sections) (ok : judged a ≡ 0) (s : Step) (fit : fits (book_in a).rows s ≡ true)
    (good_row : (r : ℕ) → r < length (book_in a).rows → HeadGood (head_in (row_at (book_in a).rows r)) (length (parts_at (book_in a).rows r)))
    (v : Head → ℕ) (u : Unmoved v) where
  abbrev b : Rows
  b = (book_in a).rows

  abbrev w : Ordered b
  w = book_ordered a ok

  abbrev st : ℕ → Forest
  st = stepped_at b s

  abbrev t : Forest → ℕ
  t = weight v

  abbrev own : ℕ → ℕ
  own r = v (head_in (row_at b r))

  abbrev whole : ℕ → ℕ
  whole r = t (st r)

  parts_weigh : (os : List ℕ) → t (joined (map st os)) ≡ sum_over whole os
  parts_weigh os = weight_joined v st os

  weigh_one : (h : Head) (fs : List Forest) → t (one h (joined fs)) ≡ v h + t (joined fs)
  weigh_one h fs = weight_one v h (joined fs)

  sum_one : (o : ℕ) → sum_over whole (o ∷ []) ≡ whole o
  unfolding sum_over
  sum_one o = omega arith

  sum_two : (x y : ℕ) → sum_over whole (x ∷ y ∷ []) ≡ whole x + whole y
  unfolding sum_over
  sum_two x y = omega arith

  both_weigh : (f g : Forest) → t (joined (f ∷ g ∷ [])) ≡ t f + t g
  unfolding joined weight
  both_weigh f g = weight_then v f (g then none) ∙ omega (arith, weight_then v g none)

  not_weighs : (f : Forest) → t (not_of f) ≡ t f
  not_weighs f = weight_one v (head_of Not 0 0 0) f ∙ omega (arith, u.nots)

  module _ (r : ℕ) (h : r < length b) where
    row_weight : {row : Row ℕ} → In b r row → (n : ℕ) → v (head_in row) + sum_over whole (parts_in row) ≡ n → whole r ≡ n → whole r ≡ own r + sum_over whole (parts_at b r)
    row_weight i n e q = q ∙ sym (ap (λ (row : Row ℕ). v (head_in row) + sum_over whole (parts_in row)) i.is ∙ e)

    named_weighs : r ≡ s.row → (f : Form) → s.form ≡ f → Fitting b r f → whole r ≡ own r + sum_over whole (parts_at b r)
    named_weighs k f g (not_not {o} {p} i j) =
        let l : o < r = rw i.is at (w r) in
        let e : whole o ≡ whole p = ap t (step_plain b w s o j.there (λ z. omega arith) ∙ ap (λ (row : Row ℕ). one (head_in row) (joined (map st (parts_in row)))) j.is) ∙ not_weighs (joined (st p ∷ [])) ∙ parts_weigh (p ∷ []) ∙ sum_one p in
        row_weight i (whole p) (omega (arith, u.nots, sum_one o, e)) (ap t (step_nots b w s r k g i j))
    named_weighs k f g (and_one {o} i) = row_weight i (whole o) (omega (arith, u.ands, sum_one o)) (ap t (step_and b w s r k g i))
    named_weighs k f g (or_one {o} i) = row_weight i (whole o) (omega (arith, u.ors, sum_one o)) (ap t (step_or b w s r k g i))
    named_weighs k f g (implication {x} {y} i) =
        let m = rw i.is at (w r) in
        let sx = all_fine b w s fit good_row x (omega (arith, m.0, h)) in
        row_weight i (whole x + whole y) (omega (arith, u.implications, sum_two x y))
        (ap t (step_implies b w s r k g i sx.single) ∙ omega (arith, u.ors, weigh_one (head_of Or 0 0 0) (not_of (st x) ∷ st y ∷ []), both_weigh (not_of (st x)) (st y), not_weighs (st x)))
    named_weighs k f g (history {g = c} {x} i) =
        let once = head_of Once 0 c.lower c.upper in
        row_weight i (v once + whole x) (omega (arith, u.histories c.lower c.upper, sum_one x))
        (ap t (step_history b w s r k g i) ∙ not_weighs _ ∙ weight_one v once (not_of (st x)) ∙ ap (λ (n : ℕ). v once + n) (not_weighs (st x)))

    row_weighs : (z : Bool) → eqb r s.row ≡ z → whole r ≡ own r + sum_over whole (parts_at b r)
    row_weighs true z = let k = eqb-true r s.row z in named_weighs k s.form refl (rw k (fitting b w s fit))
    row_weighs false z = ap t (step_plain b w s r h (eqb-false r s.row z)) ∙ weigh_one (head_in (row_at b r)) (map st (parts_at b r)) ∙ ap (λ (n : ℕ). own r + n) (parts_weigh (parts_at b r))

  pub weigh_same : t (stepped_of b s a.assumes then stepped_of b s a.guarantees) ≡ sum_to own (rows_in a)
  unfolding stepped_of
  weigh_same =
      let each = properties_weigh a ok own whole λ r h.
      row_weighs r (omega (arith, rows_there a ok)) (eqb r s.row) refl ∙ ap (λ (z : List ℕ). own r + sum_over whole z) (parts_are a ok r h) in
      weight_then v (joined (map st a.assumes)) (joined (map st a.guarantees)) ∙ omega (arith, each, parts_weigh a.assumes, parts_weigh a.guarantees)
