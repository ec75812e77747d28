-- A row of the book after a step says what a row of the book before it says: what holds of such rows is shown by the kinds of row
-- and the forms of the step. Assumes nothing.
use Prim.Native.Nat.{ℕ, ◌<◌}
use mathlib.Core.Path.{◌≡◌, refl, sym, ap, ap₂, ◌∙◌}
use mathlib.Core.Bool.{Bool, true, false}
use mathlib.Core.List.{List, [], ◌∷◌, map}
use native.Mathlib.Omega.{arith}
use lib.ListN.{length}
use lib.Dec.{eqb}
use borrow.Author.Tests.{eqb-true, eqb-false}
use Rattle.pmtl.specs.Book.{Range, Row, map_row, Rows, row_at, AllBelow, Ordered}
use Rattle.pmtl.specs.Book.Row.{conj, disj, neg, implies, historically, once}
use Rattle.pmtl.proofs.Table.{by_rows}
use Rattle.trees.specs.Forest.{Head, head_of, Forest, none, tree, one, count}
use Rattle.trees.specs.Numbered.{row_with, folded}
use Rattle.trees.specs.Books.{head_in, parts_in, joined, tree_rule, tree_at, trees_of}
use Rattle.book.specs.declared.kind.Kind.TheVariants.{Or, Not, Once}
use Rattle.trees.proofs.Books.{below_up, parts_below, head_map, parts_map, with_itself, tree_in, trees_fold}
use Rattle.trees.proofs.Judged.{HeadGood}
use Rattle.trees.proofs.Back.{Singles, again_all}
use Rattle.tidying.specs.declared.Form.{Form}
use Rattle.tidying.specs.declared.Form.TheVariants as form
use Rattle.tidying.specs.declared.Step.{Step}
use Rattle.tidying.specs.Steps.{parts_at, fits, not_of, stepped_at}
use Rattle.tidying.proofs.Fits.{In, row_of, Fitting, not_not, and_one, or_one, implication, history, fitting}
use Rattle.tidying.proofs.Remade.{only, all_sane, sane_not, step_plain, step_nots, step_and, step_or, step_implies, step_history, all_fine, list_fine}

-- ---- rows over lists of the same length
abbrev pub Pairs : (ℕ → ℕ → Type 0) → List ℕ → List ℕ → Type 0
Pairs R [] [] = Unit {0}
Pairs R [] (o' ∷ os') = ⊥
Pairs R (o ∷ os) [] = ⊥
Pairs R (o ∷ os) (o' ∷ os') = R o o' × Pairs R os os'

pub pairs_map : {A : Type 0} {R : ℕ → ℕ → Type 0} (f f' : ℕ → A) → ((o o' : ℕ) → R o o' → f o ≡ f' o') → (os os' : List ℕ) → Pairs R os os' → map f os ≡ map f' os'
pairs_map f f' e [] [] p = refl
pairs_map f f' e [] (o' ∷ os') p = absurd p
pairs_map f f' e (o ∷ os) [] p = absurd p
pairs_map f f' e (o ∷ os) (o' ∷ os') p = ap₂ ◌∷◌ (e o o' p.0) (pairs_map f f' e os os' p.1)

-- rows with the same head over operands that a function cannot tell apart
pub same_row : {A : Type 0} (d : A) (f f' : ℕ → A) (row row' : Row ℕ) → head_in row ≡ head_in row' → map f (parts_in row) ≡ map f' (parts_in row') → map_row f row ≡ map_row f' row'
same_row d f f' row row' e q =
    sym (with_itself d (map_row f row))
    ∙ ap₂ (row_with d) (head_map f row ∙ e ∙ sym (head_map f' row')) (parts_map f row ∙ q ∙ sym (parts_map f' row'))
    ∙ with_itself d (map_row f' row')

-- ---- a tree opened
first_head : Forest → Head
first_head none = head_of Not 0 0 0
first_head (tree h p s) = h

first_parts : Forest → Forest
first_parts none = none
first_parts (tree h p s) = p

tail_of : List Forest → List Forest
tail_of [] = []
tail_of (f ∷ fs) = fs

head_of_list : List Forest → Forest
head_of_list [] = none
head_of_list (f ∷ fs) = f

module _ (b : Rows) (w : Ordered b) where
  abbrev t : ℕ → Forest
  t = tree_at b

  -- a row whose tree is a head over trees has that head, and those are the trees of its operands
  opened : (r : ℕ) → r < length b → (h : Head) (fs : List Forest) → Singles fs → t r ≡ one h (joined fs) → (head_in (row_at b r) ≡ h) × (map t (parts_at b r) ≡ fs)
  unfolding tree_at first_head first_parts
  opened r l h fs x e =
      let row = row_at b r in
      let q : one (head_in row) (trees_of b (parts_in row)) ≡ one h (joined fs) = sym (tree_in b w r l) ∙ e in (
        ap first_head q,
        sym (trees_fold none tree_rule b w (parts_in row) (below_up r (length b) (parts_in row) (omega arith) (parts_below r row (w r)))) ∙ ap (λ (z : Forest). folded none tree_rule (first_parts z)) q ∙ again_all fs x,
      )

  low : (r : ℕ) → r < length b → AllBelow (length b) (parts_at b r)
  low r l = below_up r (length b) (parts_at b r) (omega arith) (parts_below r (row_at b r) (w r))

  one_of : (os : List ℕ) (f : Forest) → AllBelow (length b) os → map t os ≡ f ∷ [] → (o : ℕ) × (os ≡ o ∷ []) × (o < length b) × (t o ≡ f)
  unfolding head_of_list
  one_of [] f a e = absurd (omega (arith, ap length e))
  one_of (o ∷ []) f a e = (o, refl, a.0, ap head_of_list e)
  one_of (o ∷ p ∷ os) f a e = absurd (omega (arith, ap length e))

  two_of : (os : List ℕ) (f g : Forest) → AllBelow (length b) os → map t os ≡ f ∷ g ∷ [] → (o : ℕ) × (p : ℕ) × (os ≡ o ∷ p ∷ []) × (o < length b) × (t o ≡ f) × (p < length b) × (t p ≡ g)
  unfolding head_of_list tail_of
  two_of [] f g a e = absurd (omega (arith, ap length e))
  two_of (o ∷ []) f g a e = absurd (omega (arith, ap length e))
  two_of (o ∷ p ∷ []) f g a e = (o, p, refl, a.0, ap head_of_list e, a.1.0, ap (λ (z : List Forest). head_of_list (tail_of z)) e)
  two_of (o ∷ p ∷ q ∷ os) f g a e = absurd (omega (arith, ap length e))

  -- a Not
  not_of_lem : (r : ℕ) → r < length b → (f : Forest) → Singles (f ∷ []) → t r ≡ not_of f → (o : ℕ) × In b r (neg o) × (o < length b) × (t o ≡ f)
  unfolding row_with
  not_of_lem r l f x e =
      let q = opened r l (head_of Not 0 0 0) (f ∷ []) x (e ∙ ap (one (head_of Not 0 0 0)) (sym (only f))) in
      let p = one_of (parts_at b r) f (low r l) q.1 in
      (p.0, record { there = l; is = row_of (row_at b r) (head_of Not 0 0 0) q.0 ∙ ap (row_with 0 (head_of Not 0 0 0)) p.1 }, p.2, p.3)

  once_of_lem : (r : ℕ) → r < length b → (g : Range) (f : Forest) → Singles (f ∷ []) → t r ≡ one (head_of Once 0 g.lower g.upper) f → (o : ℕ) × In b r (once g o) × (o < length b) × (t o ≡ f)
  unfolding row_with
  once_of_lem r l g f x e =
      let h = head_of Once 0 g.lower g.upper in
      let q = opened r l h (f ∷ []) x (e ∙ ap (one h) (sym (only f))) in
      let p = one_of (parts_at b r) f (low r l) q.1 in
      (p.0, record { there = l; is = row_of (row_at b r) h q.0 ∙ ap (row_with 0 h) p.1 }, p.2, p.3)

  or_of : (r : ℕ) → r < length b → (f g : Forest) → Singles (f ∷ g ∷ []) → t r ≡ one (head_of Or 0 0 0) (joined (f ∷ g ∷ []))
      → (o : ℕ) × (p : ℕ) × In b r (disj (o ∷ p ∷ [])) × (o < length b) × (t o ≡ f) × (p < length b) × (t p ≡ g)
  unfolding row_with
  or_of r l f g x e =
      let h = head_of Or 0 0 0 in
      let q = opened r l h (f ∷ g ∷ []) x e in
      let p = two_of (parts_at b r) f g (low r l) q.1 in
      (p.0, p.1, record { there = l; is = row_of (row_at b r) h q.0 ∙ ap (row_with 0 h) p.2 }, p.3, p.4, p.5, p.6)

-- ---- two books, the second with the trees of the first after a step that fits
module _ (b : Rows) (w : Ordered b) (s : Step) (fit : fits b s ≡ true)
    (good_row : (r : ℕ) → r < length b → HeadGood (head_in (row_at b r)) (length (parts_at b r))) (b' : Rows) (w' : Ordered b') where
  abbrev st : ℕ → Forest
  st = stepped_at b s

  -- row r' of the second book says what row r of the first says
  pub record Says (r r' : ℕ) : Type 0 where
    pub there : r < length b
    pub there' : r' < length b'
    pub tree_is : tree_at b' r' ≡ st r

  -- what is to be shown of all such rows, from what it is of the operands
  pub record Laws (R : ℕ → ℕ → Type 0) : Type 0 where
    pub by_same : {r r' : ℕ} → (row row' : Row ℕ) → In b r row → In b' r' row' → head_in row ≡ head_in row' → Pairs Says (parts_in row) (parts_in row') → Pairs R (parts_in row) (parts_in row') → R r r'
    pub by_not_not : {r o p r' : ℕ} → In b r (neg o) → In b o (neg p) → R p r' → R r r'
    pub by_and : {r o r' : ℕ} → In b r (conj (o ∷ [])) → R o r' → R r r'
    pub by_or : {r o r' : ℕ} → In b r (disj (o ∷ [])) → R o r' → R r r'
    pub by_implies : {r x y r' n x' y' : ℕ} → s.form ≡ form.Implication → In b r (implies x y) → In b' r' (disj (n ∷ y' ∷ [])) → In b' n (neg x') → R x x' → R y y' → R r r'
    pub by_history : {g : Range} {r x r' n m x' : ℕ} → In b r (historically g x) → In b' r' (neg n) → In b' n (once g m) → In b' m (neg x') → Says x x' → R x x' → R r r'

  pair_up : {P : ℕ → ℕ → Type 0} (n : ℕ) → ((o o' : ℕ) → o < n → o' < length b' → tree_at b' o' ≡ st o → P o o')
      → (os os' : List ℕ) → AllBelow n os → AllBelow (length b') os' → map (tree_at b') os' ≡ map st os → Pairs P os os'
  unfolding head_of_list tail_of
  pair_up n f [] [] a a' e = tt
  pair_up n f [] (o' ∷ os') a a' e = absurd (omega (arith, ap length e))
  pair_up n f (o ∷ os) [] a a' e = absurd (omega (arith, ap length e))
  pair_up n f (o ∷ os) (o' ∷ os') a a' e = (f o o' a.0 a'.0 (ap head_of_list e), pair_up n f os os' a.1 a'.1 (ap tail_of e))

  pub says_all : (os os' : List ℕ) → AllBelow (length b) os → AllBelow (length b') os' → map (tree_at b') os' ≡ map st os → Pairs Says os os'
  says_all os os' a a' e = pair_up (length b) (λ o o' l l' q. record { there = l; there' = l'; tree_is = q }) os os' a a' e

  module _ (R : ℕ → ℕ → Type 0) (law : Laws R) where
    module _ (r : ℕ) (l : r < length b) (below : (o : ℕ) → o < r → (o' : ℕ) → Says o o' → R o o') (r' : ℕ) (l' : r' < length b') (e : tree_at b' r' ≡ st r) where
      abbrev row : Row ℕ
      row = row_at b r

      abbrev row' : Row ℕ
      row' = row_at b' r'

      plain_law : (r ≡ s.row → ⊥) → R r r'
      plain_law n =
          let u = parts_below r row (w r) in
          let u₂ = below_up r (length b) (parts_in row) (omega arith) u in
          let x = all_sane (map st (parts_in row)) (list_fine b w s fit good_row (parts_in row) u₂) in
          let q = opened b' w' r' l' (head_in row) (map st (parts_in row)) x.singles (e ∙ step_plain b w s r l n) in
          law.by_same row row' (record { there = l; is = refl }) (record { there = l'; is = refl }) (sym q.0)
          (says_all (parts_in row) (parts_in row') u₂ (low b' w' r' l') q.1)
          (pair_up r (λ o o' k k' z. below o k o' (record { there = omega (arith, k); there' = k'; tree_is = z })) (parts_in row) (parts_in row') u (low b' w' r' l') q.1)

      named_law : r ≡ s.row → (f : Form) → s.form ≡ f → Fitting b r f → R r r'
      unfolding count
      named_law k f g (not_not {o} {p} i j) =
          let m : o < r = rw i.is at (w r) in
          let m₂ : p < o = rw j.is at (w o) in
          law.by_not_not i j (below p (omega arith) r' (record { there = omega (arith, l); there' = l'; tree_is = e ∙ step_nots b w s r k g i j }))
      named_law k f g (and_one i) =
          let m = rw i.is at (w r) in
          law.by_and i (below _ m.0 r' (record { there = omega (arith, m.0, l); there' = l'; tree_is = e ∙ step_and b w s r k g i }))
      named_law k f g (or_one i) =
          let m = rw i.is at (w r) in
          law.by_or i (below _ m.0 r' (record { there = omega (arith, m.0, l); there' = l'; tree_is = e ∙ step_or b w s r k g i }))
      named_law k f g (implication {x} {y} i) =
          let m = rw i.is at (w r) in
          let lx : x < length b = omega (arith, m.0, l) in
          let ly : y < length b = omega (arith, m.1, l) in
          let sx = all_fine b w s fit good_row x lx in
          let sy = all_fine b w s fit good_row y ly in
          let q = or_of b' w' r' l' (not_of (st x)) (st y) ((sane_not (st x) sx).single, (sy.single, tt)) (e ∙ step_implies b w s r k g i sx.single) in
          let n = not_of_lem b' w' q.0 q.3 (st x) (sx.single, tt) q.4 in
          law.by_implies g i q.2 n.1 (below x m.0 n.0 (record { there = lx; there' = n.2; tree_is = n.3 })) (below y m.1 q.1 (record { there = ly; there' = q.5; tree_is = q.6 }))
      named_law k f g (history {g = c} {x} i) =
          let m : x < r = rw i.is at (w r) in
          let lx : x < length b = omega (arith, l) in
          let sx = all_fine b w s fit good_row x lx in
          let whole = rw (step_history b w s r k g i) at (all_fine b w s fit good_row r l) in
          let n = not_of_lem b' w' r' l' (one (head_of Once 0 c.lower c.upper) (not_of (st x))) (record { only = refl; good = whole.single.good.1 }, tt) (e ∙ step_history b w s r k g i) in
          let o = once_of_lem b' w' n.0 n.2 c (not_of (st x)) ((sane_not (st x) sx).single, tt) n.3 in
          let p = not_of_lem b' w' o.0 o.2 (st x) (sx.single, tt) o.3 in
          let sy : Says x p.0 = record { there = lx; there' = p.2; tree_is = p.3 } in
          law.by_history i n.1 o.1 p.1 sy (below x m p.0 sy)

      by_test : (z : Bool) → eqb r s.row ≡ z → R r r'
      by_test true z = let k = eqb-true r s.row z in named_law k s.form refl (rw k (fitting b w s fit))
      by_test false z = plain_law (eqb-false r s.row z)

    said_by : (r : ℕ) → (r' : ℕ) → Says r r' → R r r'
    said_by = by_rows (λ r. (r' : ℕ) → Says r r' → R r r') λ r below r' y. by_test r y.there below r' y.there' y.tree_is (eqb r s.row) refl

    pub said : {r r' : ℕ} → Says r r' → R r r'
    said {r} {r'} y = said_by r r' y

    pub said_all : (os os' : List ℕ) → Pairs Says os os' → Pairs R os os'
    said_all [] [] p = tt
    said_all [] (o' ∷ os') p = absurd p
    said_all (o ∷ os) [] p = absurd p
    said_all (o ∷ os) (o' ∷ os') p = (said p.0, said_all os os' p.1)
