-- Laws of the walk that lays a book after a step. Assumes nothing.
use Prim.Native.Nat.{ℕ, zero, suc, ◌+◌, ◌-◌, ◌/◌, ◌≤◌, ◌<◌}
use mathlib.Core.Path.{◌≡◌, refl, sym, ap, ap₂, ◌∙◌}
use mathlib.Core.Bool.{Bool, true, false, ◌&&◌}
use mathlib.Core.List.{List, [], ◌∷◌, map}
use native.Mathlib.Omega.{arith}
use lib.ListN.{length, get_or, take, length-map}
use lib.Seq.{take-suc, take-length}
use lib.Dec.{eqb}
use borrow.Author.Tests.{eq-eqb, ne_eqb, eqb-true, eqb-false}
use Rattle.numbers.specs.Limits.{ROW_WORDS}
use Rattle.lists.proofs.Tests.{same_test}
use Rattle.pmtl.specs.Book.{Row, Rows, row_at, Ordered, AllBelow}
use Rattle.book.specs.Rows.{count_of}
use Rattle.book.specs.Judging.{kind_in, arg_in, lower_in, upper_in, start_in, book_in}
use Rattle.book.proofs.Accepted.{form, form_arg}
use Rattle.trees.specs.Forest.{head_of, Forest, none, one, ◌then◌, count, size, roots}
use Rattle.book.specs.Kinds.{word_of_kind}
use Rattle.trees.specs.Building.{row_words}
use Rattle.trees.specs.Books.{head_in, parts_in, joined}
use Rattle.trees.specs.Walking.{Held, HeldRow, rows_said}
use Rattle.book.specs.declared.kind.Kind.TheVariants.{Or, Once}
use Rattle.trees.proofs.Numbered.{size_then, roots_length}
use Rattle.trees.proofs.Built.{then_none, then_assoc}
use Rattle.trees.proofs.Books.{below_up, parts_below}
use Rattle.trees.proofs.Judged.{HeadGood}
use Rattle.trees.proofs.Renumbered.{kind_back, arg_back, low_kind, head_good}
use Rattle.trees.proofs.Walking.{all, part_row, part_walk, said_is, said_ordered, said_long, said_head, said_count, said_part}
use Rattle.tidying.specs.declared.Form.{Form}
use Rattle.tidying.specs.declared.Form.TheVariants.{Unknown}
use Rattle.tidying.specs.declared.Step.{Step}
use Rattle.tidying.specs.Steps.{parts_at, fits, not_of, stepped_at}
use Rattle.tidying.proofs.Fits.{Fitting, not_not, and_one, or_one, implication, history, fitting}
use Rattle.tidying.proofs.Remade.{only, joined_append, Sanes, all_sane, sane_not, all_fine, list_fine, step_plain, step_nots, step_and, step_or, step_implies, step_history}
use Rattle.tidier.specs.Laying.{HeldAt, Fitted, form_at, target_by, target_of, Stays, over_first, over_part, over_all, head_after, kind_after, negated_if, first_negated, laid_parts, done_parts, words_at, AddsNot, Endable, Ends, Visitable, Lays}
use Rattle.tidier.specs.declared.lay.Laid.{Laid}
use Rattle.tidier.specs.declared.lay.Site.{Site}
use Rattle.tidier.proofs.Fitness.{form_named, form_other}
use Rattle.tidier.proofs.Adding.{kept_then}

pub map_at : (f : ℕ → Forest) (os : List ℕ) (k : ℕ) → k < length os → get_or (map f os) k none ≡ f (get_or os k 0)
map_at f [] k l = absurd (omega arith)
map_at f (o ∷ os) zero l = refl
map_at f (o ∷ os) (suc k) l = map_at f os k (omega arith)

-- ---- what a row that is not dropped becomes
first_same : (fs : List Forest) → first_negated false fs ≡ fs
unfolding first_negated negated_if
first_same [] = refl
first_same (f ∷ fs) = refl

module _ (b : Rows) (w : Ordered b) (s : Step) (fit : fits b s ≡ true) (good_row : (r : ℕ) → r < length b → HeadGood (head_in (row_at b r)) (length (parts_at b r))) where
  abbrev st : ℕ → Forest
  st = stepped_at b s

  -- the row as it is laid: its head over its parts, or a Not over that
  abbrev made : Form → ℕ → Forest
  made f r = negated_if (over_all f) (one (head_after f (head_in (row_at b r))) (joined (first_negated (over_first f) (map st (parts_at b r)))))

  made_plain : (r : ℕ) → r < length b → (r ≡ s.row → ⊥) → st r ≡ made Unknown r
  unfolding negated_if
  made_plain r h n = step_plain b w s r h n ∙ ap (λ (fs : List Forest). one (head_in (row_at b r)) (joined fs)) (sym (first_same (map st (parts_at b r))))

  made_named : (r : ℕ) → r < length b → r ≡ s.row → (f : Form) → s.form ≡ f → Stays f → Fitting b r f → st r ≡ made f r
  unfolding negated_if first_negated
  made_named r h e f k y (not_not i j) = absurd y
  made_named r h e f k y (and_one i) = absurd y
  made_named r h e f k y (or_one i) = absurd y
  made_named r h e f k y (implication {x} i) =
      let l = rw i.is at (w r) in
      step_implies b w s r e k i (all_fine b w s fit good_row x (omega (arith, l.0, h))).single
      ∙ ap (λ (row : Row ℕ). one (head_of Or 0 0 0) (joined (first_negated true (map st (parts_in row))))) (sym i.is)
  made_named r h e f k y (history {g} {x} i) =
      step_history b w s r e k i
      ∙ ap (λ (z : Forest). not_of (one (head_of Once 0 g.lower g.upper) z)) (sym (only (not_of (st x))))
      ∙ ap (λ (row : Row ℕ). not_of (one (head_of Once 0 (head_in row).lower (head_in row).upper) (joined (first_negated true (map st (parts_in row)))))) (sym i.is)

  pub made_is : (r : ℕ) → r < length b → Stays (form_at s r) → st r ≡ made (form_at s r) r
  unfolding form_at
  made_is r h = by_test (eqb r s.row) refl
    where
      by_test : (z : Bool) → eqb r s.row ≡ z → Stays (elim z as (λ y. Form) [ true ↦ s.form | false ↦ Unknown ]) → st r ≡ made (elim z as (λ y. Form) [ true ↦ s.form | false ↦ Unknown ]) r
      by_test true z y = let k = eqb-true r s.row z in made_named r h k s.form refl y (rw k (fitting b w s fit))
      by_test false z y = made_plain r h (eqb-false r s.row z)

  -- ---- what is laid in the place of a row
  pub record Target (r t : ℕ) : Type 0 where
    pub same : st t ≡ st r
    pub low : t ≤ r
    pub stays : Stays (form_at s t)

  lower_stays : (r t : ℕ) → r ≡ s.row → t < r → Stays (form_at s t)
  lower_stays r t e l = rw (← form_other s t (λ z. omega arith)) tt

  named_target : (r : ℕ) → r ≡ s.row → (f : Form) → s.form ≡ f → Fitting b r f → Target r (target_by f b r)
  named_target r e f k (not_not {o} {p} i j) =
      let l : o < r = rw i.is at (w r) in
      let m : p < o = rw j.is at (w o) in
      let q : get_or (parts_at b (get_or (parts_at b r) 0 0)) 0 0 ≡ p = ap (λ (row : Row ℕ). get_or (parts_at b (get_or (parts_in row) 0 0)) 0 0) i.is ∙ ap (λ (row : Row ℕ). get_or (parts_in row) 0 0) j.is in
      rw q (record { same = sym (step_nots b w s r e k i j); low = omega arith; stays = lower_stays r p e (omega arith) })
  named_target r e f k (and_one {o} i) =
      let l = rw i.is at (w r) in
      let q : get_or (parts_at b r) 0 0 ≡ o = ap (λ (row : Row ℕ). get_or (parts_in row) 0 0) i.is in
      rw q (record { same = sym (step_and b w s r e k i); low = omega (arith, l.0); stays = lower_stays r o e l.0 })
  named_target r e f k (or_one {o} i) =
      let l = rw i.is at (w r) in
      let q : get_or (parts_at b r) 0 0 ≡ o = ap (λ (row : Row ℕ). get_or (parts_in row) 0 0) i.is in
      rw q (record { same = sym (step_or b w s r e k i); low = omega (arith, l.0); stays = lower_stays r o e l.0 })
  named_target r e f k (implication i) = record { same = refl; low = omega arith; stays = rw (← form_named s r e, k) tt }
  named_target r e f k (history i) = record { same = refl; low = omega arith; stays = rw (← form_named s r e, k) tt }

  pub target_is : (r : ℕ) → Target r (target_of b s r)
  unfolding target_of
  target_is r = by_test (eqb r s.row) refl
    where
      by_test : (z : Bool) → eqb r s.row ≡ z → Target r (target_by (form_at s r) b r)
      by_test true z = let k = eqb-true r s.row z in rw (← form_named s r k) (named_target r k s.form refl (rw k (fitting b w s fit)))
      by_test false z = let q = form_other s r (eqb-false r s.row z) in rw (← q) (record { same = refl; low = omega arith; stays = rw (← q) tt })

  -- ---- the trees of a row's parts
  pub laid_length : (r : ℕ) → length (laid_parts b s r) ≡ length (parts_at b r)
  unfolding laid_parts first_negated
  laid_length r = first_length (over_first (form_at s r)) (map st (parts_at b r)) ∙ length-map (parts_at b r) st
    where
      first_length : (z : Bool) (fs : List Forest) → length (first_negated z fs) ≡ length fs
      first_length z [] = refl
      first_length z (f ∷ fs) = refl

  pub laid_at : (r k : ℕ) → k < length (parts_at b r) → get_or (laid_parts b s r) k none ≡ negated_if (over_first (form_at s r) && eqb k 0) (st (get_or (parts_at b r) k 0))
  unfolding laid_parts first_negated negated_if
  laid_at r k h = first_at (over_first (form_at s r)) (parts_at b r) k h
    where
      first_at : (z : Bool) (os : List ℕ) (k : ℕ) → k < length os → get_or (first_negated z (map st os)) k none ≡ negated_if (z && eqb k 0) (st (get_or os k 0))
      first_at z [] k l = absurd (omega arith)
      first_at true (o ∷ os) zero l = refl
      first_at false (o ∷ os) zero l = refl
      first_at true (o ∷ os) (suc k) l = map_at st os k (omega arith) ∙ sym (ap (λ (y : Bool). negated_if y (st (get_or os k 0))) (ne_eqb (suc k) 0 (λ e. omega arith)))
      first_at false (o ∷ os) (suc k) l = map_at st os k (omega arith)

-- ---- by the book's words
tail_of : List ℕ → List ℕ
tail_of [] = []
tail_of (x ∷ xs) = xs

abbrev four_of : List ℕ → Form → ℕ → List ℕ
four_of rows f r = kind_after f (kind_in rows r) ∷ arg_in rows r ∷ lower_in rows r ∷ upper_in rows r ∷ []

module _ {rows operands : List ℕ} (x : Held rows operands) where
  abbrev b : Rows
  b = rows_said rows operands

  abbrev w : Ordered b
  w = said_ordered x

  pub good_rows : (r : ℕ) → r < length b → HeadGood (head_in (row_at b r)) (length (parts_at b r))
  good_rows r h = let l : r < length rows / ROW_WORDS = omega (arith, said_long x) in rw (said_is x) (head_good (all x) x.ok r l (length (parts_at (book_in (all x)).rows r)) refl)

  module _ (r : ℕ) (h : r < length rows / ROW_WORDS) (os : List ℕ) (n : length os ≡ length (parts_at b r)) where
    plain_words : kind_in rows r ∷ arg_in rows r ∷ lower_in rows r ∷ upper_in rows r ∷ [] ≡ row_words (record { head = head_in (row_at b r); operands = os })
    plain_words =
        let k = kind_in rows r in
        let a = arg_in rows r in
        let low = low_kind (all x) x.ok r h in
        let c : length os ≡ count_of k a = n ∙ said_count x r h in
        let ag = form_arg k a (lower_in rows r) (upper_in rows r) (form (all x) x.ok r h) in
        rw (said_head x r h, c) (ap₂ (λ (p q : ℕ). p ∷ q ∷ lower_in rows r ∷ upper_in rows r ∷ []) (sym (kind_back k low)) (sym (arg_back k a low ag)))

    named_words : (f : Form) → Stays f → Fitting b r f → four_of rows f r ≡ row_words (record { head = head_after f (head_in (row_at b r)); operands = os })
    unfolding tail_of
    named_words f y (not_not i j) = absurd y
    named_words f y (and_one i) = absurd y
    named_words f y (or_one i) = absurd y
    named_words f y (implication i) = ap (λ (z : List ℕ). word_of_kind Or ∷ tail_of z) (rw i.is at plain_words)
    named_words f y (history i) = rw i.is (ap (λ (z : List ℕ). word_of_kind Once ∷ tail_of z) (rw i.is at plain_words))

  words_said_lem : (s : Step) → fits b s ≡ true → (r : ℕ) → r < length rows / ROW_WORDS → Stays (form_at s r) → (os : List ℕ) → length os ≡ length (parts_at b r)
      → four_of rows (form_at s r) r ≡ row_words (record { head = head_after (form_at s r) (head_in (row_at b r)); operands = os })
  unfolding form_at
  words_said_lem s fit r h y os n = by_test (eqb r s.row) refl y
    where
      by_test : (z : Bool) → eqb r s.row ≡ z → Stays (elim z as (λ y. Form) [ true ↦ s.form | false ↦ Unknown ])
          → four_of rows (elim z as (λ y. Form) [ true ↦ s.form | false ↦ Unknown ]) r ≡ row_words (record { head = head_after (elim z as (λ y. Form) [ true ↦ s.form | false ↦ Unknown ]) (head_in (row_at b r)); operands = os })
      by_test true z y = named_words r h os n s.form y (rw (eqb-true r s.row z) (fitting b w s fit))
      by_test false z y = plain_words r h os n

-- ---- nothing is left of a row
module _ {rows operands : List ℕ} {v : Site} {rl ol tl : ℕ} (x : Visitable rows operands v rl ol tl) where
  abbrev bk : Rows
  bk = rows_said rows operands

  abbrev sp : Step
  sp = v.step

  there : v.row < length bk
  there = omega (arith, said_long x.walk.held, x.walk.inside)

  abbrev parts : List Forest
  parts = laid_parts bk sp v.row

  made_here : stepped_at bk sp v.row ≡ negated_if (over_all (form_at sp v.row)) (one (head_after (form_at sp v.row) (head_in (row_at bk v.row))) (joined parts))
  unfolding laid_parts
  made_here = made_is bk (said_ordered x.walk.held) sp x.fit (good_rows x.walk.held) v.row there x.stays

  pub can_end : Endable rows v rl ol tl
  can_end = record { inside = x.walk.inside; layable = x.layable }

  -- ---- the parts
  first_sane : (z : Bool) (fs : List Forest) → Sanes fs → Sanes (first_negated z fs)
  unfolding first_negated negated_if
  first_sane z [] y = tt
  first_sane true (f ∷ fs) y = (sane_not f y.0, y.1)
  first_sane false (f ∷ fs) y = y

  parts_low : AllBelow (length bk) (parts_at bk v.row)
  parts_low = below_up v.row (length bk) (parts_at bk v.row) (omega (arith, there)) (parts_below v.row (row_at bk v.row) (said_ordered x.walk.held v.row))

  count_parts : count (joined parts) ≡ length (parts_at bk v.row)
  unfolding laid_parts
  count_parts =
      let hd = x.walk.held in
      let y = list_fine bk (said_ordered hd) sp x.fit (good_rows hd) (parts_at bk v.row) parts_low in
      (all_sane parts (first_sane (over_first (form_at sp v.row)) (map (stepped_at bk sp) (parts_at bk v.row)) y)).counted
      ∙ laid_length bk (said_ordered hd) sp x.fit (good_rows hd) v.row

  long : length parts ≡ length (parts_at bk v.row)
  long = laid_length bk (said_ordered x.walk.held) sp x.fit (good_rows x.walk.held) v.row

  pub lays_done : {rs os ts rs' os' ts' : List ℕ} {l' : Laid} → v.left ≡ 0 → Ends rows v rs os ts l' rs' os' ts' → Lays bk v rs os ts l' rs' os' ts'
  unfolding words_at
  lays_done z e = record {
    kept = e.kept;
    holds = λ g base y.
        let f = joined parts in
        let m : length (parts_at bk v.row) - v.left ≡ length parts = omega (arith, long) in
        let q = rw (m, take-length parts) at y in
        let n : length (roots (size g) f) ≡ length (parts_at bk v.row) = roots_length (size g) f ∙ count_parts in
        let u = words_said_lem x.walk.held sp x.fit v.row x.walk.inside x.stays (roots (size g) f) n in
        rw made_here (e.holds g f (head_after (form_at sp v.row) (head_in (row_at bk v.row))) (λ k. base (omega (arith, k, size_then g f, ap size (then_none g)))) q u);
  }

  -- ---- one part, and those after it
  module _ (some : 0 < v.left) (o : ℕ) (eo : o ≡ get_or operands (start_in rows v.row + (count_of (kind_in rows v.row) (arg_in rows v.row) - v.left)) 0) where
    abbrev k : ℕ
    k = length (parts_at bk v.row) - v.left

    inside : k < length (parts_at bk v.row)
    inside = omega (arith, said_count x.walk.held v.row x.walk.inside, x.walk.some)

    part_is : o ≡ get_or (parts_at bk v.row) k 0
    part_is =
        let c = said_count x.walk.held v.row x.walk.inside in
        eo ∙ rw c (sym (said_part x.walk.held v.row x.walk.inside (count_of (kind_in rows v.row) (arg_in rows v.row) - v.left) (omega (arith, x.walk.some))))

    pub part_held : HeldAt rows operands o
    part_held = record { held = x.walk.held; inside = (part_walk x.walk some o eo).inside }

    pub part_fitted : Fitted rows operands sp o
    part_fitted = record { at = part_held; fit = x.fit }

    module _ (t : ℕ) (et : t ≡ target_of bk sp o) where
      aim : Target bk (said_ordered x.walk.held) sp x.fit (good_rows x.walk.held) o t
      aim = rw et (target_is bk (said_ordered x.walk.held) sp x.fit (good_rows x.walk.held) o)

      pub aim_low : t < v.row
      aim_low = omega (arith, aim.low, part_row x.walk some o eo)

      pub aim_held : HeldRow rows t
      aim_held = record { operands = operands; held = x.walk.held; inside = omega (arith, aim_low, x.walk.inside) }

      module _ (c : ℕ) (ec : c ≡ count_of (kind_in rows t) (arg_in rows t)) where
        abbrev inner : Site
        inner = record { step = sp; row = t; left = c; base = v.laid.height; laid = v.laid }

        pub inner_visit : Visitable rows operands inner rl ol tl
        inner_visit = record { walk = record { held = x.walk.held; inside = aim_held.inside; some = omega (arith, ec) }; fit = x.fit; stays = aim.stays; layable = x.layable }

        inner_none : done_parts bk inner ≡ none
        unfolding joined
        inner_none =
            let e : length (parts_at bk t) - c ≡ 0 = omega (arith, said_count x.walk.held t aim_held.inside) in
            ap (λ (n : ℕ). joined (take n (laid_parts bk sp t))) e

        module _ {over : Bool} {f : Form} {m : ℕ} (ef : f ≡ form_at sp v.row) (em : m ≡ count_of (kind_in rows v.row) (arg_in rows v.row)) (ev : over ≡ over_part f v.left m) where
          abbrev next : Forest
          next = negated_if over (stepped_at bk sp o)

          same_test_first : eqb v.left m ≡ eqb k 0
          same_test_first = same_test (eqb v.left m) (eqb k 0)
              (λ z. eq-eqb k 0 (omega (arith, eqb-true v.left m z, said_count x.walk.held v.row x.walk.inside)))
              (λ z. eq-eqb v.left m (omega (arith, eqb-true k 0 z, said_count x.walk.held v.row x.walk.inside, x.walk.some)))

          next_is : get_or parts k none ≡ next
          unfolding over_part
          next_is =
              laid_at bk (said_ordered x.walk.held) sp x.fit (good_rows x.walk.held) v.row k inside
              ∙ ap₂ (λ (y : Bool) (r : ℕ). negated_if y (stepped_at bk sp r)) (sym (ev ∙ ap₂ (λ (h : Form) (y : Bool). over_first h && y) ef same_test_first)) (sym part_is)

          one_more : (g : Forest) → g then joined (take (length (parts_at bk v.row) - (v.left - 1)) parts) ≡ (g then done_parts bk v) then next
          one_more g =
              let e : length (parts_at bk v.row) - (v.left - 1) ≡ suc k = omega (arith, said_count x.walk.held v.row x.walk.inside, x.walk.some) in
              ap (λ (n : ℕ). g then joined (take n parts)) e
              ∙ ap (λ (fs : List Forest). g then joined fs) (take-suc parts k none (omega (arith, long, inside)))
              ∙ ap (λ (z : Forest). g then z) (joined_append (take k parts) (get_or parts k none ∷ []) ∙ ap (λ (z : Forest). done_parts bk v then z) (only (get_or parts k none) ∙ next_is))
              ∙ sym (then_assoc g (done_parts bk v) next)

          single_part : count (stepped_at bk sp o) ≡ 1
          single_part = (all_fine bk (said_ordered x.walk.held) sp x.fit (good_rows x.walk.held) o (omega (arith, part_row x.walk some o eo, there))).single.only

          pub lays_more : {rs os ts rs₁ os₁ ts₁ rs₂ os₂ ts₂ rs₃ os₃ ts₃ : List ℕ} {l₁ l₂ l₃ : Laid} → Lays bk inner rs os ts l₁ rs₁ os₁ ts₁ → AddsNot over l₁ rs₁ os₁ ts₁ l₂ rs₂ os₂ ts₂
              → Lays bk (record { step = sp; row = v.row; left = v.left - 1; base = v.base; laid = l₂ }) rs₂ os₂ ts₂ l₃ rs₃ os₃ ts₃ → Lays bk v rs os ts l₃ rs₃ os₃ ts₃
          lays_more a b c = record {
            kept = kept_then a.kept (kept_then b.kept c.kept);
            holds = λ g base y.
                let g' = g then done_parts bk v in
                let y₀ = rw (← then_none g', ← inner_none) at y in
                let y₁ = a.holds g' (λ z. (y.small (rw (then_none g') at z)).height) y₀ in
                let y₂ = b.holds g' (stepped_at bk sp o) single_part (rw aim.same at y₁) in
                c.holds g base (rw (← one_more g) at y₂);
          }
