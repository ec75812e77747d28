-- The digits of the properties that are reached, as one loop puts them: those of the early answers, and then those of the settled. Assumes nothing.
use Prim.Native.Nat.{ℕ, zero, suc, ◌+◌, ◌≤◌, ◌<◌}
use native.Mathlib.Numerals.{add-one}
use native.Mathlib.Omega.{arith}
use mathlib.Core.Path.{◌≡◌, refl, sym, ap, ap₂, ◌∙◌}
use mathlib.Core.Bool.{Bool, true, false, cond, ◌&&◌}
use mathlib.Core.List.{List}
use lib.ListN.{get_or, set}
use lib.Seq.{set-get_or, set_comm}
use lib.Dec.{leb, ltb}
use Rattle.lists.specs.Lists.{filled_from}
use Rattle.lists.proofs.Filled.{filled_from_before, filled_from_after}
use Rattle.pmtl.specs.declared.Answer.{Answer}
use Rattle.pmtl.specs.declared.Answer.TheVariants.{Open}
use Rattle.pmtl.specs.Answer.{digit_of}
use Rattle.memory.specs.Layout.{TOLD, EARLY, SETTLED, LOWEST}
use Rattle.memory.specs.Memory.{row_count, property_row, told_at, early_at, settled_at, lowest_at, is_one}
use Rattle.memory.specs.Tables.{property_count}
use Rattle.memory.specs.Kept.{Sound}
use Rattle.memory.specs.Alike.{Alike}
use Rattle.memory.proofs.Alike.{alike_on, alike_filled, alike_sound, alike_rows}
use Rattle.row_answers.specs.Told.{early_told}
use Rattle.row_answers.proofs.Told.{early_same, settled_same, alike_told}
use Rattle.tables.specs.Puts.{early_digit, settled_now, settled_digit, reaches, early_asked, early_renewed, settled_asked, settled_renewed}
use Rattle.tables.proofs.Puts.{few_rows, few_properties, same_properties, same_property, digits_alike, digits_row, digits_lowest, digits_settled}
use Rattle.tables.proofs.Reach.{same_filled}

-- a word before a part can be put before the part is filled, or after
set_before : (a : ℕ) (f : ℕ → ℕ) (l : List ℕ) (k v : ℕ) → k < a → (n : ℕ) → filled_from a f (set l k v) n ≡ set (filled_from a f l n) k v
set_before a f l k v h zero = refl
set_before a f l k v h (suc n) =
    ap (λ (x : List ℕ). set x (a + n) (f n)) (set_before a f l k v h n) ∙ set_comm (filled_from a f l n) k (a + n) v (f n) (λ e. omega arith)

-- how far the loop has come
abbrev early_to : List ℕ → ℕ → ℕ → ℕ → List ℕ
early_to m first end n = filled_from EARLY (early_asked m first end) m n

unfoldable pub asked_to : List ℕ → ℕ → ℕ → ℕ → List ℕ
asked_to m first end n = filled_from SETTLED (settled_asked m first end) (early_to m first end n) n

module _ {m : List ℕ} (sound : Sound m) (first end : ℕ) where
  abbrev early_so : ℕ → List ℕ
  early_so = early_to m first end

  module _ (n : ℕ) {m' : List ℕ} (e : m' ≡ asked_to m first end n) where
    alike : Alike m m'
    unfolding asked_to
    alike = rw e (alike_on (alike_filled m EARLY (early_asked m first end) n (omega arith)) (alike_filled (early_so n) SETTLED (settled_asked m first end) n (omega arith)))

    before : (k : ℕ) → k < EARLY → get_or m' k 0 ≡ get_or m k 0
    unfolding asked_to
    before k h =
        ap (λ (x : List ℕ). get_or x k 0) e ∙ filled_from_before SETTLED (settled_asked m first end) (early_so n) 0 n k (omega arith)
        ∙ filled_from_before EARLY (early_asked m first end) m 0 n k h

    after : (k : ℕ) → SETTLED + n ≤ k → get_or m' k 0 ≡ get_or m k 0
    unfolding asked_to
    after k h =
        ap (λ (x : List ℕ). get_or x k 0) e ∙ filled_from_after SETTLED (settled_asked m first end) (early_so n) 0 n k h
        ∙ filled_from_after EARLY (early_asked m first end) m 0 n k (omega arith)

    told : (j : ℕ) → j < 32 → told_at m' j ≡ told_at m j
    told j h = before (TOLD + j) (omega arith)

    early_is : (r : ℕ) → early_told m' r ≡ early_told m r
    early_is = early_same m m' (alike_rows sound alike) (alike_told sound alike told)

    settled_is : (r : ℕ) → settled_now m' r ≡ settled_now m r
    settled_is r = ap₂ (λ (w : ℕ) (x : Answer). cond (is_one w) x Open) (alike.below 1 (omega arith)) (settled_same m m' (alike_rows sound alike) (alike_told sound alike told) r)

    pub asked_sound : Sound m'
    asked_sound = alike_sound sound alike

    module _ (h : n < property_count m) where
      few_here : n < 32
      few_here = let f = few_properties sound in omega arith

      module _ {row : ℕ} (er : row ≡ property_row m' n) where
        row_is : row ≡ property_row m n
        row_is = er ∙ same_property sound alike n few_here

        pub asked_inside : row < row_count m'
        asked_inside = rw (row_is, alike.below 0 (omega arith)) (sound.book.properties n h)

        pub asked_few : row < 128
        asked_few = let l = asked_inside in let f = few_rows asked_sound in omega arith

      -- both digits of one more
      module _ {we ws : ℕ} (ee : we ≡ early_asked m first end n) (es : ws ≡ settled_asked m first end n) where
        asked_put : set (set m' (EARLY + n) we) (SETTLED + n) ws ≡ asked_to m first end (n + 1)
        unfolding asked_to
        asked_put =
            rw (e, ee, es, add-one n)
            (sym (ap (λ (x : List ℕ). set x (SETTLED + n) (settled_asked m first end n)) (set_before SETTLED (settled_asked m first end) (early_so n) (EARLY + n) (early_asked m first end n) (let f = few_here in omega arith) n)))

      module _ {row : ℕ} (er : row ≡ property_row m' n) {b : Bool} (eb : b ≡ (leb first row && ltb (lowest_at m' row) end)) where
        reach_is : b ≡ reaches m first end n
        reach_is =
            eb ∙ ap (λ (low : ℕ). leb first row && ltb low end) (after (LOWEST + row) (let f = few_here in omega arith))
            ∙ ap (λ (r : ℕ). leb first r && ltb (lowest_at m r) end) (row_is er)

        -- it is asked
        pub asked_more : b ≡ true → {x y : Answer} → x ≡ early_told m' row → y ≡ settled_now m' row → {we ws : ℕ} → we ≡ digit_of x → ws ≡ digit_of y
            → set (set m' (EARLY + n) we) (SETTLED + n) ws ≡ asked_to m first end (n + 1)
        asked_more yes-it-is ex ey ee es =
            asked_put
            (ee ∙ ap digit_of (ex ∙ early_is row ∙ ap (early_told m) (row_is er)) ∙ ap (λ (c : Bool). cond c (early_digit m n) (early_at m n)) (sym yes-it-is ∙ reach_is))
            (es ∙ ap digit_of (ey ∙ settled_is row ∙ ap (settled_now m) (row_is er)) ∙ ap (λ (c : Bool). cond c (settled_digit m n) (settled_at m n)) (sym yes-it-is ∙ reach_is))

        -- it keeps its digits
        pub asked_kept : b ≡ false → m' ≡ asked_to m first end (n + 1)
        unfolding asked_to
        asked_kept no-it-is =
            let early-here : early_at m' n ≡ early_at m n =
            ap (λ (x : List ℕ). early_at x n) e ∙ filled_from_before SETTLED (settled_asked m first end) (early_so n) 0 n (EARLY + n) (let f = few_here in omega arith)
            ∙ filled_from_after EARLY (early_asked m first end) m 0 n (EARLY + n) (omega arith) in
            let settled-here : settled_at m' n ≡ settled_at m n = after (SETTLED + n) (omega arith) in
            sym (ap (λ (x : List ℕ). set x (SETTLED + n) (settled_at m' n)) (set-get_or m' (EARLY + n) 0) ∙ set-get_or m' (SETTLED + n) 0)
            ∙ asked_put
            (early-here ∙ ap (λ (c : Bool). cond c (early_digit m n) (early_at m n)) (sym no-it-is ∙ reach_is))
            (settled-here ∙ ap (λ (c : Bool). cond c (settled_digit m n) (settled_at m n)) (sym no-it-is ∙ reach_is))

  pub asked_none : m ≡ asked_to m first end 0
  unfolding asked_to
  asked_none = refl

  -- once all are passed, the settled digits are those that would be put after all of the early ones
  pub asked_all : asked_to m first end (property_count m) ≡ settled_renewed (early_renewed m first end) first end
  unfolding asked_to
  asked_all =
      let all = early_renewed m first end in
      let f : ℕ → ℕ = early_asked m first end in
      let few = few_properties sound in
      let same : (i : ℕ) → i < property_count m → settled_asked m first end i ≡ settled_asked all first end i = λ i h.
      let row : property_row all i ≡ property_row m i = digits_row sound EARLY f (property_count m) (omega arith) i (omega arith) in
      let low : lowest_at all (property_row all i) ≡ lowest_at m (property_row m i) =
      digits_lowest sound EARLY f (property_count m) (omega arith) (omega arith) (omega arith) (property_row all i) ∙ ap (lowest_at m) row in
      let reach : reaches all first end i ≡ reaches m first end i = ap₂ (λ (r o : ℕ). leb first r && ltb o end) row low in
      let digit : settled_digit all i ≡ settled_digit m i = ap digit_of (digits_settled sound EARLY f (property_count m) (omega arith) (property_row all i) ∙ ap (settled_now m) row) in
      let there : settled_at all i ≡ settled_at m i = filled_from_after EARLY f m 0 (property_count m) (SETTLED + i) (omega arith) in
      sym (rw (reach, digit, there)) in
      same_filled SETTLED (settled_asked m first end) (settled_asked all first end) all (property_count m) same
      ∙ ap (filled_from SETTLED (settled_asked all first end) all) (sym (same_properties sound (digits_alike sound EARLY f (property_count m) (omega arith))))
