-- Which properties what is told anew can change: the others keep their digits, and that is as if all were asked. Assumes nothing.
use Prim.Native.Nat.{ℕ, zero, suc, ◌+◌, ◌*◌, ◌≤◌, ◌<◌}
use native.Mathlib.Omega.{arith}
use mathlib.Core.Path.{◌≡◌, refl, sym, ap, ap₂, ◌∙◌}
use mathlib.Core.Bool.{Bool, true, false, cond, ◌&&◌}
use mathlib.Core.Logic.{⊎_elim}
use mathlib.Core.List.{List}
use lib.ListN.{get_or, set}
use lib.Dec.{eqb, leb, ltb}
use borrow.Author.Tests.{eqb-true, le-leb, lt-ltb}
use Rattle.lists.specs.Lists.{filled_from}
use Rattle.lists.proofs.Tests.{either, lt_or_ge, clash, and_intro}
use Rattle.lists.proofs.Filled.{filled_from_at, filled_from_after}
use Rattle.pmtl.specs.declared.Answer.{Answer}
use Rattle.pmtl.specs.declared.Answer.TheVariants.{Open}
use Rattle.pmtl.specs.Answer.{digit_of}
use Rattle.pmtl.specs.Book.{lowest}
use Rattle.pmtl.proofs.Lowest.{lowest_low}
use Rattle.numbers.specs.Limits.{MOST_ROWS}
use Rattle.memory.specs.Layout.{TOLD, EARLY, SETTLED, ROWS, ROW}
use Rattle.memory.specs.Memory.{row_count, temporals, kind_at, slot_at, owner_at, property_row, told_at, early_at, settled_at, lowest_at, rows_of, is_one}
use Rattle.memory.specs.Tables.{property_count, Founded}
use Rattle.memory.specs.Kept.{BookKept, Sound}
use Rattle.memory.specs.Alike.{Alike}
use Rattle.memory.proofs.Rows.{kept_ordered}
use Rattle.memory.proofs.Alike.{alike_on, alike_sound, alike_rows}
use Rattle.row_answers.specs.Told.{early_told}
use Rattle.row_answers.proofs.Told.{early_between, settled_between}
use Rattle.tables.specs.Puts.{standing_at, told_put, count_put, news_from, news_end, early_digit, early_put, settled_now, settled_digit, settled_put, reaches, early_asked, early_renewed, settled_asked, settled_renewed}
use Rattle.tables.proofs.Puts.{few_sets, few_properties, same_properties, same_property, digits_alike, digits_row, digits_lowest, digits_settled, told_alike, told_after, told_founded, count_alike, count_other, count_founded}

-- ---- where the news are
-- something new of a set: its row lies between
pub news_between : {m : List ℕ} → BookKept m → (n : ℕ) → n ≤ temporals m → (j : ℕ) → j < n → eqb (told_at m j) (standing_at m j) ≡ false → (news_from m n ≤ owner_at m j) × (owner_at m j < news_end m n)
unfolding news_from news_end
news_between kept zero few j h new = absurd (omega arith)
news_between {m} kept (suc n) few j h new =
    ⊎_elim
    (λ (l : j < n).
    let before = news_between kept n (omega arith) j l new in
    let up = kept.ascends j n l (omega arith) in
    ⊎_elim
    (λ (t : eqb (told_at m n) (standing_at m n) ≡ true). rw t before)
    (λ (t : eqb (told_at m n) (standing_at m n) ≡ false). rw t (let low = before.0 in (omega arith, omega arith)))
    (either (eqb (told_at m n) (standing_at m n))))
    (λ (l : n ≤ j).
    let same : j ≡ n = omega arith in
    let new-here : eqb (told_at m n) (standing_at m n) ≡ false = ap (λ (i : ℕ). eqb (told_at m i) (standing_at m i)) (sym same) ∙ new in
    rw (new-here, same) (omega arith, omega arith))
    (lt_or_ge j n)

-- ---- digits that are right need not be asked for
pub same_filled : (a : ℕ) (f g : ℕ → ℕ) (xs : List ℕ) (n : ℕ) → ((i : ℕ) → i < n → f i ≡ g i) → filled_from a f xs n ≡ filled_from a g xs n
same_filled a f g xs zero e = refl
same_filled a f g xs (suc n) e = ap₂ (λ (l : List ℕ) (x : ℕ). set l (a + n) x) (same_filled a f g xs n (λ i h. e i (omega arith))) (e n (omega arith))

either_way : (b : Bool) (x y : ℕ) → (b ≡ false → y ≡ x) → cond b x y ≡ x
either_way true x y e = refl
either_way false x y e = e refl

module _ {m : List ℕ} (sound : Sound m) (first end : ℕ)
    (early-right : (i : ℕ) → i < property_count m → reaches m first end i ≡ false → early_at m i ≡ early_digit m i)
    (settled-right : (i : ℕ) → i < property_count m → reaches m first end i ≡ false → settled_at m i ≡ settled_digit m i)
  where
    abbrev early_put_lem : List ℕ
    early_put_lem = early_put m

    early_all : early_renewed m first end ≡ early_put_lem
    early_all =
        same_filled EARLY (early_asked m first end) (early_digit m) m (property_count m)
        (λ i h. either_way (reaches m first end i) (early_digit m i) (early_at m i) (early-right i h))

    settled_kept : (i : ℕ) → i < property_count early_put_lem → reaches early_put_lem first end i ≡ false → settled_at early_put_lem i ≡ settled_digit early_put_lem i
    settled_kept i h e =
        let count = same_properties sound (digits_alike sound EARLY (early_digit m) (property_count m) (omega arith)) in
        let few = few_properties sound in
        let l : i < property_count m = omega (arith, count, h) in
        let row : property_row early_put_lem i ≡ property_row m i = digits_row sound EARLY (early_digit m) (property_count m) (omega arith) i (omega (arith, l, few)) in
        let low : lowest_at early_put_lem (property_row early_put_lem i) ≡ lowest_at m (property_row m i) =
        digits_lowest sound EARLY (early_digit m) (property_count m) (omega arith) (omega arith) (omega (arith, few)) (property_row early_put_lem i) ∙ ap (lowest_at m) row in
        filled_from_after EARLY (early_digit m) m 0 (property_count m) (SETTLED + i) (omega (arith, few))
        ∙ settled-right i l (ap₂ (λ (r o : ℕ). leb first r && ltb o end) (sym row) (sym low) ∙ e)
        ∙ ap digit_of (sym (digits_settled sound EARLY (early_digit m) (property_count m) (omega arith) (property_row m i)) ∙ ap (settled_now early_put_lem) (sym row))

    pub asked_enough : settled_renewed (early_renewed m first end) first end ≡ settled_put early_put_lem
    asked_enough =
        ap (λ (x : List ℕ). settled_renewed x first end) early_all
        ∙ same_filled SETTLED (settled_asked early_put_lem first end) (settled_digit early_put_lem) early_put_lem (property_count early_put_lem)
        (λ i h. either_way (reaches early_put_lem first end i) (settled_digit early_put_lem i) (settled_at early_put_lem i) (settled_kept i h))

-- ---- every property is reached from all rows
module _ {m : List ℕ} (sound : Sound m) (founded : Founded m) where
  all_reached : (i : ℕ) → i < property_count m → reaches m 0 MOST_ROWS i ≡ true
  all_reached i h =
      let inside = sound.book.properties i h in
      let few = sound.book.few in
      let low = lowest_low (rows_of m) (kept_ordered sound.book) (property_row m i) in
      let is = founded.right (property_row m i) inside in
      and_intro _ _ (le-leb 0 (property_row m i) (omega arith)) (lt-ltb (lowest_at m (property_row m i)) MOST_ROWS (omega arith))

  pub all_asked : settled_renewed (early_renewed m 0 MOST_ROWS) 0 MOST_ROWS ≡ settled_put (early_put m)
  all_asked = asked_enough sound 0 MOST_ROWS (λ i h e. absurd (clash (all_reached i h) e)) (λ i h e. absurd (clash (all_reached i h) e))

-- ---- what is told anew leaves a property as it is where it is not reached from the rows of the news
module _ {m : List ℕ} (sound : Sound m) (founded : Founded m) where
  abbrev told : List ℕ
  told = count_put (told_put m)

  abbrev from : ℕ
  from = news_from m (temporals m)

  abbrev up_to : ℕ
  up_to = news_end m (temporals m)

  sound₁ : Sound (told_put m)
  sound₁ = alike_sound sound (told_alike sound)

  pub told_from : Alike m told
  told_from = alike_on (told_alike sound) (count_alike sound₁)

  pub told_still_founded : Founded told
  told_still_founded = count_founded sound₁ (told_founded sound founded)

  same_rows : rows_of told ≡ rows_of m
  same_rows = alike_rows sound told_from

  told_word : (j : ℕ) → j < temporals m → told_at told j ≡ standing_at m j
  told_word j h =
      let few = few_sets sound in
      let long = sound.book.long in
      count_other sound₁ (TOLD + j) (omega arith) ∙ filled_from_at TOLD (standing_at m) m 0 (temporals m) j h (omega arith)

  beyond : (k : ℕ) → EARLY ≤ k → k < SETTLED + 32 → get_or told k 0 ≡ get_or m k 0
  beyond k h l = let few = few_sets sound in count_other sound₁ k (omega arith) ∙ told_after sound k (omega arith)

  module _ (i : ℕ) (h : i < property_count m) (off : reaches told from up_to i ≡ false) where
    few_here : i < 32
    few_here = let few = few_properties sound in omega arith

    abbrev row : ℕ
    row = property_row m i

    row_is : property_row told i ≡ row
    row_is = same_property sound told_from i few_here

    inside : row < row_count m
    inside = sound.book.properties i h

    lowest_is : lowest_at told (property_row told i) ≡ lowest (rows_of m) row
    lowest_is =
        let count : row_count told ≡ row_count m = told_from.below 0 (omega arith) in
        ap (lowest_at told) row_is ∙ told_still_founded.right row (omega (arith, count, inside)) ∙ ap (λ b. lowest b row) same_rows

    same_told : (o : ℕ) → lowest (rows_of m) row ≤ o → o ≤ row → o < row_count m → 7 ≤ kind_at m o → told_at told (slot_at told o) ≡ told_at m (slot_at m o)
    same_told o low high l k =
        let few = sound.book.few in
        let kept = sound.book.rows o l in
        let lt = kept.slot k in
        let owner = kept.owner k in
        let slot : slot_at told o ≡ slot_at m o = told_from.below (ROWS + ROW * o + 5) (omega arith) in
        ⊎_elim
        (λ (t : eqb (told_at m (slot_at m o)) (standing_at m (slot_at m o)) ≡ true).
        ap (told_at told) slot ∙ told_word (slot_at m o) lt ∙ sym (eqb-true (told_at m (slot_at m o)) (standing_at m (slot_at m o)) t))
        (λ (t : eqb (told_at m (slot_at m o)) (standing_at m (slot_at m o)) ≡ false).
        let between = news_between sound.book (temporals m) (omega arith) (slot_at m o) lt t in
        let first-low : from ≤ property_row told i = omega (arith, between.0, owner, row_is, high) in
        let end-high : lowest_at told (property_row told i) < up_to = omega (arith, between.1, owner, lowest_is, low) in
        absurd (clash (and_intro _ _ (le-leb from (property_row told i) first-low) (lt-ltb (lowest_at told (property_row told i)) up_to end-high)) off))
        (either (eqb (told_at m (slot_at m o)) (standing_at m (slot_at m o))))

    early_unchanged : early_at m i ≡ early_digit m i → early_at told i ≡ early_digit told i
    early_unchanged e =
        beyond (EARLY + i) (omega arith) (omega (arith, few_here)) ∙ e
        ∙ ap digit_of (sym (early_between m told sound.book same_rows row inside same_told) ∙ ap (early_told told) (sym row_is))

    settled_unchanged : settled_at m i ≡ settled_digit m i → settled_at told i ≡ settled_digit told i
    settled_unchanged e =
        beyond (SETTLED + i) (omega arith) (omega (arith, few_here)) ∙ e
        ∙ ap digit_of (ap₂ (λ (w : ℕ) (x : Answer). cond (is_one w) x Open) (sym (told_from.below 1 (omega arith))) (sym (settled_between m told sound.book same_rows row inside same_told))
        ∙ ap (settled_now told) (sym row_is))

  -- where the digits were right by what was told before
  pub news_asked : ((i : ℕ) → i < property_count m → early_at m i ≡ early_digit m i) → ((i : ℕ) → i < property_count m → settled_at m i ≡ settled_digit m i)
      → settled_renewed (early_renewed told from up_to) from up_to ≡ settled_put (early_put told)
  news_asked early settled =
      let count = same_properties sound told_from in
      asked_enough (alike_sound sound told_from) from up_to
      (λ i h off. let l : i < property_count m = omega (arith, count, h) in early_unchanged i l off (early i l))
      (λ i h off. let l : i < property_count m = omega (arith, count, h) in settled_unchanged i l off (settled i l))
