-- Reading a section in place: what each answer of the tests on its count and on the words left says of `section`. Assumes nothing.
use mathlib.Core.Path.{◌≡◌, refl, ◌∙◌}
use mathlib.Core.List.{List, ◌∷◌}
use Prim.Native.Nat.{ℕ, ◌+◌, ◌*◌, ◌-◌, ◌≤◌, ◌<◌}
use native.Mathlib.Numerals.{add-one}
use native.Mathlib.Omega.{arith}
use lib.ListN.{length, get_or, drop, length-drop, drop_of_length-le}
use lib.Seq.{drop-cons, drop-drop}
use borrow.Author.Tests.{lt-ltb, le-ltb}
use Rattle.lists.specs.Lists.{part}
use Rattle.book.specs.Reading.{got, refused, section, next, Sections, sections}
use Rattle.book.specs.Judging.{refused_with, whole, loaded}
use Rattle.book.specs.Placing.{parts_of, sections_of, Counted}
use Rattle.book.specs.Private.{SectionCounting}

module _ (words : List ℕ) (at limit size : ℕ) where
  at_count : (n : ℕ) → n ≡ get_or words at 0 → at < length words → drop at words ≡ n ∷ drop (at + 1) words
  at_count n e l = rw (add-one, drop-cons words at 0, e)

  -- no count
  pub ended : length words ≤ at → section 1 limit size (drop at words) ≡ refused 1
  unfolding section
  ended l = rw (drop_of_length-le words l)

  module _ (n : ℕ) (e : n ≡ get_or words at 0) (l : at < length words) where
    -- a count past its limit
    pub too_many : limit < n → section 1 limit size (drop at words) ≡ refused 2
    unfolding section
    too_many m = rw (at_count n e l, lt-ltb limit n m)

    -- too few words after the count
    pub too_short : n ≤ limit → length words < at + 1 + size * n → section 1 limit size (drop at words) ≡ refused 1
    unfolding section
    too_short m short =
        rw (at_count n e l, le-ltb limit n m, length-drop (at + 1) words, lt-ltb (length words - (at + 1)) (size * n) (omega arith))

    -- enough words
    pub enough : n ≤ limit → at + 1 + size * n ≤ length words → SectionCounting words at limit size n (at + 1 + size * n)
    unfolding section
    enough m fits = record {
      inside = fits;
      few = m;
      onward = refl;
      read = rw (at_count n e l, le-ltb limit n m, length-drop (at + 1) words, le-ltb (length words - (at + 1)) (size * n) (omega arith), drop-drop (size * n) (at + 1) words);
    }

-- ---- the four sections in turn: what is loaded where the reading ends in one of them
module _ (words : List ℕ) where
  pub in_rows : (k : ℕ) → section 1 128 4 (drop 0 words) ≡ refused k → loaded words ≡ refused_with k
  unfolding loaded sections next whole
  in_rows k e = rw e

  module _ {c₁ x₁ : ℕ} (t₁ : SectionCounting words 0 128 4 c₁ x₁) where
    pub in_operands : (k : ℕ) → section 1 128 1 (drop x₁ words) ≡ refused k → loaded words ≡ refused_with k
    unfolding loaded sections next whole
    in_operands k e = rw (t₁.read, e)

    module _ {c₂ x₂ : ℕ} (t₂ : SectionCounting words x₁ 128 1 c₂ x₂) where
      pub in_assumes : (k : ℕ) → section 1 16 1 (drop x₂ words) ≡ refused k → loaded words ≡ refused_with k
      unfolding loaded sections next whole
      in_assumes k e = rw (t₁.read, t₂.read, e)

      module _ {c₃ x₃ : ℕ} (t₃ : SectionCounting words x₂ 16 1 c₃ x₃) where
        pub in_guarantees : (k : ℕ) → section 1 16 1 (drop x₃ words) ≡ refused k → loaded words ≡ refused_with k
        unfolding loaded sections next whole
        in_guarantees k e = rw (t₁.read, t₂.read, t₃.read, e)

        -- words are left over
        pub left_over : {c₄ x₄ : ℕ} → SectionCounting words x₃ 16 1 c₄ x₄ → x₄ < length words → loaded words ≡ refused_with 1
        unfolding loaded sections next whole
        left_over {c₄} {x₄} t₄ l = rw (t₁.read, t₂.read, t₃.read, t₄.read, drop-cons words x₄ 0 l)

-- ---- sections that stand where parts_of has them
pub in_place : (words : List ℕ) (n o a g : ℕ) {x₁ x₂ x₃ x₄ : List ℕ} (p₂ p₃ p₄ : ℕ) → x₁ ≡ part 1 (4 * n) words → x₂ ≡ part p₂ o words → x₃ ≡ part p₃ a words → x₄ ≡ part p₄ g words
    → p₂ ≡ 4 * n + 2
    → p₃ ≡ 4 * n + o + 3
    → p₄ ≡ 4 * n + o + a + 4
    → sections_of x₁ x₂ x₃ x₄ ≡ parts_of words n o a g
unfolding parts_of
in_place words n o a g p₂ p₃ p₄ e₁ e₂ e₃ e₄ q₂ q₃ q₄ = rw (e₁, e₂, e₃, e₄, q₂, q₃, q₄)

-- ---- each section by itself, at a place that is worked out otherwise
pub rows_at : (words : List ℕ) (n o a g : ℕ) {x : List ℕ} → x ≡ part 1 (4 * n) words → x ≡ (parts_of words n o a g).rows
unfolding parts_of
rows_at words n o a g e = e

module _ (words : List ℕ) (n o a g p : ℕ) {x : List ℕ} where
  pub operands_at_lem : x ≡ part p o words → p ≡ 4 * n + 2 → x ≡ (parts_of words n o a g).operands
  unfolding parts_of
  operands_at_lem e q = rw (e, q)

  pub assumes_at : x ≡ part p a words → p ≡ 4 * n + o + 3 → x ≡ (parts_of words n o a g).assumes
  unfolding parts_of
  assumes_at e q = rw (e, q)

  pub guarantees_at : x ≡ part p g words → p ≡ 4 * n + o + a + 4 → x ≡ (parts_of words n o a g).guarantees
  unfolding parts_of
  guarantees_at e q = rw (e, q)

-- and the four together
pub sections_are : {s : Sections} {x₁ x₂ x₃ x₄ : List ℕ} → x₁ ≡ s.rows → x₂ ≡ s.operands → x₃ ≡ s.assumes → x₄ ≡ s.guarantees → sections_of x₁ x₂ x₃ x₄ ≡ s
sections_are e₁ e₂ e₃ e₄ = rw (e₁, e₂, e₃, e₄)

-- ---- where all were read, to the last word
module _
    (words : List ℕ)
    {c₁ x₁ c₂ x₂ c₃ x₃ c₄ x₄ : ℕ}
    (t₁ : SectionCounting words 0 128 4 c₁ x₁)
    (t₂ : SectionCounting words x₁ 128 1 c₂ x₂)
    (t₃ : SectionCounting words x₂ 16 1 c₃ x₃)
    (t₄ : SectionCounting words x₃ 16 1 c₄ x₄)
  where
    in_turn : sections 1 words ≡ got (sections_of (part (0 + 1) (4 * c₁) words) (part (x₁ + 1) (1 * c₂) words) (part (x₂ + 1) (1 * c₃) words) (part (x₃ + 1) (1 * c₄) words)) (drop x₄ words)
    unfolding sections next
    in_turn = rw (t₁.read, t₂.read, t₃.read, t₄.read)

    placed : sections_of (part (0 + 1) (4 * c₁) words) (part (x₁ + 1) (1 * c₂) words) (part (x₂ + 1) (1 * c₃) words) (part (x₃ + 1) (1 * c₄) words) ≡ parts_of words c₁ c₂ c₃ c₄
    placed =
        let p₁ = t₁.onward in
        let p₂ = t₂.onward in
        let p₃ = t₃.onward in
        let once : (m : ℕ) → 1 * m ≡ m = λ m. omega arith in
        in_place words c₁ c₂ c₃ c₄ (x₁ + 1) (x₂ + 1) (x₃ + 1) refl (rw once) (rw once) (rw once) (omega arith) (omega arith) (omega arith)

    pub to_the_last : length words ≤ x₄ → Counted words c₁ c₂ c₃ c₄
    to_the_last l = record {
      rows_few = t₁.few;
      operands_few = t₂.few;
      assumes_few = t₃.few;
      guarantees_few = t₄.few;
      long =
          let p₁ = t₁.onward in
          let p₂ = t₂.onward in
          let p₃ = t₃.onward in
          let p₄ = t₄.onward in
          let i₄ = t₄.inside in
          omega arith;
      read = in_turn ∙ rw (placed, drop_of_length-le words l);
    }
