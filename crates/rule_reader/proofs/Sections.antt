-- The words of a book that was built. Assumes nothing.
use Prim.Native.Nat.{ℕ, ◌+◌, ◌≤◌, ◌<◌}
use mathlib.Core.Path.{◌≡◌, refl, ap, ◌∙◌}
use mathlib.Core.List.{List}
use native.Mathlib.Omega.{arith}
use lib.ListN.{length, take}
use borrow.Author.Tests.{lt-ltb}
use Rattle.numbers.specs.Limits.{MOST_ROWS}
use Rattle.numbers.specs.Refusals.{ACCEPTED, BAD_WORD, PAST_LIMIT}
use Rattle.book.specs.Reading.{section, sections, next}
use Rattle.book.specs.Judging.{loaded, whole, refused_with}
use Rattle.trees.specs.Forest.{Forest, ◌then◌, count, size}
use Rattle.rule_scanner.specs.Reading.{Outcome, read, wrong, read_text}
use Rattle.trees.specs.Building.{words_of, Mem}
use Rattle.rule_reader.specs.Rules.{result_of, read_book}
use Rattle.rule_scanner.specs.Scanning.{scanned}
use Rattle.rule_scanner.specs.declared.scan.Extent.{Extent}
use Rattle.std.specs.Prelude.{Ok, Err}
use Rattle.trees.proofs.Numbered.{size_then}
use Rattle.trees.specs.Building.{Rooms}
use Rattle.rule_reader.specs.Laying.{Small, Builds}
use Rattle.book.specs.declared.check.Places.{Places}
use Rattle.trees.specs.Putting.{SectionsPut}
use Rattle.trees.proofs.Putting.{words_built}
use Rattle.rule_reader.specs.Words.{ReadAs}

-- too many rows
too_many : (a g : Forest) → MOST_ROWS < size a + size g → loaded (words_of a g) ≡ refused_with PAST_LIMIT
unfolding loaded whole words_of sections section next
too_many a g h = let k : MOST_ROWS < size (a then g) = omega (arith, size_then a g) in rw (lt-ltb MOST_ROWS (size (a then g)) k)

-- ---- what reading hands back
module _ (s : List ℕ) where
  pub read_wrong : (at : ℕ) (words : List ℕ) → Err at ≡ scanned (read_text s) → ReadAs s BAD_WORD at 0 words
  unfolding read_book result_of scanned
  read_wrong at words e = by_outcome (read_text s) refl e
    where
      by_outcome : (x : Outcome) → read_text s ≡ x → Err at ≡ scanned x → ReadAs s BAD_WORD at 0 words
      by_outcome (wrong k) f e = record { number_is = rw f; place_is = let z : at ≡ k = cc in rw (f, z); words_are = λ z a g u. absurd (omega arith); inside = omega arith; none = λ z. refl }
      by_outcome (read a g) f e = cc

  -- what the counts say
  right_is : (t : Extent) → Ok t ≡ scanned (read_text s) → (x : Forest) × (y : Forest) × (read_text s ≡ read x y) × (t.rows ≡ size x + size y) × (t.assumes ≡ count x) × (t.guarantees ≡ count y)
  unfolding scanned
  right_is t e = by_outcome (read_text s) refl e
    where
      by_outcome : (x : Outcome) → read_text s ≡ x → Ok t ≡ scanned x → (x : Forest) × (y : Forest) × (read_text s ≡ read x y) × (t.rows ≡ size x + size y) × (t.assumes ≡ count x) × (t.guarantees ≡ count y)
      by_outcome (wrong k) f e = cc
      by_outcome (read x y) f e =
          let z : t ≡ record { rows = size x + size y; assumes = count x; guarantees = count y } = cc in
          (x, y, f, ap (λ (t : Extent). t.rows) z, ap (λ (t : Extent). t.assumes) z, ap (λ (t : Extent). t.guarantees) z)

  module _ (t : Extent) (e : Ok t ≡ scanned (read_text s)) where
    pub read_many : (words : List ℕ) → MOST_ROWS < t.rows → ReadAs s PAST_LIMIT 0 0 words
    unfolding read_book result_of
    read_many words h =
        let k = right_is t e in
        let v : MOST_ROWS < size k.0 + size k.1 = omega (arith, k.3) in
        record { number_is = rw (k.2, too_many k.0 k.1 v); place_is = rw k.2; words_are = λ z a g u. absurd (omega arith); inside = omega arith; none = λ z. refl }

    pub small_of : t.rows ≤ MOST_ROWS → Small (read_text s)
    unfolding Small
    small_of h = let k = right_is t e in rw k.2 (omega (arith, k.3))

    module _ (o : ℕ) (rs os ts : List ℕ) (b : Builds (read_text s) o rs os ts) where
      built_as : (x y : Forest) → read_text s ≡ read x y → Mem rs os ts o (x then y) × (o + (count x + count y) ≡ size x + size y)
      unfolding Builds
      built_as x y f = rw f at b

      pub balance_of : o + (t.assumes + t.guarantees) ≡ t.rows
      balance_of = let k = right_is t e in let m = built_as k.0 k.1 k.2 in omega (arith, k.3, k.4, k.5, m.1)

      module _ (c : Places) (words : List ℕ) (r j : ℕ) (en : c.rows ≡ t.rows) (eo : c.operands ≡ o) (ea : c.assumes ≡ t.assumes) (eg : c.guarantees ≡ t.guarantees) (few : t.rows ≤ MOST_ROWS) (rooms : Rooms (length rs) (length os) (length ts))
          (p : SectionsPut c rs os ts words r) (cj : j ≡ (loaded (take r words)).number) where
        words_said_lem : (x y : Forest) → read_text s ≡ read x y → take r words ≡ words_of x y
        words_said_lem x y f =
            let k = right_is t e in
            let ux : k.0 ≡ x = cc k.2 in
            let uy : k.1 ≡ y = cc k.2 in
            let sx = ap size ux in
            let sy = ap size uy in
            let m = built_as x y f in
            let ra : c.assumes ≡ count x = ea ∙ k.4 ∙ ap count ux in
            let rg : c.guarantees ≡ count y = eg ∙ k.5 ∙ ap count uy in
            let z : t.rows ≡ size x + size y = omega (arith, k.3) in
            p.are ∙ rw (en, eo, ra, rg) (words_built x y m.0 (omega (arith, m.1, rooms.tops_long)) (omega (arith, m.1, rooms.operands_long)) t.rows z)

        number_said : j ≡ (read_book s).loaded.number
        unfolding read_book result_of
        number_said = let k = right_is t e in cj ∙ rw (k.2, words_said_lem k.0 k.1 k.2)

        place_said : 0 ≡ (read_book s).place
        unfolding read_book result_of
        place_said = let k = right_is t e in rw k.2

        pub read_refused : (j ≡ ACCEPTED → ⊥) → ReadAs s j 0 0 words
        read_refused h = record { number_is = number_said; place_is = place_said; words_are = λ z x y f. absurd (h z); inside = omega arith; none = λ z. refl }

        pub read_right : j ≡ ACCEPTED → ReadAs s j 0 r words
        read_right h = record { number_is = number_said; place_is = place_said; words_are = λ z x y f. words_said_lem x y f; inside = p.inside; none = λ z. absurd (z h) }
