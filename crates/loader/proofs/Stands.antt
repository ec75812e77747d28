-- The memory of an accepted book, word by word. Assumes nothing.
use Prim.Native.Nat.{ℕ, ◌+◌, ◌*◌, ◌-◌, ◌≤◌, ◌<◌}
use mathlib.Core.Path.{◌≡◌, sym, ap, ◌∙◌}
use mathlib.Core.Logic.{◌⊎◌, inl, inr, ⊎_elim}
use mathlib.Core.List.{List, ◌++◌}
use native.Mathlib.Omega.{arith}
use lib.ListN.{length, get_or, set, replicate, length-set, length-replicate, get_or-replicate, get_or-append, get_or-eq_default}
use lib.Seq.{length-paste, get_or-append-add, get_or-set_same, get_or-set_other}
use Rattle.lists.proofs.Tests.{lt_or_ge}
use Rattle.pmtl.specs.Sets.{Way}
use Rattle.memory.specs.Layout.{ROWS, ROW, OPERANDS, PROPERTIES, ATOMS, OWNERS, SIZE}
use Rattle.memory.specs.Memory.{row_count, begun_word, clock_of, width_word, temporals, assume_count, guarantee_count, way_word, owner_at}
use Rattle.book.specs.Reading.{Sections}
use Rattle.book.specs.Judging.{kind_in, rows_in, temporals_in}
use Rattle.book.proofs.Accepted.{temporals_fit}
use Rattle.loader.specs.Private.{word_for, width_in, row_words, rows_put, head_put, links_put, stored, Accepted}
use Rattle.lists.specs.Lists.{put}
use Rattle.lists.proofs.Parts.{word_at}
use Rattle.lists.proofs.Pastes.{paste_below, paste_at, paste_above}
use Rattle.loader.proofs.Rows.{rows_length, rows_before, rows_after, owners_after, row_word, row_owner}

-- every word of a memory that holds the sections' book and a fresh monitor
pub record Stands (way : Way) (s : Sections) (m : List ℕ) : Type 0 where
  pub long : length m ≡ SIZE
  pub way_is : way_word m ≡ word_for way
  pub count : row_count m ≡ rows_in s
  pub begun : begun_word m ≡ 0
  pub clock : clock_of m ≡ 0
  pub width : width_word m ≡ width_in s.rows (rows_in s)
  pub temporal_count : temporals m ≡ temporals_in s.rows (rows_in s)
  pub assumes_counted : assume_count m ≡ length s.assumes
  pub guarantees_counted : guarantee_count m ≡ length s.guarantees
  pub word : (r j : ℕ) → r < rows_in s → j < ROW → get_or m (ROWS + ROW * r + j) 0 ≡ get_or (row_words s.rows r) j 0
  pub rows_rest : (i : ℕ) → ROWS + ROW * rows_in s ≤ i → i < OPERANDS → get_or m i 0 ≡ 0
  pub operand : (i : ℕ) → i < 128 → get_or m (OPERANDS + i) 0 ≡ get_or s.operands i 0
  pub property : (i : ℕ) → i < 32 → get_or m (PROPERTIES + i) 0 ≡ get_or (s.assumes ++ s.guarantees) i 0
  pub atom : (i : ℕ) → i < 256 → get_or m (ATOMS + i) 0 ≡ 0
  pub owner : (r : ℕ) → r < rows_in s → 7 ≤ kind_in s.rows r → owner_at m (temporals_in s.rows r) ≡ r
  pub owners_rest : (i : ℕ) → OWNERS + temporals_in s.rows (rows_in s) ≤ i → get_or m i 0 ≡ 0

-- ---- a list put over zeros
module _ (m : List ℕ) (at : ℕ) (xs : List ℕ) (h : at + length xs ≤ length m) where
  pub put_length : length (put m at xs) ≡ length m
  put_length = length-paste m at xs (length xs) h (omega arith)

  pub put_below : (i : ℕ) → i < at → get_or (put m at xs) i 0 ≡ get_or m i 0
  put_below i l = paste_below m at xs (length xs) h (omega arith) i l

  pub put_above : (i : ℕ) → at + length xs ≤ i → get_or (put m at xs) i 0 ≡ get_or m i 0
  put_above i l = paste_above m at xs (length xs) h (omega arith) i l

  pub put_over : (i : ℕ) → get_or m (at + i) 0 ≡ 0 → get_or (put m at xs) (at + i) 0 ≡ get_or xs i 0
  put_over i z =
      ⊎_elim
      (λ p. paste_at m at xs (length xs) h (omega arith) i p)
      (λ p. put_above (at + i) (omega arith) ∙ z ∙ sym (get_or-eq_default xs 0 p))
      (lt_or_ge i (length xs))

-- ---- the words before the rows
module _ (m : List ℕ) (long : length m ≡ SIZE) (y n w t a g : ℕ) where
  abbrev m₁ : List ℕ
  m₁ = set m 0 n

  abbrev m₂ : List ℕ
  m₂ = set m₁ 3 w

  abbrev m₃ : List ℕ
  m₃ = set m₂ 4 t

  abbrev m₄ : List ℕ
  m₄ = set m₃ 5 a

  abbrev m₅ : List ℕ
  m₅ = set m₄ 6 g

  abbrev m₆ : List ℕ
  m₆ = set m₅ 7 y

  head_long : length m₆ ≡ SIZE
  head_long = simp length-set long

  -- a word before those from k on, or after all of them, is as it was before these were put
  abbrev Outside : ℕ → ℕ → Type 0
  Outside k i = (i < k) ⊎ (7 < i)

  outer : {i : ℕ} (k : ℕ) → k ≤ 7 → Outside k i → i ≡ k → ⊥
  outer k h (inl l) e = omega arith
  outer k h (inr l) e = omega arith

  wider : {i : ℕ} (k j : ℕ) → k ≤ j → Outside k i → Outside j i
  wider k j h (inl l) = inl (omega arith)
  wider k j h (inr l) = inr l

  from_7 : (i : ℕ) → Outside 7 i → get_or m₆ i 0 ≡ get_or m₅ i 0
  from_7 i o = get_or-set_other m₅ 7 i y 0 (outer 7 (omega arith) o)

  from_6 : (i : ℕ) → Outside 6 i → get_or m₆ i 0 ≡ get_or m₄ i 0
  from_6 i o = from_7 i (wider 6 7 (omega arith) o) ∙ get_or-set_other m₄ 6 i g 0 (outer 6 (omega arith) o)

  from_5 : (i : ℕ) → Outside 5 i → get_or m₆ i 0 ≡ get_or m₃ i 0
  from_5 i o = from_6 i (wider 5 6 (omega arith) o) ∙ get_or-set_other m₃ 5 i a 0 (outer 5 (omega arith) o)

  from_4 : (i : ℕ) → Outside 4 i → get_or m₆ i 0 ≡ get_or m₂ i 0
  from_4 i o = from_5 i (wider 4 5 (omega arith) o) ∙ get_or-set_other m₂ 4 i t 0 (outer 4 (omega arith) o)

  from_3 : (i : ℕ) → Outside 3 i → get_or m₆ i 0 ≡ get_or m₁ i 0
  from_3 i o = from_4 i (wider 3 4 (omega arith) o) ∙ get_or-set_other m₁ 3 i w 0 (outer 3 (omega arith) o)

  head_other : (i : ℕ) → 0 < i → Outside 3 i → get_or m₆ i 0 ≡ get_or m i 0
  head_other i h o = from_3 i o ∙ get_or-set_other m 0 i n 0 (λ e. omega arith)

  head_0 : get_or m₆ 0 0 ≡ n
  head_0 = from_3 0 (inl (omega arith)) ∙ get_or-set_same m 0 n 0 (omega arith)

  head_3 : get_or m₆ 3 0 ≡ w
  head_3 = from_4 3 (inl (omega arith)) ∙ get_or-set_same m₁ 3 w 0 (simp length-set (omega arith))

  head_4 : get_or m₆ 4 0 ≡ t
  head_4 = from_5 4 (inl (omega arith)) ∙ get_or-set_same m₂ 4 t 0 (simp length-set (omega arith))

  head_5 : get_or m₆ 5 0 ≡ a
  head_5 = from_6 5 (inl (omega arith)) ∙ get_or-set_same m₃ 5 a 0 (simp length-set (omega arith))

  head_6 : get_or m₆ 6 0 ≡ g
  head_6 = from_7 6 (inl (omega arith)) ∙ get_or-set_same m₄ 6 g 0 (simp length-set (omega arith))

  head_7 : get_or m₆ 7 0 ≡ y
  head_7 = get_or-set_same m₅ 7 y 0 (simp length-set (omega arith))

-- ---- operands and properties
module _ (way : Way) (s : Sections) (ok : Accepted s) where
  abbrev with_operands : List ℕ
  with_operands = put (replicate SIZE 0) OPERANDS s.operands

  abbrev with_assumes : List ℕ
  with_assumes = put with_operands PROPERTIES s.assumes

  zeros : (i : ℕ) → i < SIZE → ◌≡◌ {A = ℕ} (get_or (replicate SIZE 0) i 0) 0
  zeros i h = get_or-replicate SIZE i 0 0 h

  fits_operands : OPERANDS + length s.operands ≤ length {A = ℕ} (replicate SIZE 0)
  fits_operands = let f = ok.few.operands in omega (arith, length-replicate {A = ℕ} SIZE 0)

  operands_long : length with_operands ≡ SIZE
  operands_long = put_length (replicate SIZE 0) OPERANDS s.operands fits_operands ∙ length-replicate {A = ℕ} SIZE 0

  fits_assumes : PROPERTIES + length s.assumes ≤ length with_operands
  fits_assumes = let f = ok.few.assumes in let e = operands_long in omega arith

  assumes_long : length with_assumes ≡ SIZE
  assumes_long = put_length with_operands PROPERTIES s.assumes fits_assumes ∙ operands_long

  fits_guarantees : PROPERTIES + length s.assumes + length s.guarantees ≤ length with_assumes
  fits_guarantees = let f = ok.few.assumes in let g = ok.few.guarantees in let e = assumes_long in omega arith

  links_long : length (links_put s) ≡ SIZE
  links_long = put_length with_assumes (PROPERTIES + length s.assumes) s.guarantees fits_guarantees ∙ assumes_long

  -- before and after the properties
  links_outside : (i : ℕ) → (i < PROPERTIES) ⊎ (ATOMS ≤ i) → get_or (links_put s) i 0 ≡ get_or with_operands i 0
  links_outside i (inl l) =
      put_below with_assumes (PROPERTIES + length s.assumes) s.guarantees fits_guarantees i (omega arith)
      ∙ put_below with_operands PROPERTIES s.assumes fits_assumes i l
  links_outside i (inr l) =
      let f = ok.few.assumes in
      let g = ok.few.guarantees in
      put_above with_assumes (PROPERTIES + length s.assumes) s.guarantees fits_guarantees i (omega arith)
      ∙ put_above with_operands PROPERTIES s.assumes fits_assumes i (omega arith)

  links_operand : (i : ℕ) → i < 128 → get_or (links_put s) (OPERANDS + i) 0 ≡ get_or s.operands i 0
  links_operand i h =
      links_outside (OPERANDS + i) (inl (omega arith))
      ∙ put_over (replicate SIZE 0) OPERANDS s.operands fits_operands i (zeros (OPERANDS + i) (omega arith))

  operands_after : (i : ℕ) → PROPERTIES ≤ i → i < SIZE → get_or with_operands i 0 ≡ 0
  operands_after i l u =
      let f = ok.few.operands in
      put_above (replicate SIZE 0) OPERANDS s.operands fits_operands i (omega arith) ∙ zeros i u

  links_before : (i : ℕ) → i < OPERANDS → get_or (links_put s) i 0 ≡ 0
  links_before i l =
      links_outside i (inl (omega arith)) ∙ put_below (replicate SIZE 0) OPERANDS s.operands fits_operands i l ∙ zeros i (omega arith)

  links_after : (i : ℕ) → ATOMS ≤ i → i < SIZE → get_or (links_put s) i 0 ≡ 0
  links_after i l u = links_outside i (inr l) ∙ operands_after i (omega arith) u

  links_property : (i : ℕ) → i < 32 → get_or (links_put s) (PROPERTIES + i) 0 ≡ get_or (s.assumes ++ s.guarantees) i 0
  links_property i h =
      let f = ok.few.assumes in
      let z = put_over with_operands PROPERTIES s.assumes fits_assumes i (operands_after (PROPERTIES + i) (omega arith) (omega arith)) in
      ⊎_elim
      (λ p.
      put_below with_assumes (PROPERTIES + length s.assumes) s.guarantees fits_guarantees (PROPERTIES + i) (omega arith)
      ∙ z ∙ sym (get_or-append s.assumes s.guarantees 0 i p))
      (λ p.
      let k : ℕ = i - length s.assumes in
      let at : ℕ = PROPERTIES + length s.assumes in
      let e : i ≡ length s.assumes + k = omega arith in
      let q : get_or with_assumes (at + k) 0 ≡ 0 =
      word_at with_assumes (at + k) (PROPERTIES + i) (omega arith) ∙ z ∙ get_or-eq_default s.assumes 0 p in
      word_at (links_put s) (PROPERTIES + i) (at + k) (omega arith)
      ∙ put_over with_assumes at s.guarantees fits_guarantees k q
      ∙ sym (ap (λ (j : ℕ). get_or (s.assumes ++ s.guarantees) j 0) e ∙ get_or-append-add s.assumes s.guarantees k 0))
      (lt_or_ge i (length s.assumes))

  -- ---- and the rows
  few : rows_in s ≤ 128
  few = let f = ok.few.rows in omega arith

  abbrev with_rows : List ℕ
  with_rows = rows_put s.rows (links_put s) (rows_in s)

  room : temporals_in s.rows (rows_in s) ≤ 32
  room = temporals_fit s ok.good

  rows_long : length with_rows ≡ SIZE
  rows_long = rows_length s.rows (links_put s) links_long (rows_in s) few room (rows_in s) (omega arith)

  between : (i : ℕ) → ROWS + ROW * rows_in s ≤ i → i < OWNERS → get_or with_rows i 0 ≡ get_or (links_put s) i 0
  between = rows_after s.rows (links_put s) links_long (rows_in s) few room (rows_in s) (omega arith)

  abbrev headed : List ℕ → List ℕ
  headed m = head_put m way (rows_in s) (width_in s.rows (rows_in s)) (temporals_in s.rows (rows_in s)) (length s.assumes) (length s.guarantees)

  under_head : (i : ℕ) → 0 < i → (i < 3) ⊎ (7 < i) → get_or (headed with_rows) i 0 ≡ get_or with_rows i 0
  under_head = head_other with_rows rows_long _ _ _ _ _ _

  past_end : (m : List ℕ) → length m ≡ SIZE → (i : ℕ) → (i < SIZE → get_or m i 0 ≡ 0) → get_or m i 0 ≡ 0
  past_end m l i f = ⊎_elim f (λ p. get_or-eq_default m 0 (omega arith)) (lt_or_ge i SIZE)

  pub stored_stands : Stands way s (stored way s)
  unfolding stored
  stored_stands =
      let f = few in
      let l = rows_long in
      let l₀ = links_long in
      let t = room in
      record {
        long = head_long with_rows l _ _ _ _ _ _;
        way_is = head_7 with_rows l _ _ _ _ _ _;
        count = head_0 with_rows l _ _ _ _ _ _;
        begun = under_head 1 (omega arith) (inl (omega arith)) ∙ rows_before s.rows (links_put s) l₀ (rows_in s) f t (rows_in s) (omega arith) 1 (omega arith) ∙ links_before 1 (omega arith);
        clock = under_head 2 (omega arith) (inl (omega arith)) ∙ rows_before s.rows (links_put s) l₀ (rows_in s) f t (rows_in s) (omega arith) 2 (omega arith) ∙ links_before 2 (omega arith);
        width = head_3 with_rows l _ _ _ _ _ _;
        temporal_count = head_4 with_rows l _ _ _ _ _ _;
        assumes_counted = head_5 with_rows l _ _ _ _ _ _;
        guarantees_counted = head_6 with_rows l _ _ _ _ _ _;
        word = λ r j h k. under_head (ROWS + ROW * r + j) (omega arith) (inr (omega arith)) ∙ row_word s.rows (links_put s) l₀ (rows_in s) f t (rows_in s) (omega arith) r j h k;
        rows_rest = λ i h k. under_head i (omega arith) (inr (omega arith)) ∙ between i h (omega arith) ∙ links_before i k;
        operand = λ i h. under_head (OPERANDS + i) (omega arith) (inr (omega arith)) ∙ between (OPERANDS + i) (omega arith) (omega arith) ∙ links_operand i h;
        property = λ i h. under_head (PROPERTIES + i) (omega arith) (inr (omega arith)) ∙ between (PROPERTIES + i) (omega arith) (omega arith) ∙ links_property i h;
        atom = λ i h. under_head (ATOMS + i) (omega arith) (inr (omega arith)) ∙ between (ATOMS + i) (omega arith) (omega arith) ∙ links_after (ATOMS + i) (omega arith) (omega arith);
        owner = λ r h k. under_head (OWNERS + temporals_in s.rows r) (omega arith) (inr (omega arith)) ∙ row_owner s.rows (links_put s) l₀ (rows_in s) f t (rows_in s) (omega arith) r h k;
        owners_rest = λ i h. under_head i (omega arith) (inr (omega arith)) ∙ owners_after s.rows (links_put s) l₀ (rows_in s) f t (rows_in s) (omega arith) i h ∙ past_end (links_put s) l₀ i (λ u. links_after i (omega arith) u);
      }
