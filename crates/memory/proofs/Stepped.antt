-- Where only what a call may change is changed (the clock, the atoms named, the sets in use), the memory is kept and holds the same book. Assumes nothing.
use Prim.Native.Nat.{ℕ, zero, suc, ◌+◌, ◌*◌, ◌≤◌, ◌<◌}
use mathlib.Core.Path.{◌≡◌, refl, sym, ap, ◌∙◌}
use mathlib.Core.Logic.{◌⊎◌, inl, inr}
use mathlib.Core.List.{List}
use native.Mathlib.Omega.{arith}
use lib.ListN.{length, get_or}
use Rattle.ring.specs.Ring.{Rolling}
use Rattle.lists.proofs.Tests.{lt_or_ge}
use Rattle.numbers.specs.Limits.{LAST_TIME}
use Rattle.pmtl.specs.Book.{width_of}
use Rattle.memory.specs.Layout.{ROWS, ROW, OPERANDS, PROPERTIES, ATOMS, SIZE}
use Rattle.memory.specs.Memory.{row_count, begun_word, clock_of, width_word, temporals, assume_count, guarantee_count, way_word, kind_at, arg_at, lower_at, upper_at, start_at, slot_at, operands_of, owner_at, slot_words, row_of, rows_of, book_of}
use Rattle.memory.specs.Kept.{RowKept, BookKept, start_to, slot_to, Tidy, Sound}
use Rattle.lists.proofs.Listed.{listed_agree}
use Rattle.lists.proofs.Parts.{part_same}

-- m' is m after a call: every other word is the same
pub record Stepped (m m' : List ℕ) : Type 0 where
  pub long : length m' ≡ length m
  pub rows_same : row_count m' ≡ row_count m
  pub book_same : (i : ℕ) → 3 ≤ i → i < ATOMS → get_or m' i 0 ≡ get_or m i 0
  pub atoms_same : (i : ℕ) → width_word m ≤ i → i < 256 → get_or m' (ATOMS + i) 0 ≡ get_or m (ATOMS + i) 0
  pub owners_same : (j : ℕ) → j < 32 → owner_at m' j ≡ owner_at m j
  pub sets_same : (j : ℕ) → temporals m ≤ j → j < 32 → slot_words m' j ≡ slot_words m j
  pub begun : begun_word m' ≤ 1
  pub clock : clock_of m' ≤ LAST_TIME
  pub atoms : (i : ℕ) → i < width_word m → get_or m' (ATOMS + i) 0 ≤ 1
  pub sets : (j : ℕ) → j < temporals m → Rolling (slot_words m' j)

module _ (m m' : List ℕ) (kept : Sound m) (step : Stepped m m') where
  few : row_count m ≤ 128
  few = kept.book.few

  long : length m ≡ SIZE
  long = kept.book.long

  pub rows_same : row_count m' ≡ row_count m
  rows_same = step.rows_same

  pub width_same : width_word m' ≡ width_word m
  width_same = step.book_same 3 (omega arith) (omega arith)

  pub temporals_same : temporals m' ≡ temporals m
  temporals_same = step.book_same 4 (omega arith) (omega arith)

  pub assumes_same : assume_count m' ≡ assume_count m
  assumes_same = step.book_same 5 (omega arith) (omega arith)

  pub guarantees_same : guarantee_count m' ≡ guarantee_count m
  guarantees_same = step.book_same 6 (omega arith) (omega arith)

  pub way_same : way_word m' ≡ way_word m
  way_same = step.book_same 7 (omega arith) (omega arith)

  pub operand_same : (i : ℕ) → i < 128 → get_or m' (OPERANDS + i) 0 ≡ get_or m (OPERANDS + i) 0
  operand_same i h = step.book_same (OPERANDS + i) (omega arith) (omega arith)

  pub operands_same : operands_of m' ≡ operands_of m
  operands_same = part_same OPERANDS 128 m m' (omega arith) step.long operand_same

  pub property_same : (i : ℕ) → i < 32 → get_or m' (PROPERTIES + i) 0 ≡ get_or m (PROPERTIES + i) 0
  property_same i h = step.book_same (PROPERTIES + i) (omega arith) (omega arith)

  -- ---- a row
  module _ (r : ℕ) (h : r < 128) where
    pub kind_same : kind_at m' r ≡ kind_at m r
    kind_same = step.book_same (ROWS + ROW * r) (omega arith) (omega arith)

    pub arg_same : arg_at m' r ≡ arg_at m r
    arg_same = step.book_same (ROWS + ROW * r + 1) (omega arith) (omega arith)

    pub lower_same : lower_at m' r ≡ lower_at m r
    lower_same = step.book_same (ROWS + ROW * r + 2) (omega arith) (omega arith)

    pub upper_same : upper_at m' r ≡ upper_at m r
    upper_same = step.book_same (ROWS + ROW * r + 3) (omega arith) (omega arith)

    pub start_same : start_at m' r ≡ start_at m r
    start_same = step.book_same (ROWS + ROW * r + 4) (omega arith) (omega arith)

    pub slot_same : slot_at m' r ≡ slot_at m r
    slot_same = step.book_same (ROWS + ROW * r + 5) (omega arith) (omega arith)

    pub row_same : row_of m' r ≡ row_of m r
    unfolding row_of
    row_same = rw (kind_same, arg_same, lower_same, upper_same, start_same, operands_same)

    row_kept : RowKept m r → RowKept m' r
    row_kept k =
        let few-slots = kept.book.temporal_few in
        record {
          kind = rw kind_same k.kind;
          atoms = rw (kind_same, arg_same, width_same) k.atoms;
          span = rw (start_same, kind_same, arg_same) k.span;
          below = rw (kind_same, arg_same, start_same) (λ i p.
              let s = k.span in
              rw (operand_same (start_at m r + i) (omega arith)) (k.below i p));
          lower = rw lower_same k.lower;
          range = rw (lower_same, upper_same) k.range;
          upper = rw upper_same k.upper;
          slot = rw (kind_same, slot_same, temporals_same) k.slot;
          owner = rw (kind_same, slot_same) (λ p. let q = k.slot p in step.owners_same (slot_at m r) (omega arith) ∙ k.owner p);
        }

  pub rows_of_same : rows_of m' ≡ rows_of m
  unfolding rows_of
  rows_of_same = rw rows_same (listed_agree (row_of m') (row_of m) (row_count m) (λ r h. let f = few in row_same r (omega arith)))

  pub step_book : book_of m' ≡ book_of m
  unfolding book_of
  step_book =
      let a = kept.book.assumes_few in
      let g = kept.book.guarantees_few in
      let l = long in
      rw (rows_of_same, assumes_same, guarantees_same)
      (λ i. record {
        rows = rows_of m;
        assumes = part_same PROPERTIES (assume_count m) m m' (omega arith) step.long (λ k p. property_same k (omega arith)) i;
        guarantees =
            part_same (PROPERTIES + assume_count m) (guarantee_count m) m m' (omega arith) step.long
            (λ k p. step.book_same (PROPERTIES + assume_count m + k) (omega arith) (omega arith)) i;
      })

  book_kept : BookKept m'
  book_kept =
      let b = kept.book in
      let f = few in
      let t = b.temporal_few in
      record {
        long = step.long ∙ b.long;
        few = rw rows_same f;
        rows = rw rows_same (λ r h. row_kept r (omega arith) (b.rows r h));
        width = width_same ∙ b.width ∙ ap width_of (sym rows_of_same);
        narrow = rw width_same b.narrow;
        temporal_few = rw temporals_same t;
        owned = rw (temporals_same, rows_same) (λ j h. rw (step.owners_same j (omega arith)) (b.owned j h));
        temporals_are = rw temporals_same (λ j h.
            let o = b.owned j h in
            rw (step.owners_same j (omega arith), kind_same (owner_at m j) (omega arith)) (b.temporals_are j h));
        slots = rw temporals_same (λ j h.
            let o = b.owned j h in
            rw (step.owners_same j (omega arith), slot_same (owner_at m j) (omega arith)) (b.slots j h));
        ascends = rw temporals_same (λ i j p h.
            rw (step.owners_same i (omega arith), step.owners_same j (omega arith)) (b.ascends i j p h));
        assumes_few = rw assumes_same b.assumes_few;
        guarantees_few = rw guarantees_same b.guarantees_few;
        properties = rw (assumes_same, guarantees_same, rows_same) (λ i h.
            let a = b.assumes_few in
            let g = b.guarantees_few in
            rw (property_same i (omega arith)) (b.properties i h));
      }

  -- ---- the rows before
  pub start_to_same : (r : ℕ) → r ≤ 128 → start_to m' r ≡ start_to m r
  unfolding start_to
  start_to_same zero h = refl
  start_to_same (suc r) h = rw (start_to_same r (omega arith), kind_same r h, arg_same r h)

  pub slot_to_same : (r : ℕ) → r ≤ 128 → slot_to m' r ≡ slot_to m r
  unfolding slot_to
  slot_to_same zero h = refl
  slot_to_same (suc r) h = rw (slot_to_same r (omega arith), kind_same r h)

  tidy : Tidy m'
  tidy =
      let t = kept.tidy in
      let f = few in
      record {
        form = rw rows_same (λ r h.
            let q : r < 128 = omega arith in
            rw (kind_same r q, arg_same r q, lower_same r q, upper_same r q) (t.form r h));
        start = rw rows_same (λ r h.
            let q : r < 128 = omega arith in
            rw (start_same r q, start_to_same r (omega arith)) (t.start r h));
        slot = rw rows_same (λ r h.
            let q : r < 128 = omega arith in
            rw (kind_same r q, slot_same r q, slot_to_same r (omega arith)) (t.slot r h));
        no_slot = rw rows_same (λ r h.
            let q : r < 128 = omega arith in
            rw (kind_same r q, slot_same r q) (t.no_slot r h));
        count = temporals_same ∙ t.count ∙ sym (slot_to_same (row_count m) f) ∙ ap (slot_to m') (sym rows_same);
        rows_rest = rw rows_same (λ i p h. rw (step.book_same i (omega arith) (omega arith)) (t.rows_rest i p h));
        operands_rest = rw (rows_same, start_to_same (row_count m) f) (λ i p h. rw (operand_same i h) (t.operands_rest i p h));
        properties_rest = rw (assumes_same, guarantees_same) (λ i p h. rw (property_same i h) (t.properties_rest i p h));
        atoms_rest = rw width_same (λ i p h. rw (step.atoms_same i p h) (t.atoms_rest i p h));
        owners_rest = rw temporals_same (λ j p h. rw (step.owners_same j h) (t.owners_rest j p h));
        sets_rest = rw temporals_same (λ j p h. step.sets_same j p h ∙ t.sets_rest j p h);
      }

  set_kept : (j : ℕ) → j < 32 → (j < temporals m) ⊎ (temporals m ≤ j) → Rolling (slot_words m' j)
  set_kept j h (inl p) = step.sets j p
  set_kept j h (inr p) = rw (step.sets_same j p h) (kept.sets j h)

  pub kept_step : Sound m'
  kept_step =
      record {
        book = book_kept;
        tidy = tidy;
        way = rw way_same kept.way;
        begun = step.begun;
        clock = step.clock;
        atoms = rw width_same step.atoms;
        sets = λ j h. set_kept j h (lt_or_ge j (temporals m));
      }
