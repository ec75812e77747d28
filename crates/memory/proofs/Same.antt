-- Two kept memories that hold the same monitor, their rings begun at the same places, are equal, word for word: all but the ledger, and the ledger,
-- too, where that is the same. Assumes nothing.
use Prim.Native.Nat.{ℕ, zero, suc, ◌+◌, ◌*◌, ◌-◌, ◌/◌, ◌%◌, ◌≤◌, ◌<◌}
use mathlib.Core.Path.{◌≡◌, refl, sym, ap, ap₂, ◌∙◌}
use mathlib.Core.Bool.{Bool, true, false, cond}
use mathlib.Core.Logic.{⊎_elim}
use mathlib.Core.List.{List, [], ◌++◌}
use native.Mathlib.Omega.{arith}
use lib.ListN.{length, get_or, take, drop, length-drop}
use lib.Seq.{ext_get_or, get_or-take, take-add}
use borrow.Author.Tests.{eqb-true, eqb-false, le-leb}
use Rattle.numset.specs.Runs.{Runs}
use Rattle.ring.specs.Ring.{ringed, rolled}
use Rattle.lists.proofs.Tests.{either, lt_or_ge}
use Rattle.ring.proofs.Rolls.{rolls_again}
use Rattle.pmtl.specs.Answer.{bit_of, digit_of}
use Rattle.pmtl.specs.Book.{Row, Rows, Book, width_of, moves, lowest}
use Rattle.pmtl.specs.Sets.{Way, ordinary, lasting}
use Rattle.pmtl.specs.Monitor.{State, fullest, value}
use Rattle.pmtl.specs.Quiet.{quiet_until}
use Rattle.pmtl.specs.Early.{early}
use Rattle.pmtl.specs.Settled.{settled}
use Rattle.memory.specs.Layout.{ROWS, ROW, OPERANDS, PROPERTIES, ATOMS, OWNERS, SETS, SET, VALUES, TOLD, EARLY, SETTLED, MOVES, LOWEST, FULLEST, UNTIL, LEDGER, TAKEN, ENTRIES, ENTRY, SIZE}
use Rattle.lists.specs.Lists.{part, listed}
use Rattle.memory.specs.Memory.{row_count, begun_word, clock_of, width_word, temporals, assume_count, guarantee_count, way_word, kind_at, arg_at, lower_at, upper_at, start_at, slot_at, operands_of, owner_at, set_start, slot_words, turn_at, property_row, value_at, told_at, early_at, settled_at, moves_at, lowest_at, fullest_word, until_word, number_word, taken_word, entry_start, entry_word, row_of, rows_of, book_of, is_one, way_of, set_of, state_of, entry_of, ledger_of}
use Rattle.memory.specs.Tables.{standing, property_count}
use Rattle.book.specs.Rows.{count_of}
use Rattle.ledger.specs.Ledger.{Entry, Ledger, entry_at}
use Rattle.lists.proofs.Listed.{listed_at}
use Rattle.memory.proofs.Rows.{rows_length, row_at_lem}
use Rattle.memory.proofs.Ledger.{ledger_entry}
use Rattle.memory.specs.Kept.{start_to, slot_to, Sound, Kept}
use Rattle.lists.proofs.Parts.{word_at, part_length, part_at}
use Rattle.memory.proofs.Codes.{kind_of, arg_of, lower_of, upper_of, taken_by, Spelled, spelled_by}

same_bit : (a b : ℕ) → a ≤ 1 → b ≤ 1 → is_one a ≡ is_one b → a ≡ b
same_bit a b ha hb e =
    ⊎_elim
    (λ t. eqb-true a 1 t ∙ sym (eqb-true b 1 (sym e ∙ t)))
    (λ t. let x = eqb-false a 1 t in let y = eqb-false b 1 (sym e ∙ t) in omega arith)
    (either (is_one a))

-- ways are as different as the bits that tell them
same_way_bit : (x y : Bool) → cond x lasting ordinary ≡ cond y lasting ordinary → x ≡ y
same_way_bit x y e = sym (back x) ∙ ap lasts e ∙ back y
  where
    lasts : Way → Bool
    lasts ordinary = false
    lasts lasting = true

    back : (z : Bool) → lasts (cond z lasting ordinary) ≡ z
    back true = refl
    back false = refl

-- states that are the same have the same clock
pub clock_in : (m m' : List ℕ) → state_of m ≡ state_of m' → clock_of m ≡ clock_of m'
unfolding state_of
clock_in m m' e = ap (λ (st : State). st.now.clock) e

-- ---- what a kept memory's rows tell
module _ (m : List ℕ) (k : Sound m) where
  long : length m ≡ SIZE
  long = k.book.long

  operands_long : length (operands_of m) ≡ 128
  operands_long = let l = long in part_length OPERANDS 128 m (omega arith)

  pub row_spelled : (r : ℕ) → r < row_count m → Spelled (row_of m r) (kind_at m r) (arg_at m r) (lower_at m r) (upper_at m r) (drop (start_at m r) (operands_of m))
  unfolding row_of
  row_spelled r h =
      let s = (k.book.rows r h).span in
      let l = operands_long in
      let d = length-drop (start_at m r) (operands_of m) in
      spelled_by (arg_at m r) (lower_at m r) (upper_at m r) (drop (start_at m r) (operands_of m)) (kind_at m r) (k.tidy.form r h) (omega arith)

  pub set_rolled : (j : ℕ) → j < 32 → slot_words m j ≡ rolled (turn_at m j) (ringed (slot_words m j))
  set_rolled j h = rolls_again (slot_words m j) (k.sets j h)

  pub set_owned : (j : ℕ) → j < temporals m → set_of m (owner_at m j) ≡ ringed (slot_words m j)
  unfolding set_of
  set_owned j h = rw (le-leb 7 (kind_at m (owner_at m j)) (k.book.temporals_are j h), k.book.slots j h)

module _ (m m' : List ℕ) (k : Sound m) (k' : Sound m') (same_book : book_of m ≡ book_of m') where
  same_rows : rows_of m ≡ rows_of m'
  unfolding book_of
  same_rows = ap (λ (b : Book). b.rows) same_book

  same_count : row_count m ≡ row_count m'
  same_count = sym (rows_length m) ∙ ap (length {A = Row ℕ}) same_rows ∙ rows_length m'

  -- ---- a row
  module _ (r : ℕ) (h : r < row_count m) where
    h' : r < row_count m'
    h' = let e = same_count in omega arith

    same_row : row_of m r ≡ row_of m' r
    same_row = sym (row_at_lem m r h) ∙ ap (λ (b : List (Row ℕ)). get_or b r Row.never) same_rows ∙ row_at_lem m' r h'

    same_kind : kind_at m r ≡ kind_at m' r
    same_kind = sym (row_spelled m k r h).kind_is ∙ ap kind_of same_row ∙ (row_spelled m' k' r h').kind_is

    same_arg : arg_at m r ≡ arg_at m' r
    same_arg = sym (row_spelled m k r h).arg_is ∙ ap arg_of same_row ∙ (row_spelled m' k' r h').arg_is

    same_lower : lower_at m r ≡ lower_at m' r
    same_lower = sym (row_spelled m k r h).lower_is ∙ ap lower_of same_row ∙ (row_spelled m' k' r h').lower_is

    same_upper : upper_at m r ≡ upper_at m' r
    same_upper = sym (row_spelled m k r h).upper_is ∙ ap upper_of same_row ∙ (row_spelled m' k' r h').upper_is

    same_taken : take (count_of (kind_at m r) (arg_at m r)) (drop (start_to m r) (operands_of m)) ≡ take (count_of (kind_at m' r) (arg_at m' r)) (drop (start_to m' r) (operands_of m'))
    same_taken =
        ap (λ (a : ℕ). take (count_of (kind_at m r) (arg_at m r)) (drop a (operands_of m))) (sym (k.tidy.start r h))
        ∙ sym (row_spelled m k r h).taken_is ∙ ap taken_by same_row ∙ (row_spelled m' k' r h').taken_is
        ∙ ap (λ (a : ℕ). take (count_of (kind_at m' r) (arg_at m' r)) (drop a (operands_of m'))) (k'.tidy.start r h')

  same_starts : (r : ℕ) → r ≤ row_count m → start_to m r ≡ start_to m' r
  unfolding start_to
  same_starts zero h = refl
  same_starts (suc r) h = rw (same_starts r (omega arith), same_kind r h, same_arg r h)

  same_slots : (r : ℕ) → r ≤ row_count m → slot_to m r ≡ slot_to m' r
  unfolding slot_to
  same_slots zero h = refl
  same_slots (suc r) h = rw (same_slots r (omega arith), same_kind r h)

  same_start : (r : ℕ) → r < row_count m → start_at m r ≡ start_at m' r
  same_start r h = k.tidy.start r h ∙ same_starts r (omega arith) ∙ sym (k'.tidy.start r (h' r h))

  same_slot : (r : ℕ) → r < row_count m → slot_at m r ≡ slot_at m' r
  same_slot r h =
      let e = same_kind r h in
      ⊎_elim
      (λ p. k.tidy.no_slot r h p ∙ sym (k'.tidy.no_slot r (h' r h) (omega arith)))
      (λ p. k.tidy.slot r h p ∙ same_slots r (omega arith) ∙ sym (k'.tidy.slot r (h' r h) (omega arith)))
      (lt_or_ge (kind_at m r) 7)

  -- ---- the words before the rows
  same_width : width_word m ≡ width_word m'
  same_width = k.book.width ∙ ap width_of same_rows ∙ sym k'.book.width

  pub same_temporals : temporals m ≡ temporals m'
  same_temporals = k.tidy.count ∙ same_slots (row_count m) (omega arith) ∙ ap (slot_to m') same_count ∙ sym k'.tidy.count

  -- ---- and of the same state
  module _ (same-state : state_of m ≡ state_of m') where
    same_assumes : part PROPERTIES (assume_count m) m ≡ part PROPERTIES (assume_count m') m'
    unfolding book_of
    same_assumes = ap (λ (b : Book). b.assumes) same_book

    same_guarantees : part (PROPERTIES + assume_count m) (guarantee_count m) m ≡ part (PROPERTIES + assume_count m') (guarantee_count m') m'
    unfolding book_of
    same_guarantees = ap (λ (b : Book). b.guarantees) same_book

    same_assume_count : assume_count m ≡ assume_count m'
    same_assume_count =
        let l = long m k in
        let l' = long m' k' in
        let a = k.book.assumes_few in
        let a' = k'.book.assumes_few in
        sym (part_length PROPERTIES (assume_count m) m (omega arith)) ∙ ap (length {A = ℕ}) same_assumes ∙ part_length PROPERTIES (assume_count m') m' (omega arith)

    same_guarantee_count : guarantee_count m ≡ guarantee_count m'
    same_guarantee_count =
        let l = long m k in
        let l' = long m' k' in
        let a = k.book.assumes_few in
        let a' = k'.book.assumes_few in
        let g = k.book.guarantees_few in
        let g' = k'.book.guarantees_few in
        sym (part_length (PROPERTIES + assume_count m) (guarantee_count m) m (omega arith)) ∙ ap (length {A = ℕ}) same_guarantees
        ∙ part_length (PROPERTIES + assume_count m') (guarantee_count m') m' (omega arith)

    same_begun : begun_word m ≡ begun_word m'
    unfolding state_of
    same_begun = same_bit (begun_word m) (begun_word m') k.begun k'.begun (ap (λ (st : State). st.begun) same-state)

    same_way : way_word m ≡ way_word m'
    unfolding state_of way_of
    same_way = same_bit (way_word m) (way_word m') k.way k'.way (same_way_bit (is_one (way_word m)) (is_one (way_word m')) (ap (λ (st : State). st.way) same-state))

    same_head : (i : ℕ) → i < ROWS → get_or m i 0 ≡ get_or m' i 0
    same_head zero h = same_count
    same_head (suc zero) h = same_begun
    same_head (suc (suc zero)) h = clock_in m m' same-state
    same_head (suc (suc (suc zero))) h = same_width
    same_head (suc (suc (suc (suc zero)))) h = same_temporals
    same_head (suc (suc (suc (suc (suc zero))))) h = same_assume_count
    same_head (suc (suc (suc (suc (suc (suc zero)))))) h = same_guarantee_count
    same_head (suc (suc (suc (suc (suc (suc (suc zero))))))) h = same_way
    same_head (suc (suc (suc (suc (suc (suc (suc (suc i)))))))) h = absurd (omega arith)

    -- ---- the rows
    same_word : (r j : ℕ) → r < row_count m → j < ROW → get_or m (ROWS + ROW * r + j) 0 ≡ get_or m' (ROWS + ROW * r + j) 0
    same_word r zero h p =
        word_at m (ROWS + ROW * r + 0) (ROWS + ROW * r) (omega arith) ∙ same_kind r h ∙ word_at m' (ROWS + ROW * r) (ROWS + ROW * r + 0) (omega arith)
    same_word r (suc zero) h p = same_arg r h
    same_word r (suc (suc zero)) h p = same_lower r h
    same_word r (suc (suc (suc zero))) h p = same_upper r h
    same_word r (suc (suc (suc (suc zero)))) h p = same_start r h
    same_word r (suc (suc (suc (suc (suc zero))))) h p = same_slot r h
    same_word r (suc (suc (suc (suc (suc (suc j)))))) h p = absurd (omega arith)

    same_in_rows : (i : ℕ) → ROWS ≤ i → i < OPERANDS → get_or m i 0 ≡ get_or m' i 0
    same_in_rows i l u =
        let r : ℕ = (i - ROWS) / ROW in
        let j : ℕ = (i - ROWS) % ROW in
        let e : i ≡ ROWS + ROW * r + j = omega arith in
        let n = same_count in
        ⊎_elim
        (λ h. word_at m i (ROWS + ROW * r + j) e ∙ same_word r j h (omega arith) ∙ word_at m' (ROWS + ROW * r + j) i (sym e))
        (λ h. k.tidy.rows_rest i (omega arith) u ∙ sym (k'.tidy.rows_rest i (omega arith) u))
        (lt_or_ge r (row_count m))

    -- ---- the operands
    same_operands : (r : ℕ) → r ≤ row_count m → take (start_to m r) (operands_of m) ≡ take (start_to m r) (operands_of m')
    unfolding start_to
    same_operands zero h = refl
    same_operands (suc r) h =
        let c : ℕ = count_of (kind_at m r) (arg_at m r) in
        let q : take c (drop (start_to m r) (operands_of m')) ≡ take (count_of (kind_at m' r) (arg_at m' r)) (drop (start_to m' r) (operands_of m')) =
        rw (same_kind r h, same_arg r h, same_starts r (omega arith)) in
        take-add (start_to m r) c (operands_of m) ∙ ap₂ (λ (x y : List ℕ). x ++ y) (same_operands r (omega arith)) (same_taken r h ∙ sym q) ∙ sym (take-add (start_to m r) c (operands_of m'))

    same_operand : (i : ℕ) → i < 128 → get_or m (OPERANDS + i) 0 ≡ get_or m' (OPERANDS + i) 0
    same_operand i h =
        let n = row_count m in
        let e = same_starts n (omega arith) ∙ ap (start_to m') same_count in
        ⊎_elim
        (λ p.
        sym (part_at OPERANDS 128 m i h) ∙ sym (get_or-take (start_to m n) (operands_of m) i 0 p)
        ∙ ap (λ (x : List ℕ). get_or x i 0) (same_operands n (omega arith))
        ∙ get_or-take (start_to m n) (operands_of m') i 0 p ∙ part_at OPERANDS 128 m' i h)
        (λ p. k.tidy.operands_rest i p h ∙ sym (k'.tidy.operands_rest i (omega arith) h))
        (lt_or_ge i (start_to m n))

    -- ---- the properties
    same_property : (i : ℕ) → i < 32 → get_or m (PROPERTIES + i) 0 ≡ get_or m' (PROPERTIES + i) 0
    same_property i h =
        let a = same_assume_count in
        let g = same_guarantee_count in
        ⊎_elim
        (λ p.
        sym (part_at PROPERTIES (assume_count m) m i p) ∙ ap (λ (x : List ℕ). get_or x i 0) same_assumes ∙ part_at PROPERTIES (assume_count m') m' i (omega arith))
        (λ p.
        ⊎_elim
        (λ q.
        let d : ℕ = i - assume_count m in
        word_at m (PROPERTIES + i) (PROPERTIES + assume_count m + d) (omega arith)
        ∙ sym (part_at (PROPERTIES + assume_count m) (guarantee_count m) m d (omega arith))
        ∙ ap (λ (x : List ℕ). get_or x d 0) same_guarantees
        ∙ part_at (PROPERTIES + assume_count m') (guarantee_count m') m' d (omega arith)
        ∙ word_at m' (PROPERTIES + assume_count m' + d) (PROPERTIES + i) (omega arith))
        (λ q. k.tidy.properties_rest i q h ∙ sym (k'.tidy.properties_rest i (omega arith) h))
        (lt_or_ge i (assume_count m + guarantee_count m)))
        (lt_or_ge i (assume_count m))

    -- ---- the atoms
    abbrev bits : List ℕ → ℕ → Bool
    bits x i = is_one (get_or x (ATOMS + i) 0)

    same_bits : listed (bits m) (width_word m) ≡ listed (bits m') (width_word m')
    unfolding state_of
    same_bits = ap (λ (st : State). st.now.atoms) same-state

    same_atom : (i : ℕ) → i < 256 → get_or m (ATOMS + i) 0 ≡ get_or m' (ATOMS + i) 0
    same_atom i h =
        let w = same_width in
        ⊎_elim
        (λ p.
        let p' : i < width_word m' = omega arith in
        same_bit (get_or m (ATOMS + i) 0) (get_or m' (ATOMS + i) 0) (k.atoms i p) (k'.atoms i p')
        (sym (listed_at (bits m) false (width_word m) i p) ∙ ap (λ (x : List Bool). get_or x i false) same_bits ∙ listed_at (bits m') false (width_word m') i p'))
        (λ p. k.tidy.atoms_rest i p h ∙ sym (k'.tidy.atoms_rest i (omega arith) h))
        (lt_or_ge i (width_word m))

    -- ---- the owners
    same_owner : (j : ℕ) → j < 32 → owner_at m j ≡ owner_at m' j
    same_owner j h =
        let t = same_temporals in
        ⊎_elim
        (λ p.
        let o = k.book.owned j p in
        let r = owner_at m j in
        let seven = k.book.temporals_are j p in
        let e = same_kind r o in
        let q = (k'.book.rows r (h' r o)).owner (omega arith) in
        sym (word_at m' (OWNERS + j) (OWNERS + slot_at m' r) (omega (arith, same_slot r o, k.book.slots j p)) ∙ q))
        (λ p. k.tidy.owners_rest j p h ∙ sym (k'.tidy.owners_rest j (omega arith) h))
        (lt_or_ge j (temporals m))

    -- ---- the sets
    same_sets : listed (set_of m) (row_count m) ≡ listed (set_of m') (row_count m')
    unfolding state_of
    same_sets = ap (λ (st : State). st.sets) same-state

    same_set_of : (r : ℕ) → r < row_count m → set_of m r ≡ set_of m' r
    same_set_of r h =
        sym (listed_at (set_of m) [] (row_count m) r h) ∙ ap (λ (x : List Runs). get_or x r []) same_sets ∙ listed_at (set_of m') [] (row_count m') r (h' r h)

    -- the word at a place of the part from a on
    before : (a i : ℕ) → a ≤ i → get_or m (a + (i - a)) 0 ≡ get_or m' (a + (i - a)) 0 → get_or m i 0 ≡ get_or m' i 0
    before a i h e = word_at m i (a + (i - a)) (omega arith) ∙ e ∙ word_at m' (a + (i - a)) i (omega arith)

    -- ---- the words of the sets, where their rings begin at the same places, and all of it
    module _ (same-turns : (j : ℕ) → j < temporals m → turn_at m j ≡ turn_at m' j) where
      same_set : (j : ℕ) → j < 32 → slot_words m j ≡ slot_words m' j
      same_set j h =
          let t = same_temporals in
          ⊎_elim
          (λ p.
          let o = k.book.owned j p in
          set_rolled m k j h
          ∙ ap₂ rolled (same-turns j p)
          (sym (set_owned m k j p) ∙ same_set_of (owner_at m j) o ∙ ap (set_of m') (same_owner j h) ∙ set_owned m' k' j (omega arith))
          ∙ sym (set_rolled m' k' j h))
          (λ p. k.tidy.sets_rest j p h ∙ sym (k'.tidy.sets_rest j (omega arith) h))
          (lt_or_ge j (temporals m))

      same_in_sets : (i : ℕ) → SETS ≤ i → i < VALUES → get_or m i 0 ≡ get_or m' i 0
      same_in_sets i l u =
          let j : ℕ = (i - SETS) / SET in
          let d : ℕ = (i - SETS) % SET in
          let e : i ≡ set_start j + d = omega arith in
          word_at m i (set_start j + d) e ∙ sym (part_at (set_start j) SET m d (omega arith)) ∙ ap (λ (x : List ℕ). get_or x d 0) (same_set j (omega arith))
          ∙ part_at (set_start j) SET m' d (omega arith) ∙ word_at m' (set_start j + d) i (sym e)

      pub before_tables : (i : ℕ) → i < VALUES → get_or m i 0 ≡ get_or m' i 0
      before_tables i h =
          ⊎_elim (same_head i) (λ p₁.
          ⊎_elim (same_in_rows i p₁) (λ p₂.
          ⊎_elim (λ q. before OPERANDS i p₂ (same_operand (i - OPERANDS) (omega arith))) (λ p₃.
          ⊎_elim (λ q. before PROPERTIES i p₃ (same_property (i - PROPERTIES) (omega arith))) (λ p₄.
          ⊎_elim (λ q. before ATOMS i p₄ (same_atom (i - ATOMS) (omega arith))) (λ p₅.
          ⊎_elim (λ q. before OWNERS i p₅ (same_owner (i - OWNERS) (omega arith))) (λ p₆. same_in_sets i p₆ h)
          (lt_or_ge i SETS))
          (lt_or_ge i OWNERS))
          (lt_or_ge i ATOMS))
          (lt_or_ge i PROPERTIES))
          (lt_or_ge i OPERANDS))
          (lt_or_ge i ROWS)

-- ---- the tables say the same of the same monitor
module _ (m m' : List ℕ) (k : Kept m) (k' : Kept m') (same_book : book_of m ≡ book_of m') (same-state : state_of m ≡ state_of m')
    (same-turns : (j : ℕ) → j < temporals m → turn_at m j ≡ turn_at m' j) where
  below : (i : ℕ) → i < VALUES → get_or m i 0 ≡ get_or m' i 0
  below = before_tables m m' k.sound k'.sound same_book same-state same-turns

  -- an answer of every row
  same_answer : {A : Type 0} (f : Rows → State → ℕ → A) (r r' : ℕ) → r ≡ r' → f (rows_of m) (state_of m) r ≡ f (rows_of m') (state_of m') r'
  same_answer f r r' e = rw (same_rows m m' k.sound k'.sound same_book, same-state, e)

  same_value : (r : ℕ) → r < 128 → value_at m r ≡ value_at m' r
  same_value r h =
      let c = below 0 (omega arith) in
      ⊎_elim
      (λ p. k.tables.valued.right r p ∙ ap bit_of (same_answer value r r refl) ∙ sym (k'.tables.valued.right r (omega arith)))
      (λ p. k.tables.unused.values r p h ∙ sym (k'.tables.unused.values r (omega arith) h))
      (lt_or_ge r (row_count m))

  same_told : (j : ℕ) → j < 32 → told_at m j ≡ told_at m' j
  same_told j h =
      let c = below 4 (omega arith) in
      let e : standing (clock_of m) (ringed (slot_words m j)) ≡ standing (clock_of m') (ringed (slot_words m' j)) =
      rw (clock_in m m' same-state, same_set m m' k.sound k'.sound same_book same-state same-turns j h) in
      ⊎_elim
      (λ p. k.tables.told.right j p ∙ e ∙ sym (k'.tables.told.right j (omega arith)))
      (λ p. k.tables.unused.told j p h ∙ sym (k'.tables.unused.told j (omega arith) h))
      (lt_or_ge j (temporals m))

  same_property_row : (i : ℕ) → i < 32 → property_row m i ≡ property_row m' i
  same_property_row = same_property m m' k.sound k'.sound same_book same-state

  same_early : (i : ℕ) → i < 32 → early_at m i ≡ early_at m' i
  same_early i h =
      let a = below 5 (omega arith) in
      let g = below 6 (omega arith) in
      ⊎_elim
      (λ p. k.tables.answered.early i p ∙ ap digit_of (same_answer early (property_row m i) (property_row m' i) (same_property_row i h)) ∙ sym (k'.tables.answered.early i (omega arith)))
      (λ p. k.tables.unused.early i p h ∙ sym (k'.tables.unused.early i (omega arith) h))
      (lt_or_ge i (property_count m))

  same_settled : (i : ℕ) → i < 32 → settled_at m i ≡ settled_at m' i
  same_settled i h =
      let a = below 5 (omega arith) in
      let g = below 6 (omega arith) in
      ⊎_elim
      (λ p. k.tables.answered.settled i p ∙ ap digit_of (same_answer settled (property_row m i) (property_row m' i) (same_property_row i h)) ∙ sym (k'.tables.answered.settled i (omega arith)))
      (λ p. k.tables.unused.settled i p h ∙ sym (k'.tables.unused.settled i (omega arith) h))
      (lt_or_ge i (property_count m))

  same_moves : (r : ℕ) → r < 128 → moves_at m r ≡ moves_at m' r
  same_moves r h =
      let c = below 0 (omega arith) in
      let e = same_rows m m' k.sound k'.sound same_book in
      ⊎_elim
      (λ p. k.tables.moving.right r p ∙ ap (λ (b : Rows). bit_of (moves b r)) e ∙ sym (k'.tables.moving.right r (omega arith)))
      (λ p. k.tables.unused.moves r p h ∙ sym (k'.tables.unused.moves r (omega arith) h))
      (lt_or_ge r (row_count m))

  same_lowest : (r : ℕ) → r < 128 → lowest_at m r ≡ lowest_at m' r
  same_lowest r h =
      let c = below 0 (omega arith) in
      let e = same_rows m m' k.sound k'.sound same_book in
      ⊎_elim
      (λ p. k.tables.founded.right r p ∙ ap (λ (b : Rows). lowest b r) e ∙ sym (k'.tables.founded.right r (omega arith)))
      (λ p. k.tables.unused.lowest r p h ∙ sym (k'.tables.unused.lowest r (omega arith) h))
      (lt_or_ge r (row_count m))

  same_fullest : fullest_word m ≡ fullest_word m'
  same_fullest = k.tables.counts.right ∙ ap fullest same-state ∙ sym k'.tables.counts.right

  same_until : until_word m ≡ until_word m'
  same_until = k.awaited.right ∙ ap₂ quiet_until (same_rows m m' k.sound k'.sound same_book) same-state ∙ sym k'.awaited.right

  -- the word at a place of the part from a on
  in_part : (a i : ℕ) → a ≤ i → get_or m (a + (i - a)) 0 ≡ get_or m' (a + (i - a)) 0 → get_or m i 0 ≡ get_or m' i 0
  in_part a i h e = word_at m i (a + (i - a)) (omega arith) ∙ e ∙ word_at m' (a + (i - a)) i (omega arith)

  -- all but the ledger
  pub same_below : (i : ℕ) → i < LEDGER → get_or m i 0 ≡ get_or m' i 0
  same_below i h =
      ⊎_elim (below i) (λ p₁.
      ⊎_elim (λ q. in_part VALUES i p₁ (same_value (i - VALUES) (omega arith))) (λ p₂.
      ⊎_elim (λ q. in_part TOLD i p₂ (same_told (i - TOLD) (omega arith))) (λ p₃.
      ⊎_elim (λ q. in_part EARLY i p₃ (same_early (i - EARLY) (omega arith))) (λ p₄.
      ⊎_elim (λ q. in_part SETTLED i p₄ (same_settled (i - SETTLED) (omega arith))) (λ p₅.
      ⊎_elim (λ q. in_part MOVES i p₅ (same_moves (i - MOVES) (omega arith))) (λ p₆.
      ⊎_elim (λ q. in_part LOWEST i p₆ (same_lowest (i - LOWEST) (omega arith))) (λ p₇.
      ⊎_elim (λ q. word_at m i FULLEST (omega arith) ∙ same_fullest ∙ word_at m' FULLEST i (omega arith)) (λ p₈.
      word_at m i UNTIL (omega arith) ∙ same_until ∙ word_at m' UNTIL i (omega arith))
      (lt_or_ge i UNTIL))
      (lt_or_ge i FULLEST))
      (lt_or_ge i LOWEST))
      (lt_or_ge i MOVES))
      (lt_or_ge i SETTLED))
      (lt_or_ge i EARLY))
      (lt_or_ge i TOLD))
      (lt_or_ge i VALUES)

  -- ---- and all of it, where the ledgers are the same
  module _ (same-ledger : ledger_of m ≡ ledger_of m') where
    same_properties : property_count m ≡ property_count m'
    same_properties = ap₂ (λ (a g : ℕ). a + g) (below 5 (omega arith)) (below 6 (omega arith))

    same_number : number_word m ≡ number_word m'
    unfolding ledger_of
    same_number = ap (λ (l : Ledger). l.number) same-ledger

    same_taken_count : taken_word m ≡ taken_word m'
    unfolding ledger_of
    same_taken_count = ap (λ (l : Ledger). l.accepted) same-ledger

    same_entry : (p : ℕ) → p < property_count m → entry_of m p ≡ entry_of m' p
    same_entry p h = sym (ledger_entry m p h) ∙ ap (λ (l : Ledger). entry_at l.entries p) same-ledger ∙ ledger_entry m' p (let e = same_properties in omega arith)

    same_entry_word : (p j : ℕ) → p < property_count m → j < ENTRY → entry_word m p j ≡ entry_word m' p j
    unfolding entry_of
    same_entry_word p zero h q = ap (λ (e : Entry). e.failed) (same_entry p h)
    same_entry_word p (suc zero) h q = ap (λ (e : Entry). e.first) (same_entry p h)
    same_entry_word p (suc (suc zero)) h q = ap (λ (e : Entry). e.last) (same_entry p h)
    same_entry_word p (suc (suc (suc zero))) h q = ap (λ (e : Entry). e.longest) (same_entry p h)
    same_entry_word p (suc (suc (suc (suc zero)))) h q = ap (λ (e : Entry). e.settled) (same_entry p h)
    same_entry_word p (suc (suc (suc (suc (suc zero))))) h q = ap (λ (e : Entry). e.stretch) (same_entry p h)
    same_entry_word p (suc (suc (suc (suc (suc (suc j)))))) h q = absurd (omega arith)

    same_in_entries : (i : ℕ) → ENTRIES ≤ i → i < SIZE → get_or m i 0 ≡ get_or m' i 0
    same_in_entries i l u =
        let p : ℕ = (i - ENTRIES) / ENTRY in
        let j : ℕ = (i - ENTRIES) % ENTRY in
        let e : i ≡ entry_start p + j = omega arith in
        let n = same_properties in
        ⊎_elim
        (λ h. word_at m i (entry_start p + j) e ∙ same_entry_word p j h (omega arith) ∙ word_at m' (entry_start p + j) i (sym e))
        (λ h. k.ledger.rest i (omega arith) u ∙ sym (k'.ledger.rest i (omega arith) u))
        (lt_or_ge p (property_count m))

    by_parts : (i : ℕ) → i < SIZE → get_or m i 0 ≡ get_or m' i 0
    by_parts i h =
        ⊎_elim (same_below i) (λ p₁.
        ⊎_elim (λ q. word_at m i LEDGER (omega arith) ∙ same_number ∙ word_at m' LEDGER i (omega arith)) (λ p₂.
        ⊎_elim (λ q. word_at m i TAKEN (omega arith) ∙ same_taken_count ∙ word_at m' TAKEN i (omega arith)) (λ p₃. same_in_entries i p₃ h)
        (lt_or_ge i ENTRIES))
        (lt_or_ge i TAKEN))
        (lt_or_ge i LEDGER)

    pub same_words : m ≡ m'
    same_words =
        let l = k.sound.book.long in
        ext_get_or 0 m m' (l ∙ sym k'.sound.book.long) (λ i h. by_parts i (omega arith))
