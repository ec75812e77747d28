-- A memory whose words are those of an accepted book holds that book and a fresh monitor, and is sound. Assumes nothing.
use Prim.Native.Nat.{ℕ, zero, suc, ◌+◌, ◌*◌, ◌-◌, ◌≤◌, ◌<◌}
use mathlib.Core.Path.{◌≡◌, refl, sym, ap, ◌∙◌}
use mathlib.Core.Bool.{true, false}
use mathlib.Core.Logic.{⊎_elim}
use mathlib.Core.List.{List, [], ◌++◌}
use native.Mathlib.Omega.{arith}
use native.Mathlib.Nat.{add-zero}
use lib.ListN.{length, get_or, drop, replicate, length-append, length-drop, get_or-append, get_or-eq_default}
use lib.Seq.{get_or-drop, get_or-append-add}
use borrow.Author.Tests.{le-leb, lt-leb, eq-eqb}
use Rattle.lists.proofs.Tests.{lt_or_ge}
use Rattle.ring.specs.Ring.{turn_of}
use Rattle.ring.proofs.Again.{zeros_ring, zeros_runs}
use Rattle.pmtl.specs.Book.{width_of}
use Rattle.pmtl.specs.Sets.{Way}
use Rattle.pmtl.specs.Monitor.{initial_in}
use Rattle.memory.specs.Layout.{ROWS, ROW, OPERANDS, PROPERTIES, ATOMS, OWNERS, SET, SIZE, VALUES, TOLD, EARLY, SETTLED, MOVES, LOWEST}
use Rattle.lists.specs.Lists.{part, listed, put}
use Rattle.memory.specs.Memory.{assume_count, guarantee_count, kind_at, arg_at, lower_at, upper_at, start_at, slot_at, operands_of, owner_at, set_start, slot_words, row_of, rows_of, book_of, is_one, set_of, state_of}
use Rattle.book.specs.Rows.{count_of}
use Rattle.memory.specs.Kept.{RowKept, BookKept, start_to, slot_to, Tidy}
use Rattle.lists.proofs.Listed.{listed_length, listed_agree, listed_all}
use Rattle.book.specs.Reading.{Sections}
use Rattle.book.specs.Judging.{kind_in, arg_in, lower_in, upper_in, rows_in, temporals_in, start_in, arg_good, row_in, book_in}
use Rattle.book.proofs.Accepted.{form, range, temporals_fit, operands_taken, operands_there, operand_below, assume_below, guarantee_below, form_arg, form_kind, lower_small, range_ordered, upper_small}
use Rattle.loader.specs.Private.{reach, width_in, slot_in, rows_put, head_put, stored, Rowed, Accepted, Holds}
use Rattle.lists.proofs.Parts.{word_at, part_length, part_at, part_is, part_zeros}
use Rattle.loader.proofs.Empty.{way_read, way_small}
use Rattle.loader.proofs.Forms.{row_local, row_width, width_listed, width_reaches, width_small}
use Rattle.loader.proofs.Puts.{temporals_mono, slot_fits}
use Rattle.loader.proofs.Rows.{Temporal, temporal_of}
use Rattle.loader.proofs.Stands.{Stands, stored_stands}

-- what the rows of an accepted book are
module _ (s : Sections) (ok : Accepted s) where
  pub args_good : (r : ℕ) → r < rows_in s → arg_good (kind_in s.rows r) (arg_in s.rows r) ≡ true
  args_good r h = form_arg (kind_in s.rows r) (arg_in s.rows r) (lower_in s.rows r) (upper_in s.rows r) (form s ok.good r h)

  pub rowed : Rowed s.rows
  rowed =
      let t = operands_taken s ok.good in
      let f = ok.few.operands in
      record { rows_few = ok.few.rows; operands_few = omega arith; temporals_few = temporals_fit s ok.good; args = args_good }

  property_below : (i : ℕ) → i < length s.assumes + length s.guarantees → get_or (s.assumes ++ s.guarantees) i 0 < rows_in s
  property_below i h =
      ⊎_elim
      (λ p. rw (get_or-append s.assumes s.guarantees 0 i p) (assume_below s ok.good i p))
      (λ p.
      let k : ℕ = i - length s.assumes in
      let e : i ≡ length s.assumes + k = omega arith in
      rw (e, get_or-append-add s.assumes s.guarantees k 0) (guarantee_below s ok.good k (omega arith)))
      (lt_or_ge i (length s.assumes))

module _ (way : Way) (s : Sections) (m : List ℕ) (ok : Accepted s) (st : Stands way s m) where
  few : rows_in s ≤ 128
  few = let f = ok.few.rows in omega arith

  room : temporals_in s.rows (rows_in s) ≤ 32
  room = temporals_fit s ok.good

  -- ---- a row
  module _ (r : ℕ) (h : r < rows_in s) where
    kind_is : kind_at m r ≡ kind_in s.rows r
    kind_is = word_at m (ROWS + ROW * r) (ROWS + ROW * r + 0) (sym (add-zero (ROWS + ROW * r))) ∙ st.word r 0 h (omega arith)

    arg_is : arg_at m r ≡ arg_in s.rows r
    arg_is = st.word r 1 h (omega arith)

    lower_is : lower_at m r ≡ lower_in s.rows r
    lower_is = st.word r 2 h (omega arith)

    upper_is : upper_at m r ≡ upper_in s.rows r
    upper_is = st.word r 3 h (omega arith)

    start_is : start_at m r ≡ start_in s.rows r
    start_is = st.word r 4 h (omega arith)

    slot_some : 7 ≤ kind_in s.rows r → slot_at m r ≡ temporals_in s.rows r
    unfolding slot_in
    slot_some k = st.word r 5 h (omega arith) ∙ rw (le-leb 7 (kind_in s.rows r) k)

    slot_none : kind_in s.rows r < 7 → slot_at m r ≡ 0
    unfolding slot_in
    slot_none k = st.word r 5 h (omega arith) ∙ rw (lt-leb 7 (kind_in s.rows r) k)

    there : start_in s.rows r + count_of (kind_in s.rows r) (arg_in s.rows r) ≤ length s.operands
    there = operands_there s ok.good r h

    row_is : row_of m r ≡ row_in s r
    unfolding row_of row_in
    row_is =
        let t = there in
        let f = ok.few.operands in
        let l = st.long in
        let a = start_in s.rows r in
        let p = part_length OPERANDS 128 m (omega arith) in
        let d = length-drop a (operands_of m) in
        let d' = length-drop a s.operands in
        rw (kind_is, arg_is, lower_is, upper_is, start_is)
        (row_local (kind_in s.rows r) (arg_in s.rows r) (lower_in s.rows r) (upper_in s.rows r) (drop a (operands_of m)) (drop a s.operands)
        (omega arith) (omega arith)
        (λ k q. get_or-drop a (operands_of m) k 0 ∙ part_at OPERANDS 128 m (a + k) (omega arith) ∙ st.operand (a + k) (omega arith) ∙ sym (get_or-drop a s.operands k 0)))

    row_kept : RowKept m r
    row_kept =
        let t = there in
        let f = ok.few.operands in
        let g = form s ok.good r h in
        let b = range s ok.good r h in
        record {
          kind = rw kind_is (form_kind (kind_in s.rows r) (arg_in s.rows r) (lower_in s.rows r) (upper_in s.rows r) g);
          atoms = rw (kind_is, arg_is, st.width) (λ e.
              let w : reach (kind_in s.rows r) (arg_in s.rows r) ≡ arg_in s.rows r + 1 = rw (eq-eqb (kind_in s.rows r) 2 e) in
              omega (arith, width_reaches s.rows (rows_in s) r h));
          span = rw (start_is, kind_is, arg_is) (omega arith);
          below = rw (kind_is, arg_is, start_is) (λ k q. rw (st.operand (start_in s.rows r + k) (omega arith)) (operand_below s ok.good r h k q));
          lower = rw lower_is (lower_small (lower_in s.rows r) (upper_in s.rows r) b);
          range = rw (lower_is, upper_is) (range_ordered (lower_in s.rows r) (upper_in s.rows r) b);
          upper = rw upper_is (upper_small (lower_in s.rows r) (upper_in s.rows r) b);
          slot = rw (kind_is, st.temporal_count) (λ k. rw (slot_some k) (slot_fits s.rows r (rows_in s) h k));
          owner = rw kind_is (λ k. rw (slot_some k) (st.owner r h k));
        }

  -- ---- the book
  rows_are : rows_of m ≡ listed (row_in s) (rows_in s)
  unfolding rows_of
  rows_are = rw st.count (listed_agree (row_of m) (row_in s) (rows_in s) row_is)

  assumes_are : part PROPERTIES (assume_count m) m ≡ s.assumes
  assumes_are =
      let a = ok.few.assumes in
      let l = st.long in
      rw st.assumes_counted
      (part_is PROPERTIES (length s.assumes) m s.assumes (omega arith) refl
      (λ i h. st.property i (omega arith) ∙ get_or-append s.assumes s.guarantees 0 i h))

  guarantees_are : part (PROPERTIES + assume_count m) (guarantee_count m) m ≡ s.guarantees
  guarantees_are =
      let a = ok.few.assumes in
      let g = ok.few.guarantees in
      let l = st.long in
      rw (st.assumes_counted, st.guarantees_counted)
      (part_is (PROPERTIES + length s.assumes) (length s.guarantees) m s.guarantees (omega arith) refl
      (λ i h.
      word_at m (PROPERTIES + length s.assumes + i) (PROPERTIES + (length s.assumes + i)) (omega arith)
      ∙ st.property (length s.assumes + i) (omega arith) ∙ get_or-append-add s.assumes s.guarantees i 0))

  holds_book : book_of m ≡ book_in s
  unfolding book_of book_in
  holds_book = λ i. record { rows = rows_are i; assumes = assumes_are i; guarantees = guarantees_are i }

  -- ---- the state
  width_is : width_in s.rows (rows_in s) ≡ width_of (listed (row_in s) (rows_in s))
  unfolding row_in
  width_is = sym (width_listed (row_in s) s.rows (rows_in s) (λ r h. row_width (kind_in s.rows r) (arg_in s.rows r) (lower_in s.rows r) (upper_in s.rows r) _))

  narrow : width_in s.rows (rows_in s) ≤ 256
  narrow = width_small s.rows (rows_in s) (args_good s ok)

  no_sets : (j : ℕ) → j < 32 → slot_words m j ≡ replicate SET 0
  no_sets j h =
      let l = st.long in
      let t = room in
      part_zeros (set_start j) SET m (omega arith) (λ i p. st.owners_rest (set_start j + i) (omega arith))

  sets_empty : (r : ℕ) → r < rows_in s → set_of m r ≡ []
  unfolding set_of
  sets_empty r h =
      rw (kind_is r h)
      (⊎_elim
      (λ k. rw (lt-leb 7 (kind_in s.rows r) k))
      (λ k.
      let q = slot_fits s.rows r (rows_in s) h k in
      let t = room in
      rw (le-leb 7 (kind_in s.rows r) k, slot_some r h k, no_sets (temporals_in s.rows r) (omega arith)) zeros_runs)
      (lt_or_ge (kind_in s.rows r) 7))

  holds_state : state_of m ≡ initial_in way (book_in s).rows
  unfolding state_of initial_in book_in
  holds_state =
      let n = narrow in
      let atoms_are =
      listed_all (λ i. is_one (get_or m (ATOMS + i) 0)) false (width_in s.rows (rows_in s)) (λ i h. ap is_one (st.atom i (omega arith))) in
      rw (way_read way m st.way_is, st.begun, st.clock, st.width, st.count, atoms_are, listed_all (set_of m) [] (rows_in s) sets_empty, width_is, listed_length (row_in s) (rows_in s))

  -- ---- kept
  owner_of : (j : ℕ) → j < temporals_in s.rows (rows_in s) → (t : Temporal s.rows (rows_in s) j) → owner_at m j ≡ t.row
  owner_of j h t = word_at m (OWNERS + j) (OWNERS + temporals_in s.rows t.row) (omega (arith, t.slot)) ∙ st.owner t.row t.below t.kind

  book_kept : BookKept m
  book_kept =
      let f = few in
      let t = room in
      let a = ok.few.assumes in
      let g = ok.few.guarantees in
      let the = temporal_of s.rows (rows_in s) in
      record {
        long = st.long;
        few = rw st.count f;
        rows = rw st.count row_kept;
        width = st.width ∙ width_is ∙ ap width_of (sym rows_are);
        narrow = rw st.width narrow;
        temporal_few = rw st.temporal_count t;
        owned = rw (st.temporal_count, st.count) (λ j h. rw (owner_of j h (the j h)) (the j h).below);
        temporals_are = rw st.temporal_count (λ j h. rw (owner_of j h (the j h), kind_is (the j h).row (the j h).below) (the j h).kind);
        slots = rw st.temporal_count (λ j h. rw (owner_of j h (the j h), slot_some (the j h).row (the j h).below (the j h).kind) (the j h).slot);
        ascends = rw st.temporal_count (λ i j p h.
            let q : i < temporals_in s.rows (rows_in s) = omega arith in
            let ti = the i q in
            let tj = the j h in
            rw (owner_of i q ti, owner_of j h tj)
            (⊎_elim (λ k. k) (λ k. absurd (omega (arith, temporals_mono s.rows tj.row ti.row k, ti.slot, tj.slot))) (lt_or_ge ti.row tj.row)));
        assumes_few = rw st.assumes_counted a;
        guarantees_few = rw st.guarantees_counted g;
        properties = rw (st.assumes_counted, st.guarantees_counted, st.count) (λ i h.
            rw (st.property i (omega arith))
            (property_below s ok i h));
      }

  start_to_lem : (r : ℕ) → r ≤ rows_in s → start_to m r ≡ start_in s.rows r
  unfolding start_to start_in
  start_to_lem zero h = refl
  start_to_lem (suc r) h = rw (start_to_lem r (omega arith), kind_is r h, arg_is r h)

  slot_to_lem : (r : ℕ) → r ≤ rows_in s → slot_to m r ≡ temporals_in s.rows r
  unfolding slot_to temporals_in
  slot_to_lem zero h = refl
  slot_to_lem (suc r) h = rw (slot_to_lem r (omega arith), kind_is r h)

  tidy : Tidy m
  tidy =
      let n = st.count in
      let t = room in
      record {
        form = rw n (λ r h. rw (kind_is r h, arg_is r h, lower_is r h, upper_is r h) (form s ok.good r h));
        start = rw n (λ r h. start_is r h ∙ sym (start_to_lem r (omega arith)));
        slot = rw n (λ r h. rw (kind_is r h) (λ k. slot_some r h k ∙ sym (slot_to_lem r (omega arith))));
        no_slot = rw n (λ r h. rw (kind_is r h) (λ k. slot_none r h k));
        count = st.temporal_count ∙ sym (slot_to_lem (rows_in s) (omega arith)) ∙ ap (slot_to m) (sym n);
        rows_rest = rw n st.rows_rest;
        operands_rest = rw (n, start_to_lem (rows_in s) (omega arith), operands_taken s ok.good) (λ i p h. st.operand i h ∙ get_or-eq_default s.operands 0 p);
        properties_rest = rw (st.assumes_counted, st.guarantees_counted) (λ i p h. st.property i h ∙ get_or-eq_default (s.assumes ++ s.guarantees) 0 (rw length-append p));
        atoms_rest = λ i p h. st.atom i h;
        owners_rest = rw st.temporal_count (λ j p h. st.owners_rest (OWNERS + j) (omega arith));
        sets_rest = λ j p h. no_sets j h;
      }

  zero_from : (i : ℕ) → VALUES ≤ i → get_or m i 0 ≡ 0
  zero_from i h = let t = room in st.owners_rest i (omega arith)

  pub holds : Holds way (book_in s) m
  holds =
      let n = narrow in
      record {
        book = holds_book;
        state = holds_state;
        sound = record {
          book = book_kept;
          tidy = tidy;
          way = way_small way m st.way_is;
          begun = omega (arith, st.begun);
          clock = omega (arith, st.clock);
          atoms = λ i h. omega (arith, st.width, st.atom i (omega (arith, st.width)));
          sets = λ j h. rw (no_sets j h) zeros_ring;
        };
        unused = record {
          values = λ r p q. zero_from (VALUES + r) (omega arith);
          told = λ j p q. zero_from (TOLD + j) (omega arith);
          early = λ i p q. zero_from (EARLY + i) (omega arith);
          settled = λ i p q. zero_from (SETTLED + i) (omega arith);
          moves = λ r p q. zero_from (MOVES + r) (omega arith);
          lowest = λ r p q. zero_from (LOWEST + r) (omega arith);
        };
        turns = λ j h. ap turn_of (no_sets j h);
        blank = λ i h. zero_from i (omega arith);
      }

-- ---- what `store` writes, one after the other
pub store_holds : (way : Way) (s : Sections) → Accepted s → {m₁ m₂ m₃ m₄ m₅ m₆ : List ℕ} {width slots : ℕ} → m₁ ≡ replicate SIZE 0
    → m₂ ≡ put m₁ OPERANDS s.operands → m₃ ≡ put m₂ PROPERTIES s.assumes → m₄ ≡ put m₃ (PROPERTIES + length s.assumes) s.guarantees
    → m₅ ≡ rows_put s.rows m₄ (rows_in s) → width ≡ width_in s.rows (rows_in s) → slots ≡ temporals_in s.rows (rows_in s)
    → m₆ ≡ head_put m₅ way (rows_in s) width slots (length s.assumes) (length s.guarantees) → Holds way (book_in s) m₆
unfolding stored
store_holds way s ok e₁ e₂ e₃ e₄ e₅ ew et e₆ = rw (e₆, e₅, e₄, e₃, e₂, e₁, ew, et) (holds way s (stored way s) ok (stored_stands way s ok))
