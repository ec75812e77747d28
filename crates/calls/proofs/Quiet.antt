-- A time up to which a monitor is quiet: the memory with that clock is kept, and a stamped call is the state call on it. Assumes nothing.
use Prim.Native.Nat.{ℕ, zero, suc, ◌+◌, ◌≤◌, ◌<◌}
use native.Mathlib.Omega.{arith}
use mathlib.Core.Path.{◌≡◌, refl, sym, ap, ap₂, subst, ◌∙◌}
use mathlib.Core.Logic.{⊎_elim}
use mathlib.Core.Bool.{Bool, true, cond}
use mathlib.Core.List.{List}
use lib.ListN.{get_or, set, length-set}
use lib.Seq.{set-set, set-get_or, get_or-set_same, get_or-set_other}
use lib.Dec.{eqb, leb}
use borrow.Author.Tests.{leb-true, lt-leb, eq-eqb, ne_eqb}
use Rattle.numbers.specs.Limits.{LAST_TIME}
use Rattle.numbers.specs.Refusals.{ACCEPTED}
use Rattle.lists.specs.Lists.{listed}
use Rattle.lists.proofs.Tests.{lt_or_ge}
use Rattle.lists.proofs.Listed.{listed_agree}
use Rattle.lists.proofs.Parts.{part_same}
use Rattle.ring.specs.Ring.{ringed, turn_after}
use Rattle.pmtl.specs.Answer.{bit_of, digit_of}
use Rattle.pmtl.specs.Book.{Rows, row_at}
use Rattle.pmtl.specs.Monitor.{State, fullest, value}
use Rattle.pmtl.specs.Early.{early}
use Rattle.pmtl.specs.Settled.{settled}
use Rattle.pmtl.specs.Calls.{time, state, stamped, time_refusal, state_refusal, Outcome, call}
use Rattle.pmtl.specs.Quiet.{quiet_until, moved_to, RowRanged}
use Rattle.pmtl.proofs.Table.{row_out}
use Rattle.pmtl.proofs.Calls.{timely}
use Rattle.pmtl.proofs.Quiet.{Quiet, quiet, moves_on, stamped_on}
use Rattle.book.specs.Rows.{row_from}
use Rattle.memory.specs.Layout.{ATOMS, SET, VALUES, TOLD, EARLY, SETTLED, MOVES, LOWEST, FULLEST, UNTIL, CLOCK, OWNERS}
use Rattle.memory.specs.Memory.{row_count, begun_word, clock_of, width_word, temporals, kind_at, arg_at, lower_at, upper_at, slot_at, owner_at, set_start, slot_words, atom_at, property_row, until_word, row_of, rows_of, book_of, way_of, set_of, state_of, is_one}
use Rattle.memory.specs.Tables.{COVERS, GONE, NEITHER, standing, value_of, early_of, settled_of, property_count, Tables}
use Rattle.memory.specs.Kept.{BookKept, Kept}
use Rattle.memory.specs.Alike.{SameLedger}
use Rattle.memory.proofs.Rows.{rows_length, row_at_lem, kept_ordered}
use Rattle.memory.proofs.Sets.{owner_set}
use Rattle.memory.proofs.Ledger.{ledger_self, ledger_on, ledger_kept}
use Rattle.memory.proofs.Stepped.{Stepped, rows_of_same, step_book, kept_step, kind_same, slot_same, property_same}
use Rattle.tables.proofs.Puts.{few_properties}
use Rattle.calls.specs.Private.{QuietAt, ticked, Done}
use Rattle.calls.proofs.Resting.{left, rests_after}
use Rattle.calls.proofs.Stood.{turned_still}

-- ---- as the code finds it
pub quiet_until_lem : {m : List ℕ} {t until : ℕ} → begun_word m ≡ 1 → until ≡ until_word m → leb t until ≡ true → QuietAt m t
quiet_until_lem {t = t} {until = until} begun e h = record { begun = begun; until = subst (λ (x : ℕ). t ≤ x) e (leb-true t until h) }

-- ---- the ranges of a kept memory's rows
row_ranged : (kind arg lower upper : ℕ) (os : List ℕ) → lower ≤ upper → lower ≤ LAST_TIME → RowRanged (row_from kind arg lower upper os)
unfolding row_from
row_ranged zero a l u os h k = tt
row_ranged (suc zero) a l u os h k = tt
row_ranged (suc (suc zero)) a l u os h k = tt
row_ranged (suc (suc (suc zero))) a l u os h k = tt
row_ranged (suc (suc (suc (suc zero)))) a l u os h k = tt
row_ranged (suc (suc (suc (suc (suc zero))))) a l u os h k = tt
row_ranged (suc (suc (suc (suc (suc (suc zero)))))) a l u os h k = tt
row_ranged (suc (suc (suc (suc (suc (suc (suc zero))))))) a l u os h k = (h, k)
row_ranged (suc (suc (suc (suc (suc (suc (suc (suc zero)))))))) a l u os h k = (h, k)
row_ranged (suc (suc (suc (suc (suc (suc (suc (suc (suc zero))))))))) a l u os h k = (h, k)
row_ranged (suc (suc (suc (suc (suc (suc (suc (suc (suc (suc j)))))))))) a l u os h k = tt

kept_ranged : {m : List ℕ} → BookKept m → (r : ℕ) → RowRanged (row_at (rows_of m) r)
unfolding row_of
kept_ranged {m} kept r =
    ⊎_elim
    (λ (h : r < row_count m).
    let row = kept.rows r h in
    rw (row_at_lem m r h) (row_ranged (kind_at m r) (arg_at m r) (lower_at m r) (upper_at m r) _ row.range row.lower))
    (λ (h : row_count m ≤ r). rw (row_out (rows_of m) r (omega (arith, rows_length m))) tt)
    (lt_or_ge r (row_count m))

module _ {m : List ℕ} (kept : Kept m) (t : ℕ) (fine : time_refusal (state_of m).now t ≡ ACCEPTED) (at : QuietAt m t) where
  abbrev m' : List ℕ
  m' = ticked m t

  calm : Quiet (rows_of m) (state_of m) t
  unfolding state_of
  calm =
      let e = kept.awaited.right in
      quiet (rows_of m) (kept_ordered kept.sound.book) (kept_ranged kept.sound.book) (state_of m) (left kept) (rw at.begun) t fine (omega (arith, at.until))

  -- ---- its words
  other : (i : ℕ) → 2 < i → get_or m' i 0 ≡ get_or m i 0
  other i h = get_or-set_other m CLOCK i t 0 (omega arith)

  clock_is : clock_of m' ≡ t
  clock_is = let long = kept.sound.book.long in get_or-set_same m CLOCK t 0 (omega arith)

  begun_same : get_or m' 1 0 ≡ get_or m 1 0
  begun_same = get_or-set_other m CLOCK 1 t 0 (omega arith)

  count_same : get_or m' 0 0 ≡ get_or m 0 0
  count_same = get_or-set_other m CLOCK 0 t 0 (omega arith)

  slot_words_lem : (j : ℕ) → j < 32 → slot_words m' j ≡ slot_words m j
  slot_words_lem j h = let long = kept.sound.book.long in
      part_same (set_start j) SET m m' (omega arith) (length-set m CLOCK t) (λ i p. other (set_start j + i) (omega arith))

  stepped : Stepped m m'
  stepped =
      let few = kept.sound.book.temporal_few in
      record {
        long = length-set m CLOCK t;
        rows_same = count_same;
        book_same = λ i p q. other i (omega arith);
        atoms_same = λ i p q. other (ATOMS + i) (omega arith);
        owners_same = λ j p. other (OWNERS + j) (omega arith);
        sets_same = λ j p q. slot_words_lem j q;
        begun = rw begun_same kept.sound.begun;
        clock = rw clock_is (timely (state_of m).now t fine).1;
        atoms = λ i p. rw (other (ATOMS + i) (omega arith)) (kept.sound.atoms i p);
        sets = λ j p. rw (slot_words_lem j (omega arith)) (kept.sound.sets j (omega arith));
      }

  -- ---- the monitor
  pub ticked_rows : rows_of m' ≡ rows_of m
  ticked_rows = rows_of_same m m' kept.sound stepped

  way_same : way_of m' ≡ way_of m
  unfolding way_of
  way_same = rw (other 7 (omega arith))

  atoms_same : listed (λ i. is_one (atom_at m' i)) (width_word m') ≡ listed (λ i. is_one (atom_at m i)) (width_word m)
  atoms_same = rw (other 3 (omega arith)) (listed_agree (λ i. is_one (atom_at m' i)) (λ i. is_one (atom_at m i)) (width_word m) (λ i h. ap is_one (other (ATOMS + i) (omega arith))))

  set_same : (r : ℕ) → r < row_count m → set_of m' r ≡ set_of m r
  unfolding set_of
  set_same r h =
      let few = kept.sound.book.few in
      let slots = kept.sound.book.temporal_few in
      rw (kind_same m m' kept.sound stepped r (omega arith), slot_same m m' kept.sound stepped r (omega arith))
      (⊎_elim
      (λ (k : kind_at m r < 7). rw (lt-leb 7 (kind_at m r) k))
      (λ (k : 7 ≤ kind_at m r). rw (slot_words_lem (slot_at m r) (omega (arith, (kept.sound.book.rows r h).slot k))))
      (lt_or_ge (kind_at m r) 7))

  sets_same : listed (set_of m') (row_count m') ≡ listed (set_of m) (row_count m)
  sets_same = rw count_same (listed_agree (set_of m') (set_of m) (row_count m) set_same)

  ticked_state : state_of m' ≡ moved_to t (state_of m)
  unfolding state_of
  ticked_state = λ i. record {
    way = way_same i;
    begun = is_one (begun_same i);
    now = record { clock = clock_is i; atoms = atoms_same i };
    sets = sets_same i;
  }

  -- ---- its tables
  value_same : (r : ℕ) → value_of m' r ≡ value_of m r
  value_same r = ap₂ (λ (b : Rows) (st : State). value b st r) ticked_rows ticked_state ∙ calm.value_is r

  early_same : (r : ℕ) → early_of m' r ≡ early_of m r
  early_same r = ap₂ (λ (b : Rows) (st : State). early b st r) ticked_rows ticked_state ∙ calm.early_is r

  settled_same : (r : ℕ) → settled_of m' r ≡ settled_of m r
  settled_same r = ap₂ (λ (b : Rows) (st : State). settled b st r) ticked_rows ticked_state ∙ calm.settled_is r

  standing_same : (j : ℕ) → j < temporals m → standing (clock_of m') (ringed (slot_words m' j)) ≡ standing (clock_of m) (ringed (slot_words m j))
  unfolding standing state_of
  standing_same j h =
      let few = kept.sound.book.temporal_few in
      let own = owner_set m kept.sound j h in
      let c = rw own at (calm.covers_is (owner_at m j)) in
      let g = rw own at (calm.gone_is (owner_at m j)) in
      ap₂ (λ (x : ℕ) (ws : List ℕ). standing x (ringed ws)) clock_is (slot_words_lem j (omega arith))
      ∙ ap₂ (λ (x y : Bool). cond x COVERS (cond y GONE NEITHER)) c g

  property_count_lem : property_count m' ≡ property_count m
  property_count_lem = ap₂ (λ (a g : ℕ). a + g) (other 5 (omega arith)) (other 6 (omega arith))

  property_row_lem : (i : ℕ) → i < property_count m → property_row m' i ≡ property_row m i
  property_row_lem i h = let f = few_properties kept.sound in property_same m m' kept.sound stepped i (omega arith)

  tables : Tables m'
  tables =
      let t = kept.tables in
      let u = t.unused in
      let slots = other 4 (omega arith) in
      record {
        valued = record { right = rw count_same (λ r h. other (VALUES + r) (omega arith) ∙ t.valued.right r h ∙ ap bit_of (sym (value_same r))) };
        told = record { right = rw slots (λ j h. other (TOLD + j) (omega arith) ∙ t.told.right j h ∙ sym (standing_same j h)) };
        answered = record {
          early = rw property_count_lem (λ i h.
              other (EARLY + i) (omega arith) ∙ t.answered.early i h ∙ ap digit_of (sym (early_same (property_row m i)) ∙ ap (early_of m') (sym (property_row_lem i h))));
          settled = rw property_count_lem (λ i h.
              other (SETTLED + i) (omega arith) ∙ t.answered.settled i h ∙ ap digit_of (sym (settled_same (property_row m i)) ∙ ap (settled_of m') (sym (property_row_lem i h))));
        };
        moving = record { right = rw (count_same, ticked_rows) (λ r h. other (MOVES + r) (omega arith) ∙ t.moving.right r h) };
        founded = record { right = rw (count_same, ticked_rows) (λ r h. other (LOWEST + r) (omega arith) ∙ t.founded.right r h) };
        counts = record { right = other FULLEST (omega arith) ∙ t.counts.right ∙ sym (ap fullest ticked_state) };
        unused = record {
          moves = rw count_same (λ r p q. other (MOVES + r) (omega arith) ∙ u.moves r p q);
          lowest = rw count_same (λ r p q. other (LOWEST + r) (omega arith) ∙ u.lowest r p q);
          values = rw count_same (λ r p q. other (VALUES + r) (omega arith) ∙ u.values r p q);
          told = rw slots (λ j p q. other (TOLD + j) (omega arith) ∙ u.told j p q);
          early = rw property_count_lem (λ i p q. other (EARLY + i) (omega arith) ∙ u.early i p q);
          settled = rw property_count_lem (λ i p q. other (SETTLED + i) (omega arith) ∙ u.settled i p q);
        };
      }

  ledger_other : SameLedger m m'
  ledger_other = record { words = λ i h. other i (omega arith) }

  on_time : call (rows_of m) (state_of m) (time t) ≡ record { number = ACCEPTED; state = moved_to t (state_of m) }
  unfolding state_of
  on_time = moves_on (rows_of m) (kept_ordered kept.sound.book) (kept_ranged kept.sound.book) (state_of m) (left kept) (rw at.begun) t fine calm

  ticked_by : state_of m' ≡ (call (rows_of m) (state_of m) (time t)).state
  ticked_by = ticked_state ∙ sym (ap (λ (o : Outcome). o.state) on_time)

  pub ticked_kept : Kept m'
  ticked_kept = record {
    sound = kept_step m m' kept.sound stepped;
    tables = tables;
    ledger = ledger_kept property_count_lem ledger_other kept.ledger;
    rests = rests_after kept m' (time t) ticked_rows ticked_by;
    awaited = record { right = other UNTIL (omega arith) ∙ kept.awaited.right ∙ sym (ap₂ quiet_until ticked_rows ticked_state ∙ calm.until_is) };
  }

  -- ---- a time call
  pub time_quiet : Done (time t) m m' 0
  unfolding book_of
  time_quiet = record {
    number = sym (ap (λ (o : Outcome). o.number) on_time);
    state = ticked_by;
    book = step_book m m' kept.sound stepped;
    turned = λ z. turned_still ticked_kept (begun_same ∙ at.begun) m slot_words_lem;
    refused = λ ne. absurd (ne refl);
    ledger = ledger_other;
    kept = ticked_kept;
  }

  -- ---- a stamped call: the state call is left
  module _ (s : List ℕ) (right : state_refusal (rows_of m) s ≡ ACCEPTED) where
    pub still_right : state_refusal (rows_of m') s ≡ ACCEPTED
    still_right = rw ticked_rows right

    abbrev left_over : Outcome
    left_over = call (rows_of m') (state_of m') (state s)

    as_stated : call (rows_of m) (state_of m) (stamped t s) ≡ record { number = left_over.number; state = cond (eqb left_over.number ACCEPTED) left_over.state (state_of m) }
    unfolding state_of
    as_stated =
        stamped_on (rows_of m) (kept_ordered kept.sound.book) (kept_ranged kept.sound.book) (state_of m) (left kept) (rw at.begun) t fine calm s right
        ∙ ap (λ (o : Outcome). record { number = o.number; state = cond (eqb o.number ACCEPTED) o.state (state_of m) })
        (ap₂ (λ (b : Rows) (st : State). call b st (state s)) (sym ticked_rows) (sym ticked_state))

    module _ {m₂ : List ℕ} {r : ℕ} (d : Done (state s) m' m₂ r) where
      number_is : r ≡ left_over.number
      unfolding book_of
      number_is = d.number

      pub stamped_quiet : r ≡ 0 → Done (stamped t s) m m₂ 0
      unfolding book_of
      stamped_quiet z =
          let zero_is : left_over.number ≡ 0 = sym number_is ∙ z in
          record {
            number = sym (ap (λ (o : Outcome). o.number) as_stated ∙ zero_is);
            state = d.state ∙ sym (ap (λ (o : Outcome). o.state) as_stated ∙ rw (eq-eqb left_over.number 0 zero_is));
            book = d.book ∙ step_book m m' kept.sound stepped;
            turned = λ e. record {
              turns = λ j h.
                  let few = d.kept.sound.book.temporal_few in
                  (d.turned z).turns j h ∙ ap (λ (w : List ℕ). turn_after (clock_of m₂) w) (slot_words_lem j (omega arith));
            };
            refused = λ ne. absurd (ne refl);
            ledger = ledger_on ledger_other d.ledger;
            kept = d.kept;
          }

      -- refused, the clock goes back
      ticked_back : set m' CLOCK (clock_of m) ≡ m
      ticked_back = set-set m CLOCK t (clock_of m) ∙ set-get_or m CLOCK 0

      pub stamped_back : (r ≡ 0 → ⊥) → {c : ℕ} → c ≡ clock_of m → {m₃ : List ℕ} → m₃ ≡ ticked m₂ c → Done (stamped t s) m m₃ r
      unfolding book_of
      stamped_back ne ec e₃ =
          let not-zero : left_over.number ≡ 0 → ⊥ = λ z. ne (number_is ∙ z) in
          rw (e₃ ∙ ap₂ (λ (x : List ℕ) (c : ℕ). ticked x c) (d.refused ne) ec ∙ ticked_back)
          record {
            number = number_is ∙ sym (ap (λ (o : Outcome). o.number) as_stated);
            state = sym (ap (λ (o : Outcome). o.state) as_stated ∙ rw (ne_eqb left_over.number 0 not-zero));
            book = refl;
            turned = λ z. absurd (ne z);
            refused = λ z. refl;
            ledger = ledger_self m;
            kept = kept;
          }
