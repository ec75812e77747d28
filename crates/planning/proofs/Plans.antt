-- The plan of a call: where the values of the rows below are new, a row's plan is what the definitions make of it. Assumes nothing.
use Prim.Native.Nat.{ℕ, zero, suc, ◌+◌, ◌*◌, ◌≤◌, ◌<◌, min}
use mathlib.Core.Path.{◌≡◌, refl, sym, ap, ap₂, subst, ◌∙◌}
use mathlib.Core.Logic.{⊎_elim}
use mathlib.Core.Bool.{Bool, true, false, cond, not, true≢false}
use Rattle.std.specs.Prelude.{Result, Ok, Err, is_ok}
use mathlib.Core.List.{List, [], ◌∷◌, map}
use native.Mathlib.Omega.{arith}
use lib.ListN.{length, get_or, length-set}
use lib.Seq.{get_or-set_same, get_or-set_other}
use lib.Dec.{ltb}
use borrow.Author.Tests.{lt-ltb, le-ltb, lt-leb, le-leb}
use Rattle.lists.specs.Lists.{filled_from}
use Rattle.lists.proofs.Tests.{lt_or_ge, or_left, or_right, or_no}
use Rattle.lists.proofs.Filled.{filled_from_at, filled_from_more}
use Rattle.numset.specs.Runs.{Runs, has, fits, SET_WORDS}
use Rattle.ring.specs.Ring.{ringed, Rolling}
use Rattle.pmtl.specs.Answer.{bit_of}
use Rattle.pmtl.specs.Book.{Range, Row, Rows, row_at, map_row, Below, start, stop, some}
use Rattle.pmtl.specs.Sets.{Renew, ordinary, lasting, renewed_in, set_rule_by}
use Rattle.pmtl.specs.Monitor.{Snap, State, set_at, value_rule, value}
use Rattle.numbers.specs.Limits.{LAST_TIME, MOST_RUNS}
use Rattle.numbers.specs.declared.Refusal.{Refusal}
use Rattle.numbers.specs.declared.Refusal.TheVariants.{NoRoom}
use Rattle.pmtl.specs.Calls.{crowded}
use Rattle.pmtl.proofs.Table.{map_row_local}
use Rattle.pmtl.proofs.Answers.{value_fix, set_fix_by, step_sets_by, step_now_by}
use Rattle.memory.specs.Layout.{ROWS, ROW, OWNERS, VALUES}
use Rattle.memory.specs.Memory.{row_count, clock_of, temporals, kind_at, slot_at, owner_at, slot_words, row_of, rows_of, is_one, range_at}
use Rattle.memory.specs.Kept.{BookKept, Sound, Kept}
use Rattle.memory.specs.Alike.{Alike}
use Rattle.memory.proofs.Rows.{rows_length, row_at_lem, kept_ordered}
use Rattle.memory.proofs.Alike.{alike_filled, alike_sound, alike_rows, alike_set}
use Rattle.set_change.specs.Change.{changed, growing, spanned_if, counted_from, both_of, mode_in}
use Rattle.ring.proofs.Again.{held_few}
use Rattle.set_change.proofs.Changes.{room_else, will_0}
use Rattle.planning.specs.Plan.{snap_of, step_of, spans_in, renew_over, counts_from, Unplanned, Leading, ahead, set_ahead, held_in, set_next, value_next, mode_at, mode_next, set_after, row_plan, mode_put, RowTried, value_after, Planned, Bounded, Slot}
use Rattle.planning.proofs.Rules.{no_set}
use Rattle.planning.proofs.Ahead.{ahead_at, ahead_slot, rule_both}
use Rattle.memory.proofs.Bits.{bit_back}

-- ---- a test of every element
module _ {A : Type 0} (p : A → Bool) (d : A) where
  pub some_none : (xs : List A) → ((i : ℕ) → i < length xs → p (get_or xs i d) ≡ false) → some p xs ≡ false
  unfolding some
  some_none [] h = refl
  some_none (x ∷ xs) h = or_no (p x) (some p xs) (h 0 (omega arith)) (some_none xs (λ i lt. h (suc i) (omega arith)))

  pub some_hit : (xs : List A) (i : ℕ) → i < length xs → p (get_or xs i d) ≡ true → some p xs ≡ true
  unfolding some
  some_hit [] i h e = absurd (omega arith)
  some_hit (x ∷ xs) zero h e = or_left (p x) (some p xs) e
  some_hit (x ∷ xs) (suc i) h e = or_right (p x) (some p xs) (some_hit xs i (omega arith) e)

-- a set of at most 64 runs is one that fits its words
pub crowds : (s : Runs) → ltb MOST_RUNS (length s) ≡ not (fits SET_WORDS s)
crowds s =
    ⊎_elim (λ (p : MOST_RUNS < length s). lt-ltb MOST_RUNS (length s) p ∙ sym (ap not (le-ltb (2 * length s) SET_WORDS (omega arith))))
    (λ (p : length s ≤ MOST_RUNS). le-ltb MOST_RUNS (length s) p ∙ sym (ap not (lt-ltb (2 * length s) SET_WORDS (omega arith)))) (lt_or_ge MOST_RUNS (length s))

module _ (m : List ℕ) (kept : BookKept m) (renew : Renew) (st : State) (c : ℕ) (atoms : List ℕ) where
  sets_length : length (step_of m renew st c atoms).sets ≡ row_count m
  sets_length = step_sets_by renew (rows_of m) st (snap_of c atoms) ∙ rows_length m

  -- a row's new set, by its old one and its operands' new values
  pub set_now : (r : ℕ) → r < row_count m → set_at (step_of m renew st c atoms) r ≡ set_rule_by renew c (set_at st r) (map_row (value (rows_of m) (step_of m renew st c atoms)) (row_of m r))
  set_now r h =
      set_fix_by (rows_of m) (kept_ordered kept) renew st (snap_of c atoms) r
      ∙ ap (λ (row : Row ℕ). set_rule_by renew c (set_at st r) (map_row (value (rows_of m) (step_of m renew st c atoms)) row)) (row_at_lem m r h)

  pub set_none : (r : ℕ) → r < row_count m → kind_at m r < 7 → set_at (step_of m renew st c atoms) r ≡ []
  set_none r h k = set_now r h ∙ no_set renew c (set_at st r) (value (rows_of m) (step_of m renew st c atoms)) m r k

  -- every set has room, or one has not
  pub all_room : ((j : ℕ) → j < temporals m → fits SET_WORDS (set_at (step_of m renew st c atoms) (owner_at m j)) ≡ true) → crowded (step_of m renew st c atoms) ≡ false
  unfolding crowded
  all_room room =
      some_none (λ (s : Runs). ltb MOST_RUNS (length s)) [] (step_of m renew st c atoms).sets
      (λ r lt.
      let h : r < row_count m = omega (arith, sets_length) in
      ⊎_elim (λ (k : kind_at m r < 7). ap (λ (s : Runs). ltb MOST_RUNS (length s)) (set_none r h k))
      (λ (k : 7 ≤ kind_at m r).
      let row = kept.rows r h in
      crowds (set_at (step_of m renew st c atoms) r)
      ∙ ap (λ (q : ℕ). not (fits SET_WORDS (set_at (step_of m renew st c atoms) q))) (sym (row.owner k))
      ∙ ap not (room (slot_at m r) (row.slot k)))
      (lt_or_ge (kind_at m r) 7))

  pub no_room : (j : ℕ) → j < temporals m → fits SET_WORDS (set_at (step_of m renew st c atoms) (owner_at m j)) ≡ false → crowded (step_of m renew st c atoms) ≡ true
  unfolding crowded
  no_room j h e =
      some_hit (λ (s : Runs). ltb MOST_RUNS (length s)) [] (step_of m renew st c atoms).sets (owner_at m j) (omega (arith, sets_length, kept.owned j h))
      (crowds (set_at (step_of m renew st c atoms) (owner_at m j)) ∙ ap not e)

  -- and so each has
  pub fits_each : crowded (step_of m renew st c atoms) ≡ false → (j : ℕ) → j < temporals m → fits SET_WORDS (set_at (step_of m renew st c atoms) (owner_at m j)) ≡ true
  fits_each e j h = fits_or (fits SET_WORDS (set_at (step_of m renew st c atoms) (owner_at m j))) (λ z. no_room j h z)
    where
      fits_or : (b : Bool) → (b ≡ false → crowded (step_of m renew st c atoms) ≡ true) → b ≡ true
      fits_or true f = refl
      fits_or false f = absurd (true≢false (sym (f refl) ∙ e))

  -- a row's new value, by its new set and its operands' new values
  pub value_now : (r : ℕ) → r < row_count m → value (rows_of m) (step_of m renew st c atoms) r ≡ value_rule (map is_one atoms) (has (set_at (step_of m renew st c atoms) r) c) (map_row (value (rows_of m) (step_of m renew st c atoms)) (row_of m r))
  value_now r h =
      value_fix (rows_of m) (kept_ordered kept) (step_of m renew st c atoms) r
      ∙ ap₂ (λ (s : Snap) (row : Row ℕ). value_rule s.atoms (has (set_at (step_of m renew st c atoms) r) s.clock) (map_row (value (rows_of m) (step_of m renew st c atoms)) row))
      (step_now_by renew (rows_of m) st (snap_of c atoms)) (row_at_lem m r h)

-- how far planning a step has gone, from modes₀: the rows below n have their new values, and the sets of those that are temporal their modes and room
pub record Going (m : List ℕ) (spans : Bool) (modes₀ : List ℕ) (c : ℕ) (atoms m' modes : List ℕ) (n : ℕ) : Type 0 where
  pub few : n ≤ row_count m
  pub values : m' ≡ filled_from VALUES (value_after m (renew_over m spans) (ahead m c modes₀) c atoms) m n
  pub modes_long : length modes ≡ 32
  pub sets : (j : ℕ) → j < temporals m → owner_at m j < n → set_after m c (get_or modes j 0) j ≡ set_at (step_of m (renew_over m spans) (ahead m c modes₀) c atoms) (owner_at m j)
  pub room : (j : ℕ) → j < temporals m → owner_at m j < n → fits SET_WORDS (set_at (step_of m (renew_over m spans) (ahead m c modes₀) c atoms) (owner_at m j)) ≡ true
  pub rest : (j : ℕ) → j < temporals m → n ≤ owner_at m j → get_or modes j 0 ≡ get_or modes₀ j 0

pub going_start : (m : List ℕ) (spans : Bool) (c : ℕ) (atoms : List ℕ) {modes : List ℕ} → length modes ≡ 32 → Going m spans modes c atoms m modes 0
going_start m spans c atoms long = record { rest = λ j h l. refl; few = omega arith; values = refl; modes_long = long; sets = λ j h l. absurd (omega arith); room = λ j h l. absurd (omega arith) }

-- which row a slot belongs to, and which slot a row has
module _ {m : List ℕ} (kept : BookKept m) where
  own_slot : (r j : ℕ) → r < row_count m → 7 ≤ kind_at m r → j < temporals m → owner_at m j ≡ r → j ≡ slot_at m r
  own_slot r j h k l e = sym (kept.slots j l) ∙ ap (slot_at m) e

module _ {m : List ℕ} {spans : Bool} {modes₀ : List ℕ} {c : ℕ} {atoms : List ℕ} (sound : Sound m) (early : c ≤ LAST_TIME) (leads : spans ≡ true → Unplanned m modes₀) where
  module _ {m' modes : List ℕ} {n : ℕ} (g : Going m spans modes₀ c atoms m' modes n) where
    going_alike : Alike m m'
    going_alike = rw g.values (alike_filled m VALUES (value_after m (renew_over m spans) (ahead m c modes₀) c atoms) n (omega arith))

    pub going_sound : Sound m'
    going_sound = alike_sound sound going_alike

    pub going_count : row_count m' ≡ row_count m
    going_count = going_alike.below 0 (omega arith)

    -- the rows below have their new values
    held_right : (o : ℕ) → o < n → held_in m' o ≡ value (rows_of m) (step_of m (renew_over m spans) (ahead m c modes₀) c atoms) o
    held_right o h =
        let few = sound.book.few in
        let long = sound.book.long in
        let small = g.few in
        ap (λ (x : List ℕ). held_in x o) g.values
        ∙ ap is_one (filled_from_at VALUES (value_after m (renew_over m spans) (ahead m c modes₀) c atoms) m 0 n o h (omega arith)) ∙ bit_back (value (rows_of m) (step_of m (renew_over m spans) (ahead m c modes₀) c atoms) o)

    module _ (h : n < row_count m) where
      small : n < 128
      small = omega (arith, sound.book.few)

      kind_now : kind_at m' n ≡ kind_at m n
      kind_now = let s = small in going_alike.below (ROWS + ROW * n) (omega arith)

      slot_now : slot_at m' n ≡ slot_at m n
      slot_now = let s = small in going_alike.below (ROWS + ROW * n + 5) (omega arith)

      row_now : row_of m' n ≡ row_of m n
      row_now = sym (row_at_lem m' n (rw going_count h)) ∙ ap (λ (b : Rows). row_at b n) (alike_rows sound going_alike) ∙ row_at_lem m n h

      operands_right : map_row (held_in m') (row_of m n) ≡ map_row (value (rows_of m) (step_of m (renew_over m spans) (ahead m c modes₀) c atoms)) (row_of m n)
      operands_right =
          let low : Below n (row_of m n) = rw (row_at_lem m n h) at (kept_ordered sound.book n) in
          map_row_local n (held_in m') (value (rows_of m) (step_of m (renew_over m spans) (ahead m c modes₀) c atoms)) held_right (row_of m n) low

      clock_now : clock_of m' ≡ clock_of m
      clock_now = going_alike.below 2 (omega arith)

      range_now : range_at m' n ≡ range_at m n
      range_now =
          let s = small in
          ap₂ (λ (l u : ℕ). record { lower = l; upper = u }) (going_alike.below (ROWS + ROW * n + 2) (omega arith)) (going_alike.below (ROWS + ROW * n + 3) (omega arith))

      -- its set stands as the steps before left it
      after_now : 7 ≤ kind_at m n → (mode : ℕ) → set_after m' c mode (slot_at m n) ≡ set_after m c mode (slot_at m n)
      after_now k mode =
          let row = sound.book.rows n h in
          let lt = row.slot k in
          let few = sound.book.temporal_few in
          let o : owner_at m' (slot_at m n) ≡ n = going_alike.below (OWNERS + slot_at m n) (omega arith) ∙ row.owner k in
          ap₂ (λ (g : Range) (ws : List ℕ). changed mode (start g (counts_from m' c mode)) (stop g c) c (ringed ws)) (ap (range_at m') o ∙ range_now ∙ ap (range_at m) (sym (row.owner k)))
          (alike_set sound going_alike (slot_at m n) (omega arith))
          ∙ ap (λ (before : ℕ). changed mode (start (range_at m (owner_at m (slot_at m n))) (counted_from (min (before + 1) c) c mode)) (stop (range_at m (owner_at m (slot_at m n))) c) c (ringed (slot_words m (slot_at m n)))) clock_now

      rest_now : 7 ≤ kind_at m n → get_or modes (slot_at m n) 0 ≡ get_or modes₀ (slot_at m n) 0
      rest_now k = let row = sound.book.rows n h in g.rest (slot_at m n) (row.slot k) (rw (row.owner k) (omega arith))

      pub going_leads : Leading m' modes spans n
      going_leads = record {
        none = λ e q.
            let k : 7 ≤ kind_at m n = rw (← kind_now) q in
            ap (λ (j : ℕ). get_or modes j 0) slot_now ∙ rest_now k ∙ (leads e).none (slot_at m n) ((sound.book.rows n h).slot k);
      }

      ahead_now : 7 ≤ kind_at m n → set_ahead m' c modes n ≡ set_ahead m c modes₀ n
      ahead_now k =
          ahead_slot m' c modes n (rw kind_now k)
          ∙ ap (λ (j : ℕ). set_after m' c (get_or modes j 0) j) slot_now
          ∙ after_now k (get_or modes (slot_at m n) 0)
          ∙ ap (λ (q : ℕ). set_after m c q (slot_at m n)) (rest_now k)
          ∙ sym (ahead_slot m c modes₀ n k)

      -- so its own set and value are as the definitions have them
      set_right : set_next m' spans c modes n ≡ set_at (step_of m (renew_over m spans) (ahead m c modes₀) c atoms) n
      set_right =
          ⊎_elim
          (λ (k : kind_at m n < 7).
          no_set (renew_over m' spans) c (set_ahead m' c modes n) (held_in m') m' n (rw kind_now k) ∙ sym (set_none m sound.book (renew_over m spans) (ahead m c modes₀) c atoms n h k))
          (λ (k : 7 ≤ kind_at m n).
          ap (λ (before : ℕ). set_rule_by (renewed_in (cond spans lasting ordinary) before) c (set_ahead m' c modes n) (map_row (held_in m') (row_of m' n))) clock_now
          ∙ ap₂ (λ (s : Runs) (row : Row ℕ). set_rule_by (renew_over m spans) c s (map_row (held_in m') row)) (ahead_now k ∙ sym (ahead_at m c modes₀ n h)) row_now
          ∙ ap (set_rule_by (renew_over m spans) c (set_at (ahead m c modes₀) n)) operands_right ∙ sym (set_now m sound.book (renew_over m spans) (ahead m c modes₀) c atoms n h))
          (lt_or_ge (kind_at m n) 7)

      pub value_right : value_next m' spans c modes atoms n ≡ value (rows_of m) (step_of m (renew_over m spans) (ahead m c modes₀) c atoms) n
      value_right =
          ap₂ (λ (s : Runs) (row : Row ℕ). value_rule (map is_one atoms) (has s c) (map_row (held_in m') row)) set_right row_now
          ∙ ap (value_rule (map is_one atoms) (has (set_at (step_of m (renew_over m spans) (ahead m c modes₀) c atoms) n) c)) operands_right
          ∙ sym (value_now m sound.book (renew_over m spans) (ahead m c modes₀) c atoms n h)

      -- the mode that the code finds makes that of the set
      mode_right : (j : ℕ) → j < temporals m → owner_at m j ≡ n → set_after m c (spanned_if spans (both_of (get_or modes j 0) (mode_at m' n))) j ≡ set_at (step_of m (renew_over m spans) (ahead m c modes₀) c atoms) n
      mode_right j l e =
          let k : 7 ≤ kind_at m n = rw (← e) (sound.book.temporals_are j l) in
          ap (λ (i : ℕ). set_after m c (spanned_if spans (both_of (get_or modes i 0) (mode_at m' n))) i) (own_slot sound.book n j h k l e)
          ∙ ap₂ (λ (x : ℕ) (row : Row ℕ). set_after m c (spanned_if spans (both_of x (mode_in (map_row (held_in m') row)))) (slot_at m n)) (rest_now k) row_now
          ∙ sym (rule_both sound early h k spans modes₀ (record { none = λ e q. (leads e).none (slot_at m n) ((sound.book.rows n h).slot k) }) (held_in m'))
          ∙ ap₂ (λ (s : Runs) (row : Row Bool). set_rule_by (renew_over m spans) c s row) (sym (ahead_at m c modes₀ n h)) operands_right
          ∙ sym (set_now m sound.book (renew_over m spans) (ahead m c modes₀) c atoms n h)

      module _ {bytes m'' modes' : List ℕ} {turned : Result Bool Refusal} (same : value_next m' spans c modes bytes n ≡ value_next m' spans c modes atoms n) (t : RowTried m' spans c bytes modes n m'' modes' turned) where
        fits_right : fits SET_WORDS (set_at (step_of m (renew_over m spans) (ahead m c modes₀) c atoms) n) ≡ is_ok turned
        fits_right = sym (ap (fits SET_WORDS) set_right) ∙ sym t.room_is

        -- the mode of a slot whose row is below stays; that of this row is noted
        mode_other : (j : ℕ) → j < temporals m → (owner_at m j ≡ n → ⊥) → get_or (mode_put m' spans modes n) j 0 ≡ get_or modes j 0
        unfolding mode_put
        mode_other j l ne =
            ⊎_elim
            (λ (k : kind_at m' n < 7). rw (lt-leb 7 (kind_at m' n) k))
            (λ (k : 7 ≤ kind_at m' n).
            let k₀ : 7 ≤ kind_at m n = rw (← kind_now) k in
            rw (le-leb 7 (kind_at m' n) k)
            (get_or-set_other modes (slot_at m' n) j (mode_next m' spans modes n) 0 (λ e. ne (ap (owner_at m) (e ∙ slot_now) ∙ (sound.book.rows n h).owner k₀))))
            (lt_or_ge (kind_at m' n) 7)

        mode_own : (j : ℕ) → j < temporals m → owner_at m j ≡ n → get_or (mode_put m' spans modes n) j 0 ≡ spanned_if spans (both_of (get_or modes j 0) (mode_at m' n))
        unfolding mode_put
        mode_own j l e =
            let k₀ : 7 ≤ kind_at m n = rw (← e) (sound.book.temporals_are j l) in
            let k : 7 ≤ kind_at m' n = rw kind_now k₀ in
            let s : j ≡ slot_at m' n = own_slot sound.book n j h k₀ l e ∙ sym slot_now in
            let few = sound.book.temporal_few in
            let long = g.modes_long in
            rw (le-leb 7 (kind_at m' n) k, s) (get_or-set_same modes (slot_at m' n) (mode_next m' spans modes n) 0 (omega (arith, s)))

        put_long : length (mode_put m' spans modes n) ≡ 32
        unfolding mode_put
        put_long =
            ⊎_elim
            (λ (k : kind_at m' n < 7). rw (lt-leb 7 (kind_at m' n) k) g.modes_long)
            (λ (k : 7 ≤ kind_at m' n). rw (le-leb 7 (kind_at m' n) k) (length-set modes (slot_at m' n) (mode_next m' spans modes n) ∙ g.modes_long))
            (lt_or_ge (kind_at m' n) 7)

        pub going_more : is_ok turned ≡ true → Going m spans modes₀ c atoms m'' modes' (n + 1)
        going_more e =
            rw (t.mode_is_put e)
            (record {
              few = omega arith;
              values = t.value_put e ∙ filled_from_more VALUES (value_after m (renew_over m spans) (ahead m c modes₀) c atoms) m g.values (ap bit_of (same ∙ value_right));
              modes_long = put_long;
              rest = λ j l p. mode_other j l (λ z. omega arith) ∙ g.rest j l (omega arith);
              sets = λ j l p.
                  ⊎_elim
                  (λ (q : owner_at m j < n). ap (λ (k : ℕ). set_after m c k j) (mode_other j l (λ z. omega arith)) ∙ g.sets j l q)
                  (λ (q : n ≤ owner_at m j).
                  let z : owner_at m j ≡ n = omega arith in
                  ap (λ (k : ℕ). set_after m c k j) (mode_own j l z) ∙ mode_right j l z ∙ ap (set_at (step_of m (renew_over m spans) (ahead m c modes₀) c atoms)) (sym z))
                  (lt_or_ge (owner_at m j) n);
              room = λ j l p.
                  ⊎_elim
                  (λ (q : owner_at m j < n). g.room j l q)
                  (λ (q : n ≤ owner_at m j). let z : owner_at m j ≡ n = omega arith in rw z (fits_right ∙ e))
                  (lt_or_ge (owner_at m j) n);
            })

        temporal_full : is_ok turned ≡ false → 7 ≤ kind_at m n
        temporal_full e =
            ⊎_elim
            (λ (k : kind_at m n < 7). absurd (true≢false (sym (ap (fits SET_WORDS) (set_none m sound.book (renew_over m spans) (ahead m c modes₀) c atoms n h k)) ∙ fits_right ∙ e)))
            (λ (k : 7 ≤ kind_at m n). k)
            (lt_or_ge (kind_at m n) 7)

        pub going_full : is_ok turned ≡ false → {ms : List ℕ} → Planned m (renew_over m spans) (ahead m c modes₀) c atoms m'' false ms
        going_full e =
            let k = temporal_full e in
            let row = sound.book.rows n h in
            record {
              fits = no_room m sound.book (renew_over m spans) (ahead m c modes₀) c atoms (slot_at m n) (row.slot k) (ap (λ (q : ℕ). fits SET_WORDS (set_at (step_of m (renew_over m spans) (ahead m c modes₀) c atoms) q)) (row.owner k) ∙ fits_right ∙ e);
              sets = λ z. absurd (true≢false (sym z));
              tried = n;
              few = omega arith;
              all = λ z. absurd (true≢false (sym z));
              values = t.none e ∙ g.values;
            }

    pub going_done : n ≡ row_count m → Planned m (renew_over m spans) (ahead m c modes₀) c atoms m' true modes
    going_done e =
        record {
          fits = all_room m sound.book (renew_over m spans) (ahead m c modes₀) c atoms (λ j l. g.room j l (omega (arith, sound.book.owned j l)));
          sets = λ z j l. g.sets j l (omega (arith, sound.book.owned j l));
          tried = n;
          few = g.few;
          all = λ z. e;
          values = g.values;
        }

-- a step that counts a stretch is the first of its call
pub leads_in : {m modes : List ℕ} {spans : Bool} (fresh : Bool) → spans ≡ spans_in m fresh → (fresh ≡ false → Kept m × Unplanned m modes) → spans ≡ true → Unplanned m modes
leads_in true e first s = absurd (true≢false (sym s ∙ e))
leads_in false e first s = (first refl).1

pub planned_over : {m : List ℕ} {spans spans' : Bool} {st : State} {c : ℕ} {atoms m' modes : List ℕ} {room : Bool} → spans ≡ spans'
    → Planned m (renew_over m spans) st c atoms m' room modes → Planned m (renew_over m spans') st c atoms m' room modes
planned_over {m} {spans} {spans'} {st} {c} {atoms} {m'} {modes} {room} e p = subst (λ (s : Bool). Planned m (renew_over m s) st c atoms m' room modes) e p

-- ---- one row, as its plan is made
module _ {m : List ℕ} {c j r : ℕ} (slot : Slot m c j r) where
  abbrev book : BookKept m
  book = slot.timely.sound.book

  pub slot_small : j < 32
  slot_small = omega (arith, slot.inside, book.temporal_few)

  pub slot_row : r < row_count m
  slot_row = rw slot.owner (book.owned j slot.inside)

  pub slot_kind : 7 ≤ kind_at m r
  slot_kind = rw slot.owner (book.temporals_are j slot.inside)

  pub slot_bounded : Bounded m c r
  slot_bounded =
      let row = book.rows r slot_row in
      record { long = book.long; inside = omega (arith, slot_row, book.few); clock = slot.timely.clock; lower = row.lower; upper = row.upper }

  module _ {p : List ℕ} (e : p ≡ slot_words m j) where
    pub slot_good : Rolling p
    slot_good = rw e (slot.timely.sound.sets j slot_small)

    pub plan_made :
        {mode s t : ℕ} {room here : Bool} → s ≡ start (range_at m r) (counts_from m c mode) → t ≡ stop (range_at m r) c
        → room ≡ fits SET_WORDS (changed mode s t c (ringed p)) → here ≡ has (changed mode s t c (ringed p)) c → {wanted : ℕ} → mode ≡ wanted
        → cond room (Ok (record { mode = mode; here = here })) (Err NoRoom) ≡ row_plan m c wanted j
    plan_made {mode} {s} {t} {room} {here} es et er eh {wanted} em =
        let q : changed mode s t c (ringed p) ≡ set_after m c wanted j = rw (es, et, e, slot.owner, em) in
        let er' : room ≡ fits SET_WORDS (set_after m c wanted j) = er ∙ ap (λ (rs : Runs). fits SET_WORDS rs) q in
        let eh' : here ≡ has (set_after m c wanted j) c = eh ∙ ap (λ (rs : Runs). has rs c) q in
        λ i. cond (er' i) (Ok (record { mode = em i; here = eh' i })) (Err NoRoom)

    -- a set that stays has room for itself
    pub plan_stays :
        {mode : ℕ} {here : Bool} → mode ≡ 0 → here ≡ has (ringed p) c → {wanted : ℕ} → mode ≡ wanted → Ok (record { mode = mode; here = here }) ≡ row_plan m c wanted j
    plan_stays {mode} {here} z eh {wanted} em =
        let g = range_at m r in
        let s : ℕ = start g (counts_from m c mode) in
        plan_made refl refl (room_else mode s (stop g c) c (ringed p) (held_few p slot_good) (ap (λ (k : ℕ). growing k) z)) (will_0 mode s (stop g c) c (ringed p) eh z) em
