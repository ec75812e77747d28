-- A step at the clock has gone before a state call, and before the state step of a stamped one: what it left stands in the memory, and rests. Assumes nothing.
use Prim.Native.Nat.{ℕ, ◌+◌, ◌≤◌, ◌<◌}
use native.Mathlib.Omega.{arith}
use mathlib.Core.Path.{◌≡◌, refl, sym, ap, subst, ◌∙◌}
use mathlib.Core.Bool.{Bool, true}
use mathlib.Core.List.{List}
use borrow.Author.Tests.{eq-eqb}
use Rattle.numbers.specs.Limits.{MAX, LAST_TIME}
use Rattle.lists.specs.Lists.{filled_from}
use Rattle.lists.proofs.Filled.{filled_from_at}
use Rattle.numset.specs.Runs.{Runs, SET_WORDS, kept, fits}
use Rattle.ring.specs.Ring.{ringed, turn_after}
use Rattle.ring.proofs.Turns.{turn_still}
use Rattle.pmtl.specs.Answer.{bit_of}
use Rattle.pmtl.specs.Book.{Range, Rows}
use Rattle.pmtl.specs.Kept.{AllRuns, NoneBefore}
use Rattle.pmtl.specs.Sets.{Way, ordinary, lasting, renewed_in}
use Rattle.pmtl.specs.Monitor.{Snap, State, set_at, value, step_by, step_in}
use Rattle.pmtl.proofs.EachRun.{renewed_none_before, lasted_none_before, none_before_kept}
use Rattle.pmtl.proofs.Renewed.{rule_any}
use Rattle.pmtl.proofs.Answers.{set_made_by, step_now_by}
use Rattle.pmtl.proofs.Doubled.{step_again}
use Rattle.memory.specs.Layout.{VALUES, LOWEST}
use Rattle.memory.specs.Memory.{row_count, begun_word, clock_of, temporals, owner_at, slot_words, value_at, rows_of, is_one, state_of}
use Rattle.memory.specs.Tables.{value_of, Founded}
use Rattle.memory.specs.Kept.{Kept}
use Rattle.memory.specs.Alike.{Alike}
use Rattle.memory.proofs.Bits.{bit_back}
use Rattle.memory.proofs.Rows.{kept_ordered}
use Rattle.memory.proofs.Sets.{owner_set, set_canonical}
use Rattle.memory.proofs.Alike.{alike_rows}
use Rattle.set_change.specs.Change.{changed}
use Rattle.planning.specs.Plan.{snap_of, own_renew, set_after, Unplanned, value_after, Planned, Bits, Stands}
use Rattle.planning.proofs.Plans.{fits_each}
use Rattle.calls.specs.Called.{Turned}
use Rattle.calls.specs.Private.{time_step}
use Rattle.calls.proofs.Resting.{fits_now}
use Rattle.calls.proofs.Advances.{first_alike, first_beyond, set_planned, owner_as, slots_as}

-- ---- a state that rests has no run that is over
renewed_none : (way : Way) (before : ℕ) (k x : Bool) (g : Range) (c : ℕ) (s : Runs) → c ≤ MAX → NoneBefore c (renewed_in way before k x g c s)
renewed_none ordinary before k x g c s small = renewed_none_before k x g c s small
renewed_none lasting before k x g c s small = lasted_none_before before k x g c s small

rests_kept : (b : Rows) (st : State) → st.now.clock ≤ MAX → step_in b st st.now ≡ st → (r : ℕ) → kept st.now.clock (set_at st r) ≡ set_at st r
unfolding AllRuns
rests_kept b st small e r =
    let t = st.now.clock in
    let made = set_made_by (renewed_in st.way t) b st st.now r in
    none_before_kept t (set_at st r)
    (subst (λ (x : State). NoneBefore t (set_at x r)) e
    (rw made.1 (rule_any (NoneBefore t) tt (renewed_in st.way t) t (set_at st r) (λ k x g. renewed_none st.way t k x g t (set_at st r) small) made.0)))

-- a word that is a bit
as_bit : {w : ℕ} (b : Bool) → w ≡ bit_of b → w ≡ bit_of (is_one w)
as_bit {w} b e = e ∙ ap bit_of (sym (ap is_one e ∙ bit_back b))

-- ---- before a state call
module _ {m : List ℕ} (held : Kept m) where
  pub bits_now : Bits m
  bits_now = record { right = λ r h. as_bit (value_of m r) (held.tables.valued.right r h) }

  abbrev RestsNow : Type 0
  RestsNow = step_in (rows_of m) (state_of m) (state_of m).now ≡ state_of m

  rests_now : begun_word m ≡ 1 → RestsNow
  unfolding state_of
  rests_now begun = held.rests (eq-eqb (begun_word m) 1 begun)

  -- no run is over
  pub rests_here : {c : ℕ} → c ≡ clock_of m → begun_word m ≡ 1 → (r : ℕ) → kept c (set_at (state_of m) r) ≡ set_at (state_of m) r
  unfolding state_of
  rests_here ec begun r = ap (λ (x : ℕ). kept x (set_at (state_of m) r)) ec ∙ rests_kept (rows_of m) (state_of m) (let small = held.sound.clock in omega arith) (rests_now begun) r

  -- so where the sets are those of a memory before, their rings begin where they began
  pub turned_still : begun_word m ≡ 1 → (before : List ℕ) → ((j : ℕ) → j < 32 → slot_words m j ≡ slot_words before j) → Turned before m
  turned_still begun before words = record {
    turns = λ j h.
        let few = held.sound.book.temporal_few in
        let own : ringed (slot_words m j) ≡ set_at (state_of m) (owner_at m j) = sym (owner_set m held.sound j h) in
        turn_still (slot_words m j) (clock_of m) (held.sound.sets j (omega arith)).turn (ap (kept (clock_of m)) own ∙ rests_here refl begun (owner_at m j) ∙ sym own)
        ∙ ap (λ (w : List ℕ). turn_after (clock_of m) w) (words j (omega arith));
  }

  pub stands_now : {c : ℕ} → c ≡ clock_of m → (modes : List ℕ) → Unplanned m modes → begun_word m ≡ 1 → Stands m c modes
  unfolding state_of changed
  stands_now {c} ec modes none begun =
      record {
        state = state_of m;
        clock = sym ec;
        values = held.tables.valued.right;
        sets = λ j h.
            ap (λ (q : ℕ). set_after m c q j) (none.none j h)
            ∙ ap (kept c) (sym (owner_set m held.sound j h)) ∙ rests_here ec begun (owner_at m j);
        room = fits_now held;
        rests = rests_now begun;
      }

-- ---- before the state step of a stamped call, whose time step is planned
module _ {m : List ℕ} {c : ℕ} {old m₁ modes₁ : List ℕ} (held : Kept m) (small : c ≤ LAST_TIME) (first : Planned m (own_renew (state_of m)) (state_of m) c old m₁ true modes₁) where
  abbrev between : State
  between = time_step m c old

  alike : Alike m m₁
  alike = first_alike held small first

  rows_same : rows_of m₁ ≡ rows_of m
  rows_same = alike_rows held.sound alike

  count_same : row_count m₁ ≡ row_count m
  count_same = alike.below 0 (omega arith)

  value_there : (r : ℕ) → r < row_count m → value_at m₁ r ≡ bit_of (value (rows_of m) between r)
  value_there r h =
      let long = held.sound.book.long in
      let few = held.sound.book.few in
      let f = value_after m (own_renew (state_of m)) (state_of m) c old in
      ap (λ (x : List ℕ). value_at x r) (first.values ∙ ap (filled_from VALUES f m) (first.all refl))
      ∙ filled_from_at VALUES f m 0 (row_count m) r h (omega arith)

  pub founded_then : Founded m₁
  founded_then =
      let few = held.sound.book.few in
      record { right = rw (count_same, rows_same) (λ r h. first_beyond held small first (LOWEST + r) (omega arith) ∙ held.tables.founded.right r h) }

  pub bits_then : Bits m₁
  bits_then = record { right = rw count_same (λ r h. as_bit (value (rows_of m) between r) (value_there r h)) }

  pub stands_then : Stands m₁ c modes₁
  unfolding step_by
  stands_then =
      let b = held.sound.book in
      let now = step_now_by (own_renew (state_of m)) (rows_of m) (state_of m) (snap_of c old) in
      record {
        state = between;
        clock = ap (λ (n : Snap). n.clock) now;
        values = rw (count_same, rows_same) value_there;
        sets = λ j h.
            let l : j < temporals m = rw (← slots_as held.sound alike) h in
            set_planned held.sound small first j l ∙ ap (set_at between) (sym (owner_as held.sound alike j l));
        room = λ j h.
            let l : j < temporals m = rw (← slots_as held.sound alike) h in
            ap (λ (o : ℕ). fits SET_WORDS (set_at between o)) (owner_as held.sound alike j l) ∙ fits_each m b (own_renew (state_of m)) (state_of m) c old first.fits j l;
        rests = rw (rows_same, now) (step_again (rows_of m) (kept_ordered b) (state_of m) (set_canonical m held.sound) (snap_of c old) (omega arith));
      }
