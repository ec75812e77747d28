-- The public calls, arm by arm: refused for themselves, or played. Assumes nothing.
use Prim.Native.Nat.{ℕ, ◌≤◌, ◌<◌}
use mathlib.Core.Path.{◌≡◌, refl, sym, ap, ap₂, ◌∙◌}
use mathlib.Core.Logic.{⊎_elim}
use mathlib.Core.Bool.{Bool, true, false, true≢false}
use mathlib.Core.List.{List, [], ◌∷◌}
use native.Mathlib.Omega.{arith}
use lib.ListN.{length, get_or}
use lib.Dec.{ltb, eqb}
use borrow.Author.Tests.{lt-ltb, le-ltb, ltb-false, ne_eqb, eq-eqb}
use Rattle.numbers.specs.Limits.{LAST_TIME, MOST_ATOMS}
use Rattle.lists.proofs.Tests.{either, fails_by}
use Rattle.ledger.specs.Ledger.{next}
use Rattle.pmtl.specs.Book.{Book, Rows, properties, width_of, some}
use Rattle.pmtl.specs.Sets.{Renew}
use Rattle.pmtl.specs.Monitor.{Snap, State}
use Rattle.pmtl.specs.Calls.{Call, Outcome, turns, time_refusal, state_refusal, first_of, refusal, crowded, play, call}
use Rattle.pmtl.specs.Calls.Call.{time, state, stamped}
use Rattle.pmtl.specs.Again.{SaysAgain}
use Rattle.pmtl.proofs.Answers.{step_way_by}
use Rattle.pmtl.proofs.Calls.{timely, well_stated}
use Rattle.ring.specs.Ring.{turn_of, turn_after}
use Rattle.memory.specs.Layout.{SIZE}
use Rattle.memory.specs.Memory.{begun_word, clock_of, width_word, temporals, slot_words, atom_at, rows_of, book_of, state_of, ledger_of, atoms_of}
use Rattle.memory.specs.Tables.{property_count, Tables}
use Rattle.memory.specs.Kept.{BookKept, Sound, LedgerKept, Awaited, Kept}
use Rattle.memory.specs.Alike.{Alike, SameLedger}
use Rattle.memory.proofs.Alike.{alike_sound, alike_set, alike_book, alike_state}
use Rattle.memory.proofs.Ledger.{ledger_self, ledger_on, ledger_same, ledger_kept}
use Rattle.memory.proofs.Properties.{properties_length}
use Rattle.planning.specs.Plan.{snap_of, own_renew}
use Rattle.calls.specs.Private.{AtomsStand, OnlyValues, Bytes, time_step, Atoms, Moved, Tried, TriedBoth, Due, Done, Advanced}
use Rattle.notes.specs.Noting.{numbered, CallNoted}
use Rattle.calls.specs.Called.{Turned, Called}
use Rattle.calls.proofs.Resting.{rests_after, unmoved_by}
use Rattle.calls.proofs.Stood.{turned_still}
use Rattle.planning.proofs.Plans.{some_hit}
use Rattle.planning.proofs.Atoms.{bits_listed, old_same, old_atoms}
use Rattle.calls.proofs.Heads.{old_bytes}
use Rattle.calls.proofs.Advances.{Leads, played, due, renewed_none, has_room, tried_moved, tried_refused, tried_stands}

-- ---- a call that is refused for itself, and one that is not
refused_call : (b : Rows) (st : State) (k : Call) (n : ℕ) → refusal b st.now k ≡ n → (n ≡ 0 → ⊥) → call b st k ≡ record { number = n; state = st }
unfolding call
refused_call b st k n e ne =
    ap (λ (x : ℕ). elim (eqb x 0) as (λ _. Outcome) [ true ↦ play b st st (turns st.now k) | false ↦ record { number = x; state = st } ]) e
    ∙ ap (λ (t : Bool). elim t as (λ _. Outcome) [ true ↦ play b st st (turns st.now k) | false ↦ record { number = n; state = st } ]) (ne_eqb n 0 ne)

played_call : (b : Rows) (st : State) (k : Call) → refusal b st.now k ≡ 0 → call b st k ≡ play b st st (turns st.now k)
unfolding call
played_call b st k e = ap (λ (x : ℕ). elim (eqb x 0) as (λ _. Outcome) [ true ↦ play b st st (turns st.now k) | false ↦ record { number = x; state = st } ]) e

called_refused : {m : List ℕ} {k : Call} {n : ℕ} → Kept m → refusal (rows_of m) (state_of m).now k ≡ n → (n ≡ 0 → ⊥) → Done k m m n
unfolding book_of
called_refused {m} {k} {n} kept e ne =
    let q = refused_call (rows_of m) (state_of m) k n e ne in
    record { number = ap (λ (o : Outcome). o.number) (sym q); state = ap (λ (o : Outcome). o.state) (sym q); book = refl; turned = λ z. absurd (ne z); refused = λ z. refl; ledger = ledger_self m; kept = kept }

-- what the words of a memory owe, apart from that its monitor rests
abbrev Right : List ℕ → Type 0
Right m = Sound m × Tables m × LedgerKept m × Awaited m

right_now : {m : List ℕ} → Kept m → Right m
right_now kept = (kept.sound, kept.tables, kept.ledger, kept.awaited)

called_played : {m m' : List ℕ} {k : Call} {r : ℕ} {ns : List Snap} → Kept m → refusal (rows_of m) (state_of m).now k ≡ 0 → ns ≡ turns (state_of m).now k → Advanced m ns m' r
    → Right m' → Done k m m' r
unfolding book_of
called_played {m} {m'} {k} {r} kept e en a right =
    let plays = played_call (rows_of m) (state_of m) k e in
    let state : state_of m' ≡ (call (rows_of m) (state_of m) k).state = a.state ∙ ap (λ (ns : List Snap). (play (rows_of m) (state_of m) (state_of m) ns).state) en ∙ ap (λ (o : Outcome). o.state) (sym plays) in
    record {
      number = a.number ∙ ap (λ (ns : List Snap). (play (rows_of m) (state_of m) (state_of m) ns).number) en ∙ ap (λ (o : Outcome). o.number) (sym plays);
      state = state;
      book = a.book;
      turned = a.turned;
      refused = a.refused;
      ledger = a.ledger;
      kept = record { sound = right.0; tables = right.1; ledger = right.2; rests = rests_after kept m' k (ap (λ (x : Book). x.rows) a.book) state; awaited = right.3 };
    }

-- a call that says again what stands there
called_again : {m : List ℕ} → Kept m → begun_word m ≡ 1 → (k : Call) → refusal (rows_of m) (state_of m).now k ≡ 0 → SaysAgain (state_of m).now k → Done k m m 0
unfolding book_of state_of
called_again {m} kept begun k fine again = let e = unmoved_by kept (rw begun) k fine again in
    record {
      number = sym (ap (λ (o : Outcome). o.number) e);
      state = sym (ap (λ (o : Outcome). o.state) e);
      book = refl;
      turned = λ z. turned_still kept begun m (λ j h. refl);
      refused = λ z. refl;
      ledger = ledger_self m;
      kept = kept;
    }

-- memories with the same book have as many properties
same_count : {m m' : List ℕ} → BookKept m → BookKept m' → book_of m' ≡ book_of m → property_count m' ≡ property_count m
same_count {m} {m'} kept kept' same = sym (properties_length m' kept') ∙ ap (λ (b : Book). length (properties b)) same ∙ properties_length m kept

-- and memories with the same words before the tables have the same rings
turned_alike : {m m₁ m₂ : List ℕ} → Turned m m₁ → Sound m₁ → Alike m₁ m₂ → Turned m m₂
turned_alike {m} {m₁} {m₂} t sound alike = record {
  turns = λ j h.
      let few = sound.book.temporal_few in
      let slots : temporals m₂ ≡ temporals m₁ = alike.below 4 (omega arith) in
      ap (λ (w : List ℕ). turn_of w) (alike_set sound alike j (omega arith)) ∙ t.turns j (omega arith) ∙ ap (λ (c : ℕ). turn_after c (slot_words m j)) (sym (alike.below 2 (omega arith)));
}

-- a call that was accepted, once what is due was told and asked
pub advanced_renewed : {m m₁ m₂ : List ℕ} {ns : List Snap} → Kept m → Advanced m ns m₁ 0 → Sound m₁ → Alike m₁ m₂ × Tables m₂ × SameLedger m₁ m₂ × Awaited m₂ → Advanced m ns m₂ 0 × Right m₂
advanced_renewed {m} {m₁} {m₂} kept a sound t =
    let book : book_of m₂ ≡ book_of m = alike_book sound t.0 ∙ a.book in
    let sound₂ = alike_sound sound t.0 in
    let same = ledger_on a.ledger t.2 in (
      record {
        number = a.number;
        state = alike_state sound t.0 ∙ a.state;
        book = book;
        turned = λ z. turned_alike (a.turned z) sound t.0;
        refused = λ ne. absurd (ne refl);
        ledger = same;
      },
      (sound₂, t.1, ledger_kept (same_count kept.sound.book sound₂.book book) same kept.ledger, t.3),
    )

-- ---- what is wrong with a time, and with a state
module _ (m : List ℕ) {t clock : ℕ} (ec : clock ≡ clock_of m) where
  pub number_early : t < clock → 7 ≡ time_refusal (state_of m).now t
  unfolding state_of
  number_early h = let e = lt-ltb t (clock_of m) (omega arith) in sym (rw e)

  pub number_late : clock ≤ t → LAST_TIME < t → 8 ≡ time_refusal (state_of m).now t
  unfolding state_of
  number_late h k = let e = le-ltb t (clock_of m) (omega arith) in sym (rw (e, lt-ltb LAST_TIME t k))

  pub number_timely : clock ≤ t → t ≤ LAST_TIME → 0 ≡ time_refusal (state_of m).now t
  unfolding state_of
  number_timely h k = let e = le-ltb t (clock_of m) (omega arith) in sym (rw (e, le-ltb LAST_TIME t k))

module _ {m : List ℕ} (book : BookKept m) (s : List ℕ) where
  pub number_wide : MOST_ATOMS < length s → 2 ≡ state_refusal (rows_of m) s
  number_wide h = sym (rw (lt-ltb MOST_ATOMS (length s) h))

  module _ (h : length s ≤ MOST_ATOMS) {w : ℕ} (ew : w ≡ width_word m) where
    width_is : width_of (rows_of m) ≡ w
    width_is = sym (ew ∙ book.width)

    pub number_short : length s < w → 9 ≡ state_refusal (rows_of m) s
    number_short k = sym (rw (le-ltb MOST_ATOMS (length s) h, width_is, lt-ltb (length s) w k))

    module _ (k : w ≤ length s) where
      pub number_long : w < length s → 16 ≡ state_refusal (rows_of m) s
      number_long l = sym (rw (le-ltb MOST_ATOMS (length s) h, width_is, le-ltb (length s) w k, lt-ltb w (length s) l))

      module _ (l : length s ≤ w) {b : Bool} (eb : b ≡ some (ltb 1) s) where
        pub number_other : b ≡ true → 10 ≡ state_refusal (rows_of m) s
        number_other e = sym (rw (le-ltb MOST_ATOMS (length s) h, width_is, le-ltb (length s) w k, le-ltb w (length s) l, ← eb, e))

        pub number_bits : b ≡ false → 0 ≡ state_refusal (rows_of m) s
        number_bits e = sym (rw (le-ltb MOST_ATOMS (length s) h, width_is, le-ltb (length s) w k, le-ltb w (length s) l, ← eb, e))

-- a state that nothing is wrong with
sound_bytes : {m : List ℕ} → BookKept m → (s : List ℕ) → state_refusal (rows_of m) s ≡ 0 → Bytes s (width_word m)
sound_bytes {m} book s e =
    let p = well_stated (rows_of m) s e in
    let long : length s ≡ width_word m = p.0 ∙ sym book.width in
    record {
      long = long;
      bits = λ i lt. ltb-false 1 (get_or s i 0) (fails_by (ltb 1 (get_or s i 0)) (λ y. true≢false (sym (some_hit (ltb 1) 0 s i (omega arith) y) ∙ p.1)));
    }

-- there is place for the atoms of a state where the sets were changed
roomy_for : {m m₁ s : List ℕ} {renew : Renew} {st : State} {c : ℕ} → Kept m → Bytes s (width_word m) → Moved m renew st c s m₁ → (length m₁ ≡ SIZE) × (length s ≤ MOST_ATOMS)
roomy_for kept bytes v = (v.long, omega (arith, kept.sound.book.narrow, bytes.long))

-- and a byte for each
enough : {s : List ℕ} {w : ℕ} → Bytes s w → w ≤ length s
enough bytes = let e = bytes.long in omega arith

-- ---- a time call
module _ {m : List ℕ} (kept : Kept m) (t : ℕ) {late : ℕ} (el : late ≡ time_refusal (state_of m).now t) where
  pub time_wrong : (late ≡ 0 → ⊥) → Done (time t) m m late
  unfolding refusal
  time_wrong ne = called_refused kept (sym el) ne

  module _ (in_time : late ≡ 0) where
    pub in_range_lem : t ≤ LAST_TIME
    in_range_lem = (timely (state_of m).now t (sym el ∙ in_time)).1

    time_played : {m' : List ℕ} {r : ℕ} → Advanced m (snap_of t (atoms_of m) ∷ []) m' r → Right m' → Done (time t) m m' r
    unfolding refusal state_of
    time_played a right = called_played kept (sym el ∙ in_time) (ap (λ (bs : List Bool). record { clock = t; atoms = bs } ∷ []) (old_atoms kept.sound)) a right

    module _ {m₁ : List ℕ} {r : ℕ} (tried : Tried m (own_renew (state_of m)) (state_of m) t (atoms_of m) m₁ r) where
      pub time_full : (r ≡ 0 → ⊥) → Done (time t) m m₁ r
      time_full ne = let q = tried_refused tried refl ne in time_played q.0 (rw q.1 (right_now kept))

      -- its atoms stand there already
      stands : r ≡ 0 → Atoms m₁ (atoms_of m) (length (atoms_of m)) m₁
      stands = tried_stands tried kept.sound (old_bytes kept.sound) (old_same kept.sound)

      pub time_due : r ≡ 0 → {first : Bool} → first ≡ eqb (begun_word m) 0 → Due m₁ first
      time_due z ef = due kept in_range_lem (old_bytes kept.sound) (has_room tried z) (tried_moved tried z) (stands z) refl ef

      pub time_done : {m₂ : List ℕ} → r ≡ 0 → Alike m₁ m₂ × Tables m₂ × SameLedger m₁ m₂ × Awaited m₂ → Done (time t) m m₂ 0
      time_done z renewed =
          let a = played kept in_range_lem (old_bytes kept.sound) (has_room tried z) (tried_moved tried z) (stands z) refl refl in
          let q = advanced_renewed kept a (time_due z refl).sound renewed in
          time_played q.0 q.1

-- ---- a state call
module _ {m : List ℕ} (kept : Kept m) (s : List ℕ) {wrong : ℕ} (ew : wrong ≡ state_refusal (rows_of m) s) where
  pub state_wrong : (wrong ≡ 0 → ⊥) → Done (state s) m m wrong
  unfolding refusal
  state_wrong ne = called_refused kept (sym ew) ne

  module _ (right : wrong ≡ 0) where
    new_bytes : Bytes s (width_word m)
    new_bytes = sound_bytes kept.sound.book s (sym ew ∙ right)

    pub state_few : length s ≤ MOST_ATOMS
    state_few = omega (arith, kept.sound.book.narrow, new_bytes.long)

    -- the atoms stand there already
    pub state_stands : AtomsStand m s → Done (state s) m m 0
    unfolding refusal state_of
    state_stands there =
        called_again kept there.begun (state s) (sym ew ∙ right)
        (bits_listed (atom_at m) s (width_word m) new_bytes.long (λ i h. sym (there.same i (omega (arith, new_bytes.long)))))

    module _ {clock : ℕ} (ec : clock ≡ clock_of m) where
      pub state_timely : (Kept m × (clock ≤ LAST_TIME)) × (true ≡ true → (width_word m ≤ length s) × (clock ≡ clock_of m))
      state_timely = ((kept, rw ec kept.sound.clock), λ e. (enough new_bytes, ec))

      state_played : {m' : List ℕ} {r : ℕ} → Advanced m (snap_of clock s ∷ []) m' r → Right m' → Done (state s) m m' r
      unfolding refusal state_of
      state_played a tables =
          called_played kept (sym ew ∙ right) (ap (λ (c : ℕ). snap_of c s ∷ []) ec) a tables

      module _ {m₁ : List ℕ} {r : ℕ} (tried : Tried m (own_renew (state_of m)) (state_of m) clock s m₁ r) where
        pub state_full : (r ≡ 0 → ⊥) → Done (state s) m m₁ r
        state_full ne = let q = tried_refused tried refl ne in state_played q.0 (rw q.1 (right_now kept))

        pub state_roomy : r ≡ 0 → (length m₁ ≡ SIZE) × (length s ≤ MOST_ATOMS)
        state_roomy z = roomy_for kept new_bytes (tried_moved tried z)

        module _ {m₂ : List ℕ} (z : r ≡ 0) (a : Atoms m₁ s (length s) m₂) where
          pub state_due : {first : Bool} → first ≡ eqb (begun_word m) 0 → Due m₂ first
          state_due ef = due kept state_timely.0.1 new_bytes (has_room tried z) (tried_moved tried z) a refl ef

          pub state_done : {m₃ : List ℕ} → Alike m₂ m₃ × Tables m₃ × SameLedger m₂ m₃ × Awaited m₃ → Done (state s) m m₃ 0
          state_done renewed =
              let p = played kept state_timely.0.1 new_bytes (has_room tried z) (tried_moved tried z) a refl refl in
              let q = advanced_renewed kept p (state_due refl).sound renewed in
              state_played q.0 q.1

          -- nothing but values of rows was changed
          pub state_same : OnlyValues m m₁ → Done (state s) m m₂ 0
          state_same only = state_done (renewed_none kept state_timely.0.1 new_bytes (has_room tried z) (tried_moved tried z) a refl only)

-- ---- a stamped call
module _ {m : List ℕ} (kept : Kept m) (t : ℕ) (s : List ℕ) {late : ℕ} (el : late ≡ time_refusal (state_of m).now t) where
  pub stamped_late : (late ≡ 0 → ⊥) → Done (stamped t s) m m late
  unfolding refusal first_of
  stamped_late ne = called_refused kept (rw (← el) (rw (ne_eqb late 0 ne))) ne

  module _ (in_time : late ≡ 0) {wrong : ℕ} (ew : wrong ≡ state_refusal (rows_of m) s) where
    time_fine : time_refusal (state_of m).now t ≡ 0
    time_fine = sym el ∙ in_time

    pub stamped_wrong : (wrong ≡ 0 → ⊥) → Done (stamped t s) m m wrong
    unfolding refusal first_of
    stamped_wrong ne = called_refused kept (rw (eq-eqb (time_refusal (state_of m).now t) 0 time_fine) (sym ew)) ne

    module _ (right : wrong ≡ 0) where
      state_fine : state_refusal (rows_of m) s ≡ 0
      state_fine = sym ew ∙ right

      bytes : Bytes s (width_word m)
      bytes = sound_bytes kept.sound.book s state_fine

      small : t ≤ LAST_TIME
      small = in_range_lem kept t el in_time

      pub stamped_timely : Kept m × (t ≤ LAST_TIME) × (width_word m ≤ length s)
      stamped_timely = (kept, small, enough bytes)

      abbrev snaps : List Snap
      snaps = snap_of t (atoms_of m) ∷ snap_of t s ∷ []

      stamped_played : {m' : List ℕ} {r : ℕ} → Advanced m snaps m' r → Right m' → Done (stamped t s) m m' r
      unfolding refusal first_of state_of
      stamped_played a tables =
          called_played kept (rw (eq-eqb (time_refusal (state_of m).now t) 0 time_fine) state_fine)
          (ap (λ (bs : List Bool). record { clock = t; atoms = bs } ∷ snap_of t s ∷ []) (old_atoms kept.sound)) a tables

      abbrev between : State
      between = time_step m t (atoms_of m)

      own : between.way ≡ (state_of m).way
      own = step_way_by (own_renew (state_of m)) (rows_of m) (state_of m) (snap_of t (atoms_of m))

      leads : crowded between ≡ false → Leads m snaps between t s
      unfolding play
      leads e = rw (e, play)

      none_between : crowded between ≡ true → Advanced m snaps m 11
      unfolding play
      none_between e = record { number = sym (rw (e, play)); state = sym (rw (e, play)); book = refl; turned = λ z. absurd (let e : ◌≡◌ {A = ℕ} 11 0 = z in omega arith); refused = λ ne. refl; ledger = ledger_self m }

      module _ {m₁ : List ℕ} {r : ℕ} (tried : TriedBoth m t (atoms_of m) s m₁ r) where
        pub stamped_full : (r ≡ 0 → ⊥) → Done (stamped t s) m m₁ r
        stamped_full ne =
            ⊎_elim
            (λ (f : crowded between ≡ true). let q = tried.between f in stamped_played (rw (q.0, q.1) (none_between f)) (rw q.1 (right_now kept)))
            (λ (f : crowded between ≡ false). let q = tried_refused (tried.last f) (leads f) ne in stamped_played q.0 (rw q.1 (right_now kept)))
            (either (crowded between))

        module _ (z : r ≡ 0) where
          roomy : crowded between ≡ false
          roomy = fails_by (crowded between) (λ f. let e = (tried.between f).0 in absurd (omega arith))

          last : Tried m (own_renew between) between t s m₁ r
          last = tried.last roomy

          pub stamped_roomy : (length m₁ ≡ SIZE) × (length s ≤ MOST_ATOMS)
          stamped_roomy = roomy_for kept bytes (tried_moved last z)

          module _ {m₂ : List ℕ} (a : Atoms m₁ s (length s) m₂) where
            pub stamped_due : {first : Bool} → first ≡ eqb (begun_word m) 0 → Due m₂ first
            stamped_due ef = due kept small bytes (has_room last z) (tried_moved last z) a own ef

            pub stamped_done : {m₃ : List ℕ} → Alike m₂ m₃ × Tables m₃ × SameLedger m₂ m₃ × Awaited m₃ → Done (stamped t s) m m₃ 0
            stamped_done renewed =
                let p = played kept small bytes (has_room last z) (tried_moved last z) a own (leads roomy) in
                let q = advanced_renewed kept p (stamped_due refl).sound renewed in
                stamped_played q.0 q.1

-- ---- and then noted
pub done_noted : {k : Call} {m m₁ m₂ : List ℕ} {r : ℕ} → Kept m → Done k m m₁ r → CallNoted m₁ r m₂ → Called k m m₂ r
done_noted {k} {m} {m₁} {m₂} {r} kept d n =
    let o : Outcome = call (book_of m).rows (state_of m) k in
    let left : record { number = r; state = state_of m₁ } ≡ o = ap₂ (λ (x : ℕ) (st : State). record { number = x; state = st }) d.number d.state in
    record {
      number = d.number;
      state = n.state ∙ d.state;
      book = n.book ∙ d.book;
      ledger = n.ledger ∙ ap₂ (λ (b : Book) (x : Outcome). next b x (ledger_of m₁)) d.book left ∙ ap (next (book_of m) o) (ledger_same (same_count kept.sound.book d.kept.sound.book d.book) d.ledger);
      turned = λ z. turned_alike (d.turned z) d.kept.sound n.alike;
      refused = λ ne. n.refused ne ∙ ap numbered (d.refused ne);
      kept = n.kept;
    }
