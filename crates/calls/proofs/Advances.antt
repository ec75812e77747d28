-- A planned call carried out: the memory that it leaves holds the definitions' next state, and its tables what is due. Assumes nothing.
use Prim.Native.Nat.{ℕ, ◌+◌, ◌*◌, ◌-◌, ◌^◌, ◌≤◌, ◌<◌, min}
use mathlib.Core.Path.{◌≡◌, refl, sym, ap, ap₂, subst, ◌∙◌}
use mathlib.Core.Logic.{⊎_elim}
use mathlib.Core.Bool.{Bool, true, false, cond, true≢false}
use mathlib.Core.List.{List, [], ◌∷◌, map}
use native.Mathlib.Omega.{arith}
use lib.ListN.{length, get_or}
use lib.Seq.{ext_get_or}
use lib.Dec.{eqb}
use borrow.Author.Tests.{eqb-false}
use Rattle.numbers.specs.Limits.{MAX, LAST_TIME}
use Rattle.lists.specs.Lists.{listed, filled_from}
use Rattle.lists.proofs.Tests.{either, lt_or_ge, fails_by}
use Rattle.lists.proofs.Listed.{listed_length, listed_at, listed_agree}
use Rattle.lists.proofs.Parts.{word_at, part_same}
use Rattle.lists.proofs.Filled.{filled_from_length, filled_from_at, filled_from_before, filled_from_after}
use Rattle.numset.specs.Runs.{Runs, SET_WORDS, fits}
use Rattle.ring.specs.Ring.{turn_of, ringed, Rolling, rolled, turn_after}
use Rattle.ring.proofs.Rolls.{rolled_turn, ringed_rolled, rolling}
use Rattle.ring.proofs.Turns.{turn_small}
use Rattle.pmtl.specs.declared.Answer.{Answer}
use Rattle.pmtl.specs.declared.Answer.TheVariants.{Open}
use Rattle.pmtl.specs.Answer.{bit_of, digit_of}
use Rattle.pmtl.specs.Book.{Range, Rows, start, stop}
use Rattle.pmtl.specs.Sets.{Renew, Way}
use Rattle.pmtl.specs.Monitor.{Snap, State, set_at, most_runs, step_by, value}
use Rattle.pmtl.specs.Calls.{crowded, Outcome, play}
use Rattle.pmtl.specs.Quiet.{quiet_until}
use Rattle.pmtl.proofs.Quiet.{quiet_same}
use Rattle.pmtl.proofs.Answers.{step_sets_by, step_now_by, step_begun_by, step_way_by}
use Rattle.memory.specs.Layout.{ROWS, ROW, ATOMS, OWNERS, SET, VALUES, TOLD, EARLY, SETTLED, MOVES, LOWEST, FULLEST, UNTIL}
use Rattle.memory.specs.Memory.{begun_word, clock_of, width_word, temporals, row_count, kind_at, slot_at, owner_at, set_start, slot_words, property_row, value_at, told_at, rows_of, way_of, set_of, state_of, is_one, range_at}
use Rattle.memory.specs.Tables.{standing, value_of, property_count, Valued, Told, Answered, Moving, Founded, Counts, Unused, Tables}
use Rattle.memory.specs.Kept.{Sound, Awaited, Kept}
use Rattle.memory.specs.Alike.{Alike, SameLedger}
use Rattle.memory.proofs.Rows.{rows_length}
use Rattle.memory.proofs.Ledger.{ledger_self}
use Rattle.memory.proofs.Alike.{alike_self, alike_on, alike_filled, alike_sound, alike_set, alike_rows, alike_state}
use Rattle.memory.proofs.Stepped.{Stepped, kept_step, step_book, rows_of_same, kind_same, slot_same, width_same, way_same, temporals_same, assumes_same, guarantees_same, property_same}
use Rattle.row_answers.specs.Told.{early_told}
use Rattle.row_answers.proofs.Told.{told_early, told_settled, early_same, settled_same}
use Rattle.tables.specs.Puts.{values_put, told_put, count_put, news_from, news_end, early_put, settled_now, settled_put, early_renewed, settled_renewed}
use Rattle.tables.proofs.Puts.{few_properties, answer_same, told_told, told_still, told_and_asked, count_alike, count_ledger, count_counts, count_valued, count_told, count_moving, count_founded, count_answered, count_unused}
use Rattle.tables.proofs.Reach.{news_asked}
use Rattle.set_change.specs.Change.{changed, counted_from}
use Rattle.set_change.proofs.Changes.{changed_under}
use Rattle.planning.specs.Plan.{snap_of, step_of, own_renew, renew_over, counts_from, ahead, set_after, value_after, Planned}
use Rattle.calls.specs.Called.{Turned}
use Rattle.calls.specs.Private.{OnlyValues, Bytes, time_step, clocked, Written, Atoms, Moved, Tried, TriedBoth, Fitting, Asked, Due, Advanced}
use Rattle.planning.proofs.Rules.{set_of_slot, set_of_none}
use Rattle.planning.proofs.Ahead.{ahead_one}
use Rattle.planning.proofs.Plans.{set_none, fits_each}
use Rattle.calls.proofs.Commits.{room_is}
use Rattle.planning.proofs.Atoms.{bits_listed}
use Rattle.calls.proofs.Heads.{clocked_length, clocked_begun, clocked_clock, clocked_other, atoms_stand}

-- the end of a range is a time or MAX
stop_fits : (g : Range) (c : ℕ) → c ≤ LAST_TIME → ((g.upper ≡ MAX → ⊥) → g.upper ≤ LAST_TIME) → stop g c + 1 < 2 ^ 64 + 1
unfolding stop
stop_fits g c h b =
    ⊎_elim
    (λ (e : eqb g.upper MAX ≡ true). rw e (omega arith))
    (λ (e : eqb g.upper MAX ≡ false). let q = b (eqb-false g.upper MAX e) in rw e (omega arith))
    (either (eqb g.upper MAX))

-- a state is its parts
state_is : (st : State) {way : Way} {begun : Bool} {now : Snap} {sets : List Runs} → st.way ≡ way → st.begun ≡ begun → st.now ≡ now → st.sets ≡ sets
    → record { way = way; begun = begun; now = now; sets = sets } ≡ st
state_is st d e f g = λ i. record { way = sym d i; begun = sym e i; now = sym f i; sets = sym g i }

-- ---- the values worked out anew from what did not change are the old ones
restored_from : {m mid : List ℕ} → Kept m → Alike m mid → ((i : ℕ) → VALUES + row_count m ≤ i → get_or mid i 0 ≡ get_or m i 0) → values_put mid ≡ m
restored_from {m} {mid} kept alike beyond = ext_get_or 0 (values_put mid) m same_length (λ i h. word i)
  where
    count : row_count mid ≡ row_count m
    count = alike.below 0 (omega arith)

    new : ℕ → ℕ
    new r = bit_of (value_of mid r)

    same_length : length (values_put mid) ≡ length m
    same_length = filled_from_length VALUES new mid (row_count mid) ∙ alike.long

    word : (i : ℕ) → get_or (values_put mid) i 0 ≡ get_or m i 0
    word i =
        ⊎_elim
        (λ (p : i < VALUES). filled_from_before VALUES new mid 0 (row_count mid) i p ∙ alike.below i p)
        (λ (p : VALUES ≤ i).
        ⊎_elim
        (λ (q : i - VALUES < row_count m).
        let r : ℕ = i - VALUES in
        let long = kept.sound.book.long in
        let rows = kept.sound.book.few in
        let l = alike.long in
        word_at (values_put mid) i (VALUES + r) (omega arith)
        ∙ filled_from_at VALUES new mid 0 (row_count mid) r (rw count q) (omega (arith, count))
        ∙ ap bit_of (answer_same kept.sound alike value r) ∙ sym (kept.tables.valued.right r q)
        ∙ word_at m (VALUES + r) i (omega arith))
        (λ (q : row_count m ≤ i - VALUES).
        filled_from_after VALUES new mid 0 (row_count mid) i (omega (arith, count)) ∙ beyond i (omega arith))
        (lt_or_ge (i - VALUES) (row_count m)))
        (lt_or_ge i VALUES)

pub restored : {m m₁ : List ℕ} → Kept m → (f : ℕ → ℕ) (n : ℕ) → n ≤ row_count m → m₁ ≡ filled_from VALUES f m n → values_put m₁ ≡ m
restored {m} kept f n few e = rw e (restored_from kept (alike_filled m VALUES f n (omega arith)) (λ i h. filled_from_after VALUES f m 0 n i (omega arith)))

pub tried_full : {m : List ℕ} {renew : Renew} {st : State} {c : ℕ} {atoms m₁ m₂ modes : List ℕ} → Kept m → Planned m renew st c atoms m₁ false modes → m₂ ≡ values_put m₁ → Tried m renew st c atoms m₂ 11
tried_full kept p e =
    record { room = λ f. absurd (true≢false (sym p.fits ∙ f)); full = λ f. (refl, e ∙ restored kept _ p.tried p.few p.values) }

-- the memory that the plan leaves is sound, whether there is room or not
pub planned_sound : {m : List ℕ} {renew : Renew} {st : State} {c : ℕ} {atoms m₁ modes : List ℕ} {room : Bool} → Sound m → Planned m renew st c atoms m₁ room modes → Sound m₁
planned_sound {m} {renew} {st} {c} {atoms} sound p = rw p.values (alike_sound sound (alike_filled m VALUES (value_after m renew st c atoms) p.tried (omega arith)))

-- ---- a plan carried out
module _ {m : List ℕ} {renew : Renew} {st : State} {c : ℕ} {atoms m₁ modes : List ℕ} (sound : Sound m) (small : c ≤ LAST_TIME) (planned : Planned m renew st c atoms m₁ true modes) where
  roomy : crowded (step_of m renew st c atoms) ≡ false
  roomy = planned.fits

  values_all : m₁ ≡ filled_from VALUES (value_after m renew st c atoms) m (row_count m)
  values_all = planned.values ∙ ap (filled_from VALUES (value_after m renew st c atoms) m) (planned.all refl)

  alike : Alike m m₁
  alike = rw values_all (alike_filled m VALUES (value_after m renew st c atoms) (row_count m) (omega arith))

  sound₁ : Sound m₁
  sound₁ = alike_sound sound alike

  slots_same : temporals m₁ ≡ temporals m
  slots_same = alike.below 4 (omega arith)

  after_same : (mode j : ℕ) → j < temporals m → set_after m₁ c mode j ≡ set_after m c mode j
  after_same mode j h =
      let few = sound.book.temporal_few in
      let rows = sound.book.few in
      let owned = sound.book.owned j h in
      let o : owner_at m₁ j ≡ owner_at m j = alike.below (OWNERS + j) (omega arith) in
      let range : range_at m₁ (owner_at m j) ≡ range_at m (owner_at m j) =
      ap₂ (λ (l u : ℕ). record { lower = l; upper = u }) (alike.below (ROWS + ROW * owner_at m j + 2) (omega arith)) (alike.below (ROWS + ROW * owner_at m j + 3) (omega arith)) in
      ap₂ (λ (g : Range) (ws : List ℕ). changed mode (start g (counts_from m₁ c mode)) (stop g c) c (ringed ws)) (ap (range_at m₁) o ∙ range) (alike_set sound alike j (omega arith))
      ∙ ap (λ (before : ℕ). changed mode (start (range_at m (owner_at m j)) (counted_from (min (before + 1) c) c mode)) (stop (range_at m (owner_at m j)) c) c (ringed (slot_words m j))) (alike.below 2 (omega arith))

  pub set_planned : (j : ℕ) → j < temporals m → set_after m₁ c (get_or modes j 0) j ≡ set_at (step_of m renew st c atoms) (owner_at m j)
  set_planned j h = after_same (get_or modes j 0) j h ∙ planned.sets refl j h

  pub fitting : Fitting m₁ c modes
  fitting =
      record {
        timely = record { sound = sound₁; clock = small };
        room = rw slots_same (λ j h. ap (λ (s : Runs). fits SET_WORDS s) (set_planned j h) ∙ fits_each m sound.book renew st c atoms roomy j h);
      }

  abbrev after : ℕ → Runs
  after j = set_after m₁ c (get_or modes j 0) j

  module _ {m₂ : List ℕ} (w : Written m₁ c (λ j. set_after m₁ c (get_or modes j 0) j) (temporals m₁) m₂) where
    clocked_set : (j : ℕ) → j < 32 → slot_words (clocked m₂ c) j ≡ slot_words m₂ j
    clocked_set j lt =
        part_same (set_start j) SET m₂ (clocked m₂ c) (let l = w.long in omega arith) (clocked_length m₂ c) (λ i p. clocked_other m₂ c (set_start j + i) (omega arith) (omega arith))

    set_new : (j : ℕ) → j < temporals m → slot_words (clocked m₂ c) j ≡ rolled (turn_after c (slot_words m₁ j)) (after j)
    set_new j lt = let f = sound.book.temporal_few in clocked_set j (omega arith) ∙ w.new j (rw slots_same lt)

    after_good : (j : ℕ) → j < temporals m → Rolling (rolled (turn_after c (slot_words m₁ j)) (after j))
    after_good j lt =
        let f = sound.book.temporal_few in
        let b = sound₁.book in
        let l : j < temporals m₁ = rw slots_same lt in
        let g : Range = range_at m₁ (owner_at m₁ j) in
        rolling (turn_after c (slot_words m₁ j)) (after j) (turn_small (slot_words m₁ j) c) (room_is (after j) (fitting.room j l))
        (changed_under (2 ^ 64 + 1) (get_or modes j 0) (start g (counts_from m₁ c (get_or modes j 0))) (stop g c) c (ringed (slot_words m₁ j)) (sound₁.sets j (omega arith)).good.apart
        (stop_fits g c small (b.rows (owner_at m₁ j) (b.owned j l)).upper))

    value_word : (r : ℕ) → r < row_count m → value_at (clocked m₂ c) r ≡ value_after m renew st c atoms r
    value_word r h =
        let long = sound.book.long in
        let few = sound.book.few in
        clocked_other m₂ c (VALUES + r) (omega arith) (omega arith) ∙ w.beyond (VALUES + r) (omega arith)
        ∙ ap (λ (x : List ℕ). value_at x r) values_all ∙ filled_from_at VALUES (value_after m renew st c atoms) m 0 (row_count m) r h (omega arith)

    moved : Moved m renew st c atoms (clocked m₂ c)
    moved =
        record {
          long = clocked_length m₂ c ∙ w.long;
          begun = clocked_begun m₂ c w.long;
          clock = clocked_clock m₂ c w.long;
          below = λ i p q lt. clocked_other m₂ c i p q ∙ w.below i lt ∙ alike.below i (omega arith);
          new = λ j lt. let f = sound.book.temporal_few in set_new j lt ∙ ap₂ (λ (w : List ℕ) (s : Runs). rolled (turn_after c w) s) (alike_set sound alike j (omega arith)) (set_planned j lt);
          good = λ j lt. rw (set_new j lt) (after_good j lt);
          old = λ j p q. clocked_set j q ∙ w.old j (rw slots_same p) q ∙ alike_set sound alike j q;
          values = value_word;
          beyond = λ i p.
              clocked_other m₂ c i (omega arith) (omega arith) ∙ w.beyond i (omega arith)
              ∙ ap (λ (x : List ℕ). get_or x i 0) values_all ∙ filled_from_after VALUES (value_after m renew st c atoms) m 0 (row_count m) i p;
        }

    pub tried_room : {m₃ : List ℕ} → m₃ ≡ clocked m₂ c → Tried m renew st c atoms m₃ 0
    tried_room e = record { room = λ f. (refl, rw e moved); full = λ f. absurd (true≢false (sym f ∙ roomy)) }

-- ---- the snapshots of a call, up to the last, which is made from the state st
abbrev pub Leads : List ℕ → List Snap → State → ℕ → List ℕ → Type 0
Leads m ns st c atoms = play (rows_of m) (state_of m) (state_of m) ns ≡ play (rows_of m) (state_of m) st (snap_of c atoms ∷ [])

one_played : (m : List ℕ) (st : State) (c : ℕ) (atoms : List ℕ) → crowded (step_of m (own_renew st) st c atoms) ≡ false
    → play (rows_of m) (state_of m) st (snap_of c atoms ∷ []) ≡ record { number = 0; state = step_of m (own_renew st) st c atoms }
unfolding play
one_played m st c atoms e = rw (e, play)

none_played : (m : List ℕ) (st : State) (c : ℕ) (atoms : List ℕ) → crowded (step_of m (own_renew st) st c atoms) ≡ true
    → play (rows_of m) (state_of m) st (snap_of c atoms ∷ []) ≡ record { number = 11; state = state_of m }
unfolding play
none_played m st c atoms e = rw (e, play)

-- ---- once the atoms are set, too
module _
    {m : List ℕ} {st : State} {c : ℕ} {atoms m₁ m₂ : List ℕ} (kept : Kept m) (small : c ≤ LAST_TIME) (bytes : Bytes atoms (width_word m)) (roomy : crowded (step_of m (own_renew st) st c atoms) ≡ false) (v : Moved m (own_renew st) st c atoms m₁)
    (a : Atoms m₁ atoms (length atoms) m₂) (own : st.way ≡ (state_of m).way)
  where
    begun_now : begun_word m₂ ≡ 1
    begun_now = a.below 1 (omega arith) ∙ v.begun

    clock_now : clock_of m₂ ≡ c
    clock_now = a.below 2 (omega arith) ∙ v.clock

    atoms_set : (j : ℕ) → j < 32 → slot_words m₂ j ≡ slot_words m₁ j
    atoms_set j lt =
        let n = kept.sound.book.narrow in
        part_same (set_start j) SET m₁ m₂ (let l = v.long in omega arith) (a.long ∙ sym v.long) (λ i p. a.above (set_start j + i) (omega arith))

    stepped : Stepped m m₂
    stepped =
        let n = kept.sound.book.narrow in
        let f = kept.sound.book.temporal_few in
        record {
          long = a.long ∙ sym kept.sound.book.long;
          rows_same = a.below 0 (omega arith) ∙ v.below 0 (omega arith) (omega arith) (omega arith);
          book_same = λ i p q. a.below i q ∙ v.below i (omega arith) (omega arith) (omega arith);
          atoms_same = λ i p q. a.above (ATOMS + i) (omega arith) ∙ v.below (ATOMS + i) (omega arith) (omega arith) (omega arith);
          owners_same = λ j p. a.above (OWNERS + j) (omega arith) ∙ v.below (OWNERS + j) (omega arith) (omega arith) (omega arith);
          sets_same = λ j p q. atoms_set j q ∙ v.old j p q;
          begun = rw begun_now (omega arith);
          clock = rw clock_now small;
          atoms = λ i p. rw (a.new i (omega arith)) (bytes.bits i p);
          sets = λ j p. rw (atoms_set j (omega arith)) (v.good j p);
        }

    atoms_are : listed (λ i. is_one (get_or m₂ (ATOMS + i) 0)) (width_word m₂) ≡ map is_one atoms
    atoms_are =
        sym (bits_listed (λ i. get_or m₂ (ATOMS + i) 0) atoms (width_word m₂) (bytes.long ∙ sym (width_same m m₂ kept.sound stepped))
        (λ i lt. sym (a.new i (let e = width_same m m₂ kept.sound stepped in let n = bytes.long in omega arith))))

    set_is : (r : ℕ) → r < row_count m → set_of m₂ r ≡ set_at (step_of m (own_renew st) st c atoms) r
    set_is r p =
        let book = kept.sound.book in
        let small : r < 128 = let f = book.few in omega arith in
        let ek = kind_same m m₂ kept.sound stepped r small in
        let es = slot_same m m₂ kept.sound stepped r small in
        ⊎_elim
        (λ (k : kind_at m r < 7). set_of_none m₂ r (rw ek k) ∙ sym (set_none m book (own_renew st) st c atoms r p k))
        (λ (k : 7 ≤ kind_at m r).
        let row = book.rows r p in
        let j : ℕ = slot_at m r in
        let lt : slot_at m r < temporals m = row.slot k in
        set_of_slot m₂ r (rw ek k)
        ∙ ap (λ (i : ℕ). ringed (slot_words m₂ i)) es
        ∙ ap (λ (w : List ℕ). ringed w) (atoms_set j (let f = kept.sound.book.temporal_few in omega arith) ∙ v.new j lt)
        ∙ ringed_rolled (turn_after c (slot_words m j)) (set_at (step_of m (own_renew st) st c atoms) (owner_at m j)) (turn_small (slot_words m j) c)
        (room_is (set_at (step_of m (own_renew st) st c atoms) (owner_at m j)) (fits_each m book (own_renew st) st c atoms roomy j lt))
        ∙ ap (set_at (step_of m (own_renew st) st c atoms)) (row.owner k))
        (lt_or_ge (kind_at m r) 7)

    sets_are : listed (set_of m₂) (row_count m₂) ≡ (step_of m (own_renew st) st c atoms).sets
    sets_are =
        let long : length (step_of m (own_renew st) st c atoms).sets ≡ row_count m = step_sets_by (own_renew st) (rows_of m) st (snap_of c atoms) ∙ rows_length m in
        ap (listed (set_of m₂)) stepped.rows_same
        ∙ ext_get_or [] (listed (set_of m₂) (row_count m)) (step_of m (own_renew st) st c atoms).sets (listed_length (set_of m₂) (row_count m) ∙ sym long)
        (λ r lt.
        let p : r < row_count m = omega (arith, listed_length (set_of m₂) (row_count m)) in
        listed_at (set_of m₂) [] (row_count m) r p ∙ set_is r p)

    way_now : way_of m₂ ≡ way_of m
    unfolding way_of
    way_now = rw (way_same m m₂ kept.sound stepped)

    -- the memory holds the next state
    state_after : state_of m₂ ≡ step_of m (own_renew st) st c atoms
    unfolding state_of
    state_after =
        state_is (step_of m (own_renew st) st c atoms)
        (step_way_by (own_renew st) (rows_of m) st (snap_of c atoms) ∙ own ∙ sym way_now)
        (step_begun_by (own_renew st) (rows_of m) st (snap_of c atoms) ∙ sym (ap is_one begun_now))
        (step_now_by (own_renew st) (rows_of m) st (snap_of c atoms) ∙ sym (ap₂ (λ (t : ℕ) (bs : List Bool). record { clock = t; atoms = bs }) clock_now atoms_are))
        (sym sets_are)

    beyond_now : (i : ℕ) → VALUES + row_count m ≤ i → get_or m₂ i 0 ≡ get_or m i 0
    beyond_now i h =
        let n = kept.sound.book.narrow in
        a.above i (omega arith) ∙ v.beyond i h

    -- each ring goes on by what lapsed
    turned_now : Turned m m₂
    turned_now = record {
      turns = λ j h₂.
          let f = kept.sound.book.temporal_few in
          let h : j < temporals m = let e = temporals_same m m₂ kept.sound stepped in omega arith in
          ap (λ (w : List ℕ). turn_of w) (atoms_set j (omega arith) ∙ v.new j h) ∙ rolled_turn (turn_after c (slot_words m j)) (set_at (step_of m (own_renew st) st c atoms) (owner_at m j))
          ∙ ap (λ (x : ℕ). turn_after x (slot_words m j)) (sym clock_now);
    }

    pub played : {ns : List Snap} → Leads m ns st c atoms → Advanced m ns m₂ 0
    played leads =
        let e = leads ∙ one_played m st c atoms roomy in
        record {
          number = sym (ap (λ (o : Outcome). o.number) e);
          state = state_after ∙ sym (ap (λ (o : Outcome). o.state) e);
          book = step_book m m₂ kept.sound stepped;
          turned = λ z. turned_now;
          refused = λ ne. absurd (ne refl);
          ledger = record { words = λ i h. let rows = kept.sound.book.few in beyond_now i (omega arith) };
        }

    -- and what stands in its tables
    sound_now : Sound m₂
    sound_now = kept_step m m₂ kept.sound stepped

    rows_now : row_count m₂ ≡ row_count m
    rows_now = stepped.rows_same

    valued_now : Valued m₂
    valued_now =
        let n = kept.sound.book.narrow in
        record {
          right = rw rows_now (λ r h.
              a.above (VALUES + r) (omega arith) ∙ v.values r h
              ∙ ap₂ (λ (b : Rows) (st : State). bit_of (value b st r)) (sym (rows_of_same m m₂ kept.sound stepped)) (sym state_after));
        }

    count_now : property_count m₂ ≡ property_count m
    count_now = ap₂ (λ (x y : ℕ). x + y) (assumes_same m m₂ kept.sound stepped) (guarantees_same m m₂ kept.sound stepped)

    unused_now : Unused m₂
    unused_now =
        let rows = kept.sound.book.few in
        let u = kept.tables.unused in
        record {
          values = rw rows_now (λ r p q. beyond_now (VALUES + r) (omega arith) ∙ u.values r p q);
          told = rw (temporals_same m m₂ kept.sound stepped) (λ j p q. beyond_now (TOLD + j) (omega arith) ∙ u.told j p q);
          early = rw count_now (λ i p q. beyond_now (EARLY + i) (omega arith) ∙ u.early i p q);
          settled = rw count_now (λ i p q. beyond_now (SETTLED + i) (omega arith) ∙ u.settled i p q);
          moves = rw rows_now (λ r p q. beyond_now (MOVES + r) (omega arith) ∙ u.moves r p q);
          lowest = rw rows_now (λ r p q. beyond_now (LOWEST + r) (omega arith) ∙ u.lowest r p q);
        }

    told_now : (o : ℕ) → o < row_count m → 7 ≤ kind_at m o → told_at m₂ (slot_at m₂ o) ≡ told_at m (slot_at m o)
    told_now o h k =
        let rows = kept.sound.book.few in
        ap (told_at m₂) (slot_same m m₂ kept.sound stepped o (omega arith)) ∙ beyond_now (TOLD + slot_at m o) (omega arith)

    property_now : (i : ℕ) → i < property_count m → property_row m₂ i ≡ property_row m i
    property_now i h = let f = few_properties kept.sound in property_same m m₂ kept.sound stepped i (omega arith)

    asked_now : {first : Bool} → first ≡ eqb (begun_word m) 0 → Asked m₂ first
    asked_now ef =
        let rows = kept.sound.book.few in
        let same_rows = rows_of_same m m₂ kept.sound stepped in
        record {
          early = rw count_now (λ i h.
              beyond_now (EARLY + i) (omega arith) ∙ kept.tables.answered.early i h
              ∙ ap digit_of (sym (told_early m kept.sound kept.tables.told.right (property_row m i)) ∙ sym (early_same m m₂ same_rows told_now (property_row m i)) ∙ ap (early_told m₂) (sym (property_now i h))));
          settled = λ e.
              let one : begun_word m ≡ 1 = let not-0 = eqb-false (begun_word m) 0 (sym ef ∙ e) in let most = kept.sound.begun in omega arith in
              rw count_now (λ i h.
              beyond_now (SETTLED + i) (omega arith) ∙ kept.tables.answered.settled i h
              ∙ ap digit_of (sym (told_settled m kept.sound kept.tables.told.right (property_row m i))
              ∙ ap₂ (λ (w : ℕ) (x : Answer). cond (is_one w) x Open) (one ∙ sym begun_now) (sym (settled_same m m₂ same_rows told_now (property_row m i)))
              ∙ ap (settled_now m₂) (sym (property_now i h))));
        }

    moving_now : Moving m₂
    moving_now =
        let rows = kept.sound.book.few in
        record { right = rw (rows_now, rows_of_same m m₂ kept.sound stepped) (λ r h. beyond_now (MOVES + r) (omega arith) ∙ kept.tables.moving.right r h) }

    founded_now : Founded m₂
    founded_now =
        let rows = kept.sound.book.few in
        record { right = rw (rows_now, rows_of_same m m₂ kept.sound stepped) (λ r h. beyond_now (LOWEST + r) (omega arith) ∙ kept.tables.founded.right r h) }

    pub due : {first : Bool} → first ≡ eqb (begun_word m) 0 → Due m₂ first
    due ef = record { sound = sound_now; valued = valued_now; moving = moving_now; founded = founded_now; unused = unused_now; asked = asked_now ef }

    -- ---- nothing but values of rows was changed by the plan: what is told, the digits, the count and the time up to which nothing moves are right
    module _ (only : OnlyValues m m₁) where
      clock_stays : clock_of m₂ ≡ clock_of m
      clock_stays = a.below 2 (omega arith) ∙ only.alike.below 2 (omega arith)

      set_stays : (j : ℕ) → j < 32 → slot_words m₂ j ≡ slot_words m j
      set_stays j h = atoms_set j h ∙ alike_set kept.sound only.alike j h

      set_same : (r : ℕ) → r < row_count m → set_of m₂ r ≡ set_of m r
      set_same r p =
          let few = kept.sound.book.few in
          let slots = kept.sound.book.temporal_few in
          let ek = kind_same m m₂ kept.sound stepped r (omega arith) in
          ⊎_elim
          (λ (k : kind_at m r < 7). set_of_none m₂ r (rw ek k) ∙ sym (set_of_none m r k))
          (λ (k : 7 ≤ kind_at m r).
          let inside = (kept.sound.book.rows r p).slot k in
          set_of_slot m₂ r (rw ek k)
          ∙ ap (λ (j : ℕ). ringed (slot_words m₂ j)) (slot_same m m₂ kept.sound stepped r (omega arith))
          ∙ ap (λ (w : List ℕ). ringed w) (set_stays (slot_at m r) (omega arith)) ∙ sym (set_of_slot m r k))
          (lt_or_ge (kind_at m r) 7)

      sets_same : (state_of m₂).sets ≡ (state_of m).sets
      unfolding state_of
      sets_same = ap (listed (set_of m₂)) rows_now ∙ listed_agree (set_of m₂) (set_of m) (row_count m) set_same

      told₂ : Told m₂
      told₂ =
          let few = kept.sound.book.few in
          let slots = kept.sound.book.temporal_few in
          record {
            right = rw (temporals_same m m₂ kept.sound stepped) (λ j h.
                beyond_now (TOLD + j) (omega arith) ∙ kept.tables.told.right j h
                ∙ sym (ap₂ (λ (x : ℕ) (ws : List ℕ). standing x (ringed ws)) clock_stays (set_stays j (omega arith))));
          }

      counts₂ : Counts m₂
      counts₂ =
          let few = kept.sound.book.few in
          record { right = beyond_now FULLEST (omega arith) ∙ kept.tables.counts.right ∙ sym (ap most_runs sets_same) }

      awaited₂ : Awaited m₂
      unfolding state_of
      awaited₂ =
          let few = kept.sound.book.few in
          record {
            right =
                beyond_now UNTIL (omega arith) ∙ kept.awaited.right ∙ ap (λ (b : Rows). quiet_until b (state_of m)) (sym (rows_of_same m m₂ kept.sound stepped))
                ∙ quiet_same (rows_of m₂) (state_of m) (state_of m₂) (sym clock_stays) (sym sets_same);
          }

      pub renewed_none : Alike m₂ m₂ × Tables m₂ × SameLedger m₂ m₂ × Awaited m₂
      renewed_none =
          let d = due {first = false} (sym (ap (λ (w : ℕ). eqb w 0) only.begun)) in (
            alike_self m₂,
            record {
              valued = d.valued;
              told = told₂;
              answered = record {
                early = λ i h. d.asked.early i h ∙ ap digit_of (told_early m₂ d.sound told₂.right (property_row m₂ i));
                settled = λ i h. d.asked.settled refl i h ∙ ap digit_of (told_settled m₂ d.sound told₂.right (property_row m₂ i));
              };
              moving = d.moving;
              founded = d.founded;
              counts = counts₂;
              unused = d.unused;
            },
            ledger_self m₂,
            awaited₂,
          )

unmoved : {m : List ℕ} (st : State) (c : ℕ) (atoms : List ℕ) {ns : List Snap} → Leads m ns st c atoms → crowded (step_of m (own_renew st) st c atoms) ≡ true → Advanced m ns m 11
unmoved {m} st c atoms leads e =
    let q = leads ∙ none_played m st c atoms e in
    record { number = sym (ap (λ (o : Outcome). o.number) q); state = sym (ap (λ (o : Outcome). o.state) q); book = refl; turned = λ z. absurd (let e : ◌≡◌ {A = ℕ} 11 0 = z in omega arith); refused = λ ne. refl; ledger = ledger_self m }

-- ---- a call that was tried
module _ {m : List ℕ} {st : State} {c : ℕ} {atoms m₁ : List ℕ} {r : ℕ} (tried : Tried m (own_renew st) st c atoms m₁ r) where
  pub has_room : r ≡ 0 → crowded (step_of m (own_renew st) st c atoms) ≡ false
  has_room z = fails_by (crowded (step_of m (own_renew st) st c atoms)) (λ f. let e = (tried.full f).0 in absurd (omega arith))

  pub tried_moved : r ≡ 0 → Moved m (own_renew st) st c atoms m₁
  tried_moved z = (tried.room (has_room z)).1

  pub tried_refused : {ns : List Snap} → Leads m ns st c atoms → (r ≡ 0 → ⊥) → Advanced m ns m₁ r × (m₁ ≡ m)
  tried_refused leads ne =
      ⊎_elim
      (λ (f : crowded (step_of m (own_renew st) st c atoms) ≡ true). let q = tried.full f in (rw (q.0, q.1) (unmoved st c atoms leads f), q.1))
      (λ (f : crowded (step_of m (own_renew st) st c atoms) ≡ false). absurd (ne (tried.room f).0))
      (either (crowded (step_of m (own_renew st) st c atoms)))

  -- its atoms stand there already
  pub tried_stands : Sound m → Bytes atoms (width_word m) → ((i : ℕ) → i < width_word m → get_or m (ATOMS + i) 0 ≡ get_or atoms i 0) → r ≡ 0 → Atoms m₁ atoms (length atoms) m₁
  tried_stands sound bytes same z =
      let v = tried_moved z in
      let e = bytes.long in
      let n = sound.book.narrow in
      atoms_stand v.long (λ i lt. v.below (ATOMS + i) (omega arith) (omega arith) (omega arith) ∙ same i (omega arith))

-- ---- what is due, once it was told and asked
module _ {m : List ℕ} {first : Bool} (due : Due m first) where
  -- at the first accepted call, after which every property is asked
  pub renewed_asked : {m₁ m₂ : List ℕ} → m₁ ≡ count_put (told_put m) → m₂ ≡ settled_put (early_put m₁) → Alike m m₂ × Tables m₂ × SameLedger m m₂
  renewed_asked e₁ e₂ = told_and_asked due.sound due.valued due.moving due.founded due.unused (e₂ ∙ ap (λ (x : List ℕ). settled_put (early_put x)) e₁)

  -- something new was told: the digits of the properties above it are asked for, and the others stand there
  pub renewed_above : first ≡ false → {m₁ m₂ : List ℕ} {from up_to : ℕ} → m₁ ≡ count_put (told_put m) → from ≡ news_from m (temporals m) → up_to ≡ news_end m (temporals m)
      → m₂ ≡ settled_renewed (early_renewed m₁ from up_to) from up_to → Alike m m₂ × Tables m₂ × SameLedger m m₂
  renewed_above not_first {m₁} {m₂} {from} {up_to} e₁ ef eu e₂ =
      let asked = news_asked due.sound due.founded due.asked.early (due.asked.settled not_first) in
      let all : m₂ ≡ settled_put (early_put (count_put (told_put m))) = rw (e₂, e₁, ef, eu) asked in
      told_and_asked due.sound due.valued due.moving due.founded due.unused all

  -- nothing new but the count: the digits are those that stand there
  pub renewed_still : {m₁ : List ℕ} → m₁ ≡ count_put (told_put m) → news_end m (temporals m) ≡ 0 → first ≡ false → Alike m m₁ × Tables m₁ × SameLedger m m₁
  renewed_still e₁ none not_first =
      let still = told_still m (temporals m) none in
      let sound = due.sound in
      let told : Told m = subst Told still (told_told sound) in
      let answered : Answered m = record {
        early = λ i h. due.asked.early i h ∙ ap digit_of (told_early m sound told.right (property_row m i));
        settled = λ i h. due.asked.settled not_first i h ∙ ap digit_of (told_settled m sound told.right (property_row m i));
      } in
      rw (e₁ ∙ ap count_put still) (
        count_alike sound,
        record {
          valued = count_valued sound due.valued;
          told = count_told sound told;
          answered = count_answered sound answered;
          moving = count_moving sound due.moving;
          founded = count_founded sound due.founded;
          counts = count_counts sound;
          unused = count_unused sound due.unused;
        },
        count_ledger sound,
      )

-- a plan of the step from the state that the modes leave is one from any state that leads to the same
pub planned_from : {m : List ℕ} {renew renew' : Renew} {st st' : State} {c : ℕ} {atoms m' modes : List ℕ} {room : Bool} → step_of m renew st c atoms ≡ step_of m renew' st' c atoms
    → Planned m renew st c atoms m' room modes → Planned m renew' st' c atoms m' room modes
planned_from {m} {renew} {renew'} {st} {st'} {c} {atoms} e p =
    record {
      fits = rw (← e) p.fits;
      sets = λ z j l. p.sets z j l ∙ ap (λ (s : State). set_at s (owner_at m j)) e;
      tried = p.tried;
      few = p.few;
      all = p.all;
      values = p.values ∙ ap (λ (s : State). filled_from VALUES (λ r. bit_of (value (rows_of m) s r)) m p.tried) e;
    }

-- ---- two steps, the second planned over the values that the first left
module _ {m m₁ : List ℕ} (sound : Sound m) (alike : Alike m m₁) where
  rows_as : row_count m₁ ≡ row_count m
  rows_as = alike.below 0 (omega arith)

  pub slots_as : temporals m₁ ≡ temporals m
  slots_as = alike.below 4 (omega arith)

  pub owner_as : (j : ℕ) → j < temporals m → owner_at m₁ j ≡ owner_at m j
  owner_as j h = let few = sound.book.temporal_few in alike.below (OWNERS + j) (omega arith)

  same_step : (renew : Renew) (st : State) (c : ℕ) (atoms : List ℕ) → step_of m₁ renew st c atoms ≡ step_of m renew st c atoms
  same_step renew st c atoms = ap (λ (b : Rows). step_by renew b st (snap_of c atoms)) (alike_rows sound alike)

  moved_back : ((i : ℕ) → VALUES + row_count m ≤ i → get_or m₁ i 0 ≡ get_or m i 0) → (renew : Renew) (st : State) (c : ℕ) (atoms : List ℕ) {m' : List ℕ} → Moved m₁ renew st c atoms m' → Moved m renew st c atoms m'
  moved_back beyond₁ renew st c atoms v =
      let few = sound.book.temporal_few in
      let same = same_step renew st c atoms in
      record {
        long = v.long;
        begun = v.begun;
        clock = v.clock;
        below = λ i p q lt. v.below i p q lt ∙ alike.below i (omega arith);
        new = λ j lt.
            v.new j (rw slots_as lt) ∙ ap₂ (λ (s : State) (o : ℕ). rolled (turn_after c (slot_words m₁ j)) (set_at s o)) same (owner_as j lt)
            ∙ ap (λ (w : List ℕ). rolled (turn_after c w) (set_at (step_of m renew st c atoms) (owner_at m j))) (alike_set sound alike j (omega arith));
        good = λ j lt. v.good j (rw slots_as lt);
        old = λ j p q. v.old j (rw slots_as p) q ∙ alike_set sound alike j q;
        values = λ r h. v.values r (rw rows_as h) ∙ ap₂ (λ (b : Rows) (s : State). bit_of (value b s r)) (alike_rows sound alike) same;
        beyond = λ i p. v.beyond i (rw rows_as p) ∙ beyond₁ i p;
      }

module _ {m : List ℕ} {c : ℕ} {old m₁ modes₁ : List ℕ} (kept : Kept m) (small : c ≤ LAST_TIME) (first : Planned m (own_renew (state_of m)) (state_of m) c old m₁ true modes₁) where
  abbrev f₁ : ℕ → ℕ
  f₁ = value_after m (own_renew (state_of m)) (state_of m) c old

  pub first_alike : Alike m m₁
  first_alike = rw first.values (alike_filled m VALUES f₁ first.tried (omega arith))

  pub first_sound : Sound m₁
  first_sound = planned_sound kept.sound first

  pub first_width : (bytes : List ℕ) → width_word m ≤ length bytes → width_word m₁ ≤ length bytes
  first_width bytes h = let e = first_alike.below 3 (omega arith) in omega arith

  pub first_beyond : (i : ℕ) → VALUES + row_count m ≤ i → get_or m₁ i 0 ≡ get_or m i 0
  first_beyond i h = let few = first.few in ap (λ (x : List ℕ). get_or x i 0) first.values ∙ filled_from_after VALUES f₁ m 0 first.tried i (omega arith)

  abbrev own_renew_lem : Renew
  own_renew_lem = own_renew (state_of m)

  abbrev between : State
  between = time_step m c old

  -- the plan of the second, from the state that the first leaves
  pub second_from : {new m₂ modes₂ : List ℕ} {room : Bool} → Planned m₁ (renew_over m₁ false) (ahead m₁ c modes₁) c new m₂ room modes₂ → Planned m₁ (own_renew between) between c new m₂ room modes₂
  second_from {new} p = planned_from (ahead_one first_sound small modes₁ between
      (step_way_by own_renew_lem (rows_of m) (state_of m) (snap_of c old) ∙ ap (λ (st : State). st.way) (sym (alike_state kept.sound first_alike)))
      (let e = ap (λ (n : Snap). n.clock) (step_now_by own_renew_lem (rows_of m) (state_of m) (snap_of c old)) in omega arith)
      (λ j h.
      let l : j < temporals m = rw (← slots_as kept.sound first_alike) h in
      set_planned kept.sound small first j l ∙ ap (set_at between) (sym (owner_as kept.sound first_alike j l))) new) p

  pub both_room : {new m₂ m₃ m₄ modes₂ : List ℕ} → Planned m₁ (own_renew between) between c new m₂ true modes₂
      → Written m₂ c (λ j. set_after m₂ c (get_or modes₂ j 0) j) (temporals m₂) m₃ → m₄ ≡ clocked m₃ c → TriedBoth m c old new m₄ 0
  both_room {new} p w e =
      let same = same_step kept.sound first_alike (own_renew between) between c new in
      record {
        between = λ f. absurd (true≢false (sym f ∙ first.fits));
        last = λ z. record {
          room = λ f. (refl, moved_back kept.sound first_alike first_beyond (own_renew between) between c new ((tried_room first_sound small p w e).room p.fits).1);
          full = λ f. absurd (true≢false (sym f ∙ sym (ap crowded same) ∙ p.fits));
        };
      }

  pub both_full : {new m₂ m₃ modes₂ : List ℕ} → Planned m₁ (own_renew between) between c new m₂ false modes₂ → m₃ ≡ values_put m₂ → TriedBoth m c old new m₃ 11
  both_full {new} {m₂} p e =
      let f₂ : ℕ → ℕ = value_after m₁ (own_renew between) between c new in
      let few = p.few in
      let count : row_count m₁ ≡ row_count m = first_alike.below 0 (omega arith) in
      let alike₂ : Alike m₁ m₂ = rw p.values (alike_filled m₁ VALUES f₂ p.tried (omega arith)) in
      let same = same_step kept.sound first_alike (own_renew between) between c new in
      record {
        between = λ f. absurd (true≢false (sym f ∙ first.fits));
        last = λ z. record {
          room = λ f. absurd (true≢false (sym p.fits ∙ ap crowded same ∙ f));
          full = λ f. (
            refl,
            e ∙ restored_from kept (alike_on first_alike alike₂)
                (λ i h. ap (λ (x : List ℕ). get_or x i 0) p.values ∙ filled_from_after VALUES f₂ m₁ 0 p.tried i (omega arith) ∙ first_beyond i h),
          );
        };
      }

pub first_full : {m : List ℕ} {c : ℕ} {old m₁ m₂ modes : List ℕ} → Kept m → Planned m (own_renew (state_of m)) (state_of m) c old m₁ false modes → m₂ ≡ values_put m₁ → (new : List ℕ) → TriedBoth m c old new m₂ 11
first_full kept p e new =
    record { between = λ f. (refl, e ∙ restored kept _ p.tried p.few p.values); last = λ f. absurd (true≢false (sym p.fits ∙ f)) }
