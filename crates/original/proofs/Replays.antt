-- The original over calls: those that our monitor accepts lead from tree to tree, and none panics. Assumes nothing.
use Prim.Native.Nat.{ℕ, zero, suc, ◌≤◌, ◌<◌}
use native.Mathlib.Omega.{arith}
use native.Mathlib.Nat.{not-suc-le-zero, le_of_suc-le-suc}
use mathlib.Core.Path.{◌≡◌, refl, ap, ap₂, ◌∙◌}
use mathlib.Core.Bool.{Bool, true, false, cond}
use mathlib.Core.List.{List, [], ◌∷◌, map}
use lib.ListN.{length, get_or, take}
use lib.Seq.{take_all}
use lib.Dec.{eqb}
use borrow.Author.Tests.{eqb-true, le-leb}
use Rattle.numbers.specs.Limits.{LAST_TIME}
use Rattle.pmtl.specs.Book.{Rows, Book, Ordered, width_of}
use Rattle.pmtl.specs.Monitor.{Snap, State}
use Rattle.pmtl.specs.Calls.{Call, time, state, stamped, timed, stated, turns, time_refusal, state_refusal, refusal, Outcome, play, call, after, History, now_of, onto, accepted}
use Rattle.pmtl.proofs.History.{now_run}
use Rattle.pmtl.proofs.Calls.{firsts_zero, timely, well_stated}
use Rattle.pmtl.proofs.Theorems.{after_is}
use Rattle.original.specs.Rust.{Ran, ◌>>=◌, index, each}
use Rattle.original.specs.ValPmtl.{ValPmtl, from, update_state as update-state-of, update_states, update_time as update-time-of, update_times}
use Rattle.original.specs.PmtlOracle.{PmtlOracle, update_state, update_time}
use Rattle.original.specs.Formulas.{formula, oracle_of}
use Rattle.original.specs.Proper.{Fits}
use Rattle.original.specs.Replay.{made, replayed, allowed, replayed_all}
use Rattle.original.specs.Rust.Ran.{done}
use Rattle.original.proofs.Fulls.{Clocks, clock_small}
use Rattle.original.proofs.Grown.{grown, from_grown}
use Rattle.original.proofs.Walks.{walked, state_walk, time_walk}

-- ---- lists
each_done : {A B : Type 0} (f : A → Ran A) (v v' : B → A) → ((x : B) → f (v x) ≡ done (v' x)) → (xs : List B) → each f (map v xs) ≡ done (map v' xs)
unfolding each
each_done f v v' e [] = refl
each_done f v v' e (x ∷ xs) = rw (e x, each_done f v v' e xs)

pub map_same : {A B C : Type 0} (g : A → B) (f : C → A) (k : C → B) → ((x : C) → g (f x) ≡ k x) → (xs : List C) → map g (map f xs) ≡ map k xs
map_same g f k e [] = refl
map_same g f k e (x ∷ xs) = ap₂ ◌∷◌ (e x) (map_same g f k e xs)

abbrev pub is_one : ℕ → Bool
is_one x = eqb x 1

-- `state[*atom]` is there for every atom that the book names
index_at : (bytes : List ℕ) (n a : ℕ) → a < n → n ≤ length bytes → index (map is_one bytes) a ≡ done (get_or (map is_one (take n bytes)) a false)
unfolding index
index_at bytes zero a h k = absurd (not-suc-le-zero h)
index_at [] (suc n) a h k = absurd (not-suc-le-zero k)
index_at (x ∷ bytes) (suc n) zero h k = refl
index_at (x ∷ bytes) (suc n) (suc a) h k = index_at bytes n a (le_of_suc-le-suc h) (le_of_suc-le-suc k)

-- ---- accepted calls are not refused for what they are
Sound : Rows → State → Call → Outcome → Type 0
Sound b st k o = eqb o.number 0 ≡ true → refusal b st.now k ≡ 0

sound : (b : Rows) (st : State) (k : Call) → Sound b st k (call b st k)
unfolding call Sound
sound b st k = go (eqb (refusal b st.now k) 0) refl
  where
    go : (z : Bool) → eqb (refusal b st.now k) 0 ≡ z → Sound b st k (elim z [
      | true ↦ play b st st (turns st.now k)
      | false ↦ record { number = refusal b st.now k; state = st }
    ])
    go true e h = eqb-true (refusal b st.now k) 0 e
    go false e h = eqb-true (refusal b st.now k) 0 h

-- ---- one call
module _ (o : PmtlOracle) (as' gs : List ValPmtl) where
  time_done : (t : ℕ) → o.time ≤ t → each (λ f. update-time-of f t) o.assumes ≡ done as' → each (λ f. update-time-of f t) o.guarantees ≡ done gs
      → update_time o t ≡ done (record { assumes = as'; guarantees = gs; time = t })
  unfolding update_time
  time_done t h e k = rw (le-leb o.time t h, update_time) (rw (e, k))

  state_done : (bits : List Bool) → each (λ f. update-state-of f bits o.time) o.assumes ≡ done as'
      → each (λ f. update-state-of f bits o.time) o.guarantees ≡ done gs
      → update_state o bits ≡ done (record { assumes = as'; guarantees = gs; time = o.time })
  unfolding update_state
  state_done bits e k = rw (e, update_state) (rw k)

-- the clock and atoms that the original has after a state: entries past the largest atom are passed over
abbrev pub seen : Rows → Snap → List ℕ → Snap
seen b now bytes = record { clock = now.clock; atoms = map is_one (take (width_of b) bytes) }

-- where there are none, those that the state says
all_seen : (b : Rows) (now : Snap) (bytes : List ℕ) → state_refusal b bytes ≡ 0 → (width_of b ≤ length bytes) × (seen b now bytes ≡ stated now bytes)
all_seen b now bytes e =
    let n = (well_stated b bytes e).0 in
    (omega arith, ap (λ (xs : List ℕ). record { clock = now.clock; atoms = map is_one xs }) (take_all (width_of b) bytes (omega arith)))

-- the original after a history
abbrev pub oracle_at : Book → History → PmtlOracle
oracle_at b h = record { assumes = map (grown b.rows h) b.assumes; guarantees = map (grown b.rows h) b.guarantees; time = (now_of b.rows h).clock }

-- clocks are legal, and the original is at a history
pub record At (b : Book) (h : History) (o : Ran PmtlOracle) : Type 0 where
  pub clocks : Clocks b.rows h
  pub is : o ≡ done (oracle_at b h)

module _ (b : Book) (w : Ordered b.rows) (fit : Fits b.rows) (h : History) (l : Clocks b.rows h) where
  pub time_at : (t : ℕ) → (now_of b.rows h).clock ≤ t → t ≤ LAST_TIME → At b (record { clock = t; atoms = (now_of b.rows h).atoms } ∷ h) (made (oracle_at b h) (time t))
  unfolding made update-time-of
  time_at t p q =
      let s : Snap = record { clock = t; atoms = (now_of b.rows h).atoms } in
      let l' : Clocks b.rows (s ∷ h) = (p, q, l) in
      let each = each_done (λ f. update-time-of f t) (grown b.rows h) (grown b.rows (s ∷ h))
      (walked (λ f. update-time-of f t) (λ fs. update_times fs t) b.rows w fit s h (time_walk t) l' (λ a k. refl)) in
      record { clocks = l'; is = time_done (oracle_at b h) _ _ t p (each b.assumes) (each b.guarantees) }

  pub state_at : (bytes : List ℕ) → width_of b.rows ≤ length bytes
      → At b (seen b.rows (now_of b.rows h) bytes ∷ h) (made (oracle_at b h) (state bytes))
  unfolding made update-state-of
  state_at bytes p =
      let c : ℕ = (now_of b.rows h).clock in
      let s : Snap = seen b.rows (now_of b.rows h) bytes in
      let l' : Clocks b.rows (s ∷ h) = (omega arith, clock_small b.rows h l, l) in
      let each = each_done (λ f. update-state-of f (map is_one bytes) c) (grown b.rows h) (grown b.rows (s ∷ h))
      (walked (λ f. update-state-of f (map is_one bytes) c) (λ fs. update_states fs (map is_one bytes) c) b.rows w fit s h (state_walk (map is_one bytes) c) l'
      (λ a k. rw (index_at bytes (width_of b.rows) a k p))) in
      record { clocks = l'; is = state_done (oracle_at b h) _ _ (map is_one bytes) (each b.assumes) (each b.guarantees) }

module _ (b : Book) (w : Ordered b.rows) (fit : Fits b.rows) (h : History) (l : Clocks b.rows h) where
  -- a stamped call: the state call after the time call
  pub stamped_at : (t : ℕ) (bytes : List ℕ) → (now_of b.rows h).clock ≤ t → t ≤ LAST_TIME → width_of b.rows ≤ length bytes
      → At b (seen b.rows (timed (now_of b.rows h) t) bytes ∷ timed (now_of b.rows h) t ∷ h) (made (oracle_at b h) (stamped t bytes))
  unfolding made
  stamped_at t bytes p q m =
      let first = time_at b w fit h l t p q in
      rw first.is (state_at b w fit (timed (now_of b.rows h) t ∷ h) first.clocks bytes m)

  made_at : (k : Call) → refusal b.rows (now_of b.rows h) k ≡ 0 → At b (onto (turns (now_of b.rows h) k) h) (made (oracle_at b h) k)
  unfolding onto refusal
  made_at (time t) e = let p = timely (now_of b.rows h) t e in time_at b w fit h l t p.0 p.1
  made_at (state bytes) e =
      let s = all_seen b.rows (now_of b.rows h) bytes e in
      rw (← s.1) (state_at b w fit h l bytes s.0)
  made_at (stamped t bytes) e =
      let z = firsts_zero (time_refusal (now_of b.rows h) t) (state_refusal b.rows bytes) e in
      let p = timely (now_of b.rows h) t z.0 in
      let s = all_seen b.rows (timed (now_of b.rows h) t) bytes z.1 in
      rw (← s.1) (stamped_at t bytes p.0 p.1 s.0)

-- ---- all of them
module _ (b : Book) (w : Ordered b.rows) (fit : Fits b.rows) where
  at_start : At b [] (done (oracle_of b))
  unfolding oracle_of
  at_start = record {
    clocks = tt;
    is = ap₂ (λ x y. done (record { assumes = x; guarantees = y; time = 0 }))
        (map_same from (formula b.rows) (grown b.rows []) (from_grown b.rows w) b.assumes)
        (map_same from (formula b.rows) (grown b.rows []) (from_grown b.rows w) b.guarantees);
  }

  -- a call that is made if z, at the history h and clock and atoms n
  at_next : (k : Call) (h : History) (o : Ran PmtlOracle) (n : Snap) → n ≡ now_of b.rows h → At b h o → (z : Bool) → (z ≡ true → refusal b.rows n k ≡ 0)
      → At b (cond z (onto (turns n k) h) h) (elim z [ true ↦ o >>= λ p. made p k | false ↦ o ])
  at_next k h o n e at false ok = at
  at_next k h o n e at true ok = rw (at.is, e) (made_at b w fit h at.clocks k (rw e at (ok refl)))

  -- those that our monitor accepts
  pub replay : (ks : List Call) → At b (accepted b.rows ks) (replayed b ks)
  unfolding replayed accepted Sound
  replay [] = at_start
  replay (k ∷ ks) = at_next k (accepted b.rows ks) (replayed b ks) (after b.rows ks).now
      (ap (λ (st : State). st.now) (after_is b.rows ks) ∙ now_run b.rows (accepted b.rows ks)) (replay ks)
      (eqb (call b.rows (after b.rows ks) k).number 0) (sound b.rows (after b.rows ks) k)

  -- those that REFERENCE 5.3 allows
  pub replay_all : (ks : List Call) → At b (allowed b.rows ks) (replayed_all b ks)
  unfolding replayed_all allowed
  replay_all [] = at_start
  replay_all (k ∷ ks) = at_next k (allowed b.rows ks) (replayed_all b ks) (now_of b.rows (allowed b.rows ks)) refl (replay_all ks)
      (eqb (refusal b.rows (now_of b.rows (allowed b.rows ks)) k) 0) (eqb-true (refusal b.rows (now_of b.rows (allowed b.rows ks)) k) 0)
