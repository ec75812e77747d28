-- When a call is refused with 11. Assumes nothing.
use Prim.Native.Nat.{ℕ, zero, suc, ◌≤◌}
use native.Mathlib.Omega.{arith}
use mathlib.Core.Path.{◌≡◌, refl, sym, ◌∙◌}
use mathlib.Core.Logic.{inl, inr, ◌↔◌}
use mathlib.Core.Bool.{Bool, true, false, cond, false≢true, true≢false}
use mathlib.Core.List.{List, [], ◌∷◌}
use lib.ListN.{length, get_or}
use lib.Dec.{ltb, eqb}
use borrow.Author.Tests.{lt-ltb, ltb-true, eqb-true, eq-eqb}
use Rattle.numbers.specs.Limits.{LAST_TIME, MOST_ATOMS, MOST_RUNS}
use Rattle.numset.specs.Runs.{Runs, has, Canonical}
use Rattle.lists.proofs.Tests.{or_elim, or_left, or_right}
use Rattle.pmtl.specs.Book.{map_row, Rows, row_at, width_of, some}
use Rattle.pmtl.specs.Monitor.{Snap, State, set_at, step_in}
use Rattle.pmtl.specs.Calls.{Call, time, state, stamped, turns, time_refusal, state_refusal, first_of, refusal, crowded, crowds, Outcome, play, call, History, now_of}
use Rattle.pmtl.specs.Meaning.{instants, meaning}
use Rattle.pmtl.specs.Kept.{NoneBefore, Full, FullBy}
use Rattle.pmtl.proofs.Cut.{length_more, more_length}

module _ {A : Type 0} (p : A → Bool) (d : A) where
  some_at : (xs : List A) → some p xs ≡ true → (i : ℕ) × (p (get_or xs i d) ≡ true)
  unfolding some
  some_at [] h = absurd (false≢true h)
  some_at (x ∷ xs) h = or_elim (p x) (some p xs) (λ k. (0, k)) (λ k. let m = some_at xs k in (suc m.0, m.1)) h

  at_some : p d ≡ false → (xs : List A) (i : ℕ) → p (get_or xs i d) ≡ true → some p xs ≡ true
  unfolding some
  at_some n [] i h = absurd (true≢false (sym h ∙ n))
  at_some n (x ∷ xs) zero h = or_left _ _ h
  at_some n (x ∷ xs) (suc i) h = or_right (p x) _ (at_some n xs i h)

-- a state whose sets have, from the clock on, the instants of a history, and no older run, is crowded exactly if the history is full
module _ (b : Rows) (st : State) (h : History) (ok : (r : ℕ) → Canonical (set_at st r)) (none : (r : ℕ) → NoneBefore (now_of b h).clock (set_at st r))
    (members : (r t : ℕ) → (now_of b h).clock ≤ t → has (set_at st r) t ≡ instants (map_row (meaning b) (row_at b r)) h t) where
  abbrev is : ℕ → ℕ → Bool
  is r = instants (map_row (meaning b) (row_at b r)) h

  crowded_full : crowded st ≡ true → Full b h
  unfolding crowded
  crowded_full e =
      let m = some_at (λ (s : Runs). ltb MOST_RUNS (length s)) [] st.sets e in
      let r = m.0 in
      (r, length_more MOST_RUNS (now_of b h).clock (is r) (set_at st r) (ok r) (none r) (members r) (ltb-true MOST_RUNS (length (set_at st r)) m.1))

  full_crowded : Full b h → crowded st ≡ true
  unfolding crowded
  full_crowded f =
      let r = f.0 in
      let m = more_length MOST_RUNS (now_of b h).clock (is r) (set_at st r) (ok r) (none r) (members r) f.1 in
      at_some (λ (s : Runs). ltb MOST_RUNS (length s)) [] refl st.sets r (lt-ltb MOST_RUNS (length (set_at st r)) m)

  pub crowded_is : (crowded st ≡ true) ↔ Full b h
  crowded_is = (crowded_full, full_crowded)

-- what is wrong with a call itself is never 11
first_eleven : (a : Bool) (n m : ℕ) → (n ≡ 11 → ⊥) → (m ≡ 11 → ⊥) → cond a n m ≡ 11 → ⊥
first_eleven true n m p q e = p e
first_eleven false n m p q e = q e

time_not_eleven : (now : Snap) (t : ℕ) → time_refusal now t ≡ 11 → ⊥
time_not_eleven now t = first_eleven (ltb t now.clock) 7 _ (λ e. omega arith) (first_eleven (ltb LAST_TIME t) 8 0 (λ e. omega arith) (λ e. omega arith))

state_not_eleven : (b : Rows) (bytes : List ℕ) → state_refusal b bytes ≡ 11 → ⊥
state_not_eleven b bytes =
    first_eleven (ltb MOST_ATOMS (length bytes)) 2 _ (λ e. omega arith)
    (first_eleven (ltb (length bytes) (width_of b)) 9 _ (λ e. omega arith)
    (first_eleven (ltb (width_of b) (length bytes)) 16 _ (λ e. omega arith)
    (first_eleven (some (ltb 1) bytes) 10 0 (λ e. omega arith) (λ e. omega arith))))

not_eleven : (b : Rows) (now : Snap) (k : Call) → refusal b now k ≡ 11 → ⊥
unfolding refusal first_of
not_eleven b now (time t) = time_not_eleven now t
not_eleven b now (state bytes) = state_not_eleven b bytes
not_eleven b now (stamped t bytes) =
    first_eleven (eqb (time_refusal now t) 0) (state_refusal b bytes) (time_refusal now t) (state_not_eleven b bytes) (time_not_eleven now t)

-- in any way of monitoring: `put` says which calls the history gets before each snapshot
module _ (put : History → Snap → History) (b : Rows) where
  -- each step crowds exactly if the history is full after it
  abbrev pub Told : State → History → List Snap → Type 0
  Told st h [] = Unit {0}
  Told st h (n ∷ ns) = ((crowds b st n ≡ true) ↔ Full b (n ∷ put h n)) × Told (step_in b st n) (n ∷ put h n) ns

  play_full : (old st : State) (h : History) (ns : List Snap) → Told st h ns → (play b old st ns).number ≡ 11 → FullBy put b h ns
  unfolding play
  play_full old st h [] t e = omega arith
  play_full old st h (n ∷ ns) t e = go (crowds b st n) refl e (play_full old (step_in b st n) (n ∷ put h n) ns t.1)
    where
      go : (z : Bool) → crowds b st n ≡ z
          → (elim z as (λ x. Outcome) [ true ↦ record { number = 11; state = old } | false ↦ play b old (step_in b st n) ns ]).number ≡ 11
          → ((play b old (step_in b st n) ns).number ≡ 11 → FullBy put b (n ∷ put h n) ns) → FullBy put b h (n ∷ ns)
      go true z q ih = inl (t.0.0 z)
      go false z q ih = inr (ih q)

  full_play : (old st : State) (h : History) (ns : List Snap) → Told st h ns → FullBy put b h ns → (play b old st ns).number ≡ 11
  unfolding play
  full_play old st h [] t f = absurd f
  full_play old st h (n ∷ ns) t f = go (crowds b st n) refl f (full_play old (step_in b st n) (n ∷ put h n) ns t.1)
    where
      go : (z : Bool) → crowds b st n ≡ z → FullBy put b h (n ∷ ns)
          → (FullBy put b (n ∷ put h n) ns → (play b old (step_in b st n) ns).number ≡ 11)
          → (elim z as (λ x. Outcome) [ true ↦ record { number = 11; state = old } | false ↦ play b old (step_in b st n) ns ]).number ≡ 11
      go true z q ih = refl
      go false z (inl q) ih = absurd (true≢false (sym (t.0.1 q) ∙ z))
      go false z (inr q) ih = ih q

  -- 11 exactly when the call is not refused for what it is, and the history is full after one of its snapshots
  module _ (st : State) (h : History) (k : Call) (told : refusal b st.now k ≡ 0 → Told st h (turns st.now k)) where
    abbrev Eleven : Type 0
    Eleven = (refusal b st.now k ≡ 0) × FullBy put b h (turns st.now k)

    call_full : (call b st k).number ≡ 11 → Eleven
    unfolding call
    call_full = go (eqb (refusal b st.now k) 0) refl
      where
        go : (z : Bool) → eqb (refusal b st.now k) 0 ≡ z → (elim z as (λ x. Outcome) [
          | true ↦ play b st st (turns st.now k)
          | false ↦ record { number = refusal b st.now k; state = st }
        ]).number ≡ 11 → Eleven
        go true z e = let q = eqb-true (refusal b st.now k) 0 z in (q, play_full st st h (turns st.now k) (told q) e)
        go false z e = absurd (not_eleven b st.now k e)

    full_call : Eleven → (call b st k).number ≡ 11
    unfolding call
    full_call f = rw (eq-eqb (refusal b st.now k) 0 f.0, call) (full_play st st h (turns st.now k) (told f.0) f.1)

    pub eleven_iff : ((call b st k).number ≡ 11) ↔ ((refusal b st.now k ≡ 0) × FullBy put b h (turns st.now k))
    eleven_iff = (call_full, full_call)
