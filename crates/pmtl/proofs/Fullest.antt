-- How full the fullest set of a monitor is: no set has more runs, it is 0 for a fresh monitor, and it never passes the limit. Assumes nothing.
use Prim.Native.Nat.{ℕ, zero, suc, ◌≤◌, ◌<◌}
use native.Mathlib.Omega.{arith}
use mathlib.Core.Path.{◌≡◌, refl, sym, ap, ◌∙◌}
use mathlib.Core.Bool.{Bool, true, false}
use mathlib.Core.Logic.{⊎_elim}
use mathlib.Core.List.{List, [], ◌∷◌}
use lib.ListN.{length, get_or, replicate}
use lib.Dec.{ltb, eqb}
use borrow.Author.Tests.{lt-ltb, le-ltb}
use Rattle.numbers.specs.Limits.{MOST_RUNS}
use Rattle.lists.proofs.Tests.{either, lt_or_ge, clash, fails_by, or_left, or_right}
use Rattle.numset.specs.Runs.{Runs}
use Rattle.pmtl.specs.Book.{Rows, some}
use Rattle.pmtl.specs.Sets.{Way}
use Rattle.pmtl.specs.Monitor.{Snap, State, most_runs, fullest, initial_in, step_in}
use Rattle.pmtl.specs.Calls.{Call, turns, refusal, crowded, Outcome, play, call, after_in}

-- no set has more runs
pub most_at : (ss : List Runs) (r : ℕ) → length (get_or ss r []) ≤ most_runs ss
unfolding most_runs
most_at [] r = omega arith
most_at (s ∷ ss) zero = omega arith
most_at (s ∷ ss) (suc r) = let h = most_at ss r in omega arith

-- and nothing less is as many as each has
pub most_least : (ss : List Runs) (n : ℕ) → ((r : ℕ) → r < length ss → length (get_or ss r []) ≤ n) → most_runs ss ≤ n
unfolding most_runs
most_least [] n f = omega arith
most_least (s ∷ ss) n f =
    let h = f 0 (omega arith) in
    let k = most_least ss n (λ r l. f (suc r) (omega arith)) in
    omega arith

none_most : (n : ℕ) → most_runs (replicate n []) ≡ 0
unfolding most_runs
none_most zero = refl
none_most (suc n) = rw (none_most n)

-- a fresh monitor has no runs
pub fresh_none : (way : Way) (b : Rows) → fullest (initial_in way b) ≡ 0
unfolding initial_in
fresh_none way b = none_most (length b)

-- ---- the limit
module _ (c : ℕ) where
  abbrev crowd : Runs → Bool
  crowd s = ltb c (length s)

  few : (ss : List Runs) → some crowd ss ≡ false → most_runs ss ≤ c
  unfolding some most_runs
  few [] e = omega arith
  few (s ∷ ss) e =
      let k = few ss (fails_by (some crowd ss) (λ t. clash (or_right (crowd s) (some crowd ss) t) e)) in
      ⊎_elim (λ l. absurd (clash (or_left (crowd s) (some crowd ss) (lt-ltb c (length s) l)) e)) (λ g. omega arith) (lt_or_ge c (length s))

  few_back : (ss : List Runs) → most_runs ss ≤ c → some crowd ss ≡ false
  unfolding some most_runs
  few_back [] h = refl
  few_back (s ∷ ss) h = rw (le-ltb c (length s) (omega arith)) (few_back ss (omega arith))

-- where the same numbers are passed by a set, the fullest sets have as many runs
pub same_most : (ss ts : List Runs) → ((c : ℕ) → some (λ (s : Runs). ltb c (length s)) ss ≡ some (λ (s : Runs). ltb c (length s)) ts) → most_runs ss ≡ most_runs ts
same_most ss ts e =
    let a = few (most_runs ts) ss (e (most_runs ts) ∙ few_back (most_runs ts) ts (omega arith)) in
    let b = few (most_runs ss) ts (sym (e (most_runs ss)) ∙ few_back (most_runs ss) ss (omega arith)) in
    omega arith

roomy : (st : State) → crowded st ≡ false → fullest st ≤ MOST_RUNS
unfolding crowded
roomy st e = few MOST_RUNS st.sets e

-- so a monitor is crowded exactly where its fullest set passes the limit, and one whose fullest has as many runs is, too
crowded_most : (st : State) → crowded st ≡ ltb MOST_RUNS (fullest st)
unfolding crowded
crowded_most st =
    ⊎_elim
    (λ l. ⊎_elim (λ t. t) (λ f. absurd (omega (arith, l, few MOST_RUNS st.sets f))) (either (some (crowd MOST_RUNS) st.sets)) ∙ sym (lt-ltb MOST_RUNS (fullest st) l))
    (λ g. few_back MOST_RUNS st.sets g ∙ sym (le-ltb MOST_RUNS (fullest st) g))
    (lt_or_ge MOST_RUNS (fullest st))

pub same_crowd : (st st' : State) → fullest st ≡ fullest st' → crowded st ≡ crowded st'
same_crowd st st' e = crowded_most st ∙ ap (ltb MOST_RUNS) e ∙ sym (crowded_most st')

abbrev Few : Outcome → Type 0
Few o = fullest o.state ≤ MOST_RUNS

play_few : (b : Rows) (old st : State) (ns : List Snap) → fullest old ≤ MOST_RUNS → fullest st ≤ MOST_RUNS → Few (play b old st ns)
unfolding play
play_few b old st [] h k = k
play_few b old st (n ∷ ns) h k = go (crowded (step_in b st n)) (λ e. play_few b old (step_in b st n) ns h (roomy (step_in b st n) e)) refl
  where
    go : (x : Bool) → (crowded (step_in b st n) ≡ false → Few (play b old (step_in b st n) ns)) → crowded (step_in b st n) ≡ x
        → Few (elim x [ true ↦ record { number = 11; state = old } | false ↦ play b old (step_in b st n) ns ])
    go true ih e = h
    go false ih e = ih e

-- a call leaves no set with more runs than it may have
pub call_few : (b : Rows) (st : State) (k : Call) → fullest st ≤ MOST_RUNS → fullest (call b st k).state ≤ MOST_RUNS
unfolding call
call_few b st k h = go (eqb (refusal b st.now k) 0)
  where
    go : (x : Bool) → Few (elim x [ true ↦ play b st st (turns st.now k) | false ↦ record { number = refusal b st.now k; state = st } ])
    go true = play_few b st st (turns st.now k) h h
    go false = h

-- the count never passes the limit, after any calls
pub fullest_few : (way : Way) (b : Rows) (calls : List Call) → fullest (after_in way b calls) ≤ MOST_RUNS
unfolding after_in
fullest_few way b [] = rw (fresh_none way b) (omega arith)
fullest_few way b (k ∷ ks) = call_few b (after_in way b ks) k (fullest_few way b ks)
