-- A monitor that rests: every call leaves one, and a call that says what stands there already changes nothing. Assumes nothing.
use Prim.Native.Nat.{ℕ, ◌*◌, ◌≤◌, ◌<◌}
use mathlib.Core.Path.{◌≡◌, ap, subst, ◌∙◌}
use mathlib.Core.Logic.{⊎_elim}
use mathlib.Core.Bool.{true, false, not}
use mathlib.Core.List.{List, []}
use native.Mathlib.Omega.{arith}
use lib.ListN.{length}
use lib.Dec.{ltb}
use borrow.Author.Tests.{lt-ltb}
use Rattle.numbers.specs.Limits.{MOST_RUNS}
use Rattle.numbers.specs.Refusals.{ACCEPTED}
use Rattle.lists.proofs.Tests.{lt_or_ge}
use Rattle.lists.proofs.Listed.{listed_length}
use Rattle.numset.specs.Runs.{Runs, SET_WORDS, fits}
use Rattle.ring.specs.Ring.{ringed}
use Rattle.ring.proofs.Again.{held_few}
use Rattle.pmtl.specs.Monitor.{set_at}
use Rattle.pmtl.specs.Calls.{Call, refusal, crowded, call}
use Rattle.pmtl.specs.Again.{SaysAgain, unchanged, Rests}
use Rattle.pmtl.proofs.Doubled.{Left, call_left, says_again}
use Rattle.memory.specs.Memory.{row_count, temporals, kind_at, slot_at, owner_at, slot_words, rows_of, state_of, set_of}
use Rattle.memory.specs.Kept.{Kept}
use Rattle.memory.proofs.Rows.{kept_ordered}
use Rattle.memory.proofs.Sets.{owner_set, no_set, set_canonical}
use Rattle.planning.proofs.Plans.{some_none, crowds}

module _ {m : List ℕ} (kept : Kept m) where
  -- each set of a kept memory fits its words
  pub fits_now : (j : ℕ) → j < temporals m → fits SET_WORDS (set_at (state_of m) (owner_at m j)) ≡ true
  fits_now j h =
      let few = kept.sound.book.temporal_few in
      rw (owner_set m kept.sound j h) (lt-ltb (2 * length (ringed (slot_words m j))) SET_WORDS (held_few (slot_words m j) (kept.sound.sets j (omega arith))))

  -- so none is crowded
  room : crowded (state_of m) ≡ false
  unfolding crowded state_of
  room =
      some_none (λ (s : Runs). ltb MOST_RUNS (length s)) [] (state_of m).sets λ r lt.
      let h : r < row_count m = omega (arith, listed_length (set_of m) (row_count m)) in
      ⊎_elim (λ (k : kind_at m r < 7). ap (λ (s : Runs). ltb MOST_RUNS (length s)) (no_set m kept.sound r (λ _. k)))
      (λ (k : 7 ≤ kind_at m r).
      let row = kept.sound.book.rows r h in
      crowds (set_at (state_of m) r) ∙ ap not (subst (λ o. fits SET_WORDS (set_at (state_of m) o) ≡ true) (row.owner k) (fits_now (slot_at m r) (row.slot k))))
      (lt_or_ge (kind_at m r) 7)

  pub left : Left (rows_of m) (state_of m)
  unfolding state_of
  left = record { canonical = set_canonical m kept.sound; in_time = kept.sound.clock; room = room; rests = kept.rests }

  -- what any call leaves rests
  pub rests_after : (m' : List ℕ) (k : Call) → rows_of m' ≡ rows_of m → state_of m' ≡ (call (rows_of m) (state_of m) k).state → Rests (rows_of m') (state_of m')
  rests_after m' k eb es = rw (eb, es) (call_left (rows_of m) (kept_ordered kept.sound.book) (state_of m) left k).rests

  -- a call that says again what stands there
  pub unmoved_by : (state_of m).begun ≡ true → (k : Call) → refusal (rows_of m) (state_of m).now k ≡ ACCEPTED → SaysAgain (state_of m).now k → call (rows_of m) (state_of m) k ≡ unchanged (state_of m)
  unmoved_by = says_again (rows_of m) (state_of m) left
