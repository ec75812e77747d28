-- The sets of the original are sorted by both ends, and so is what is split off: its searches are documented for them. Assumes nothing.
use Prim.Native.Nat.{ℕ, suc, ◌+◌, ◌≤◌, ◌<◌}
use native.Mathlib.Omega.{arith}
use mathlib.Core.Path.{◌≡◌}
use mathlib.Core.Logic.{⊎_elim}
use mathlib.Core.List.{[], ◌∷◌}
use lib.ListN.{length, get_or, drop, length-append, length-drop, get_or-append}
use lib.Seq.{get_or_at, get_or-drop}
use Rattle.numset.specs.Runs.{Run, run, Runs, Under, Canonical}
use Rattle.lists.proofs.Tests.{lt_or_ge}
use Rattle.numset.proofs.Laws.{top_of, under_top_of}
use Rattle.original.specs.Rust.{Increasing}
use Rattle.original.specs.NumSet.{NumSet, lower_of, upper_of}
use Rattle.original.specs.Agrees.{none}
use Rattle.original.proofs.Searches.{turned, length_turned}

-- a pair of runs under top
record Below (top : ℕ) (r : Run) : Type 0 where
  order : lower_of r ≤ upper_of r
  under : upper_of r + 1 < top

-- the pair at i, among the older ones or the newest
module _ (r : Run) (rs : Runs) where
  older : (i : ℕ) → i < length rs → get_or (turned (r ∷ rs)) i none ≡ get_or (turned rs) i none
  unfolding turned
  older i h = get_or-append (turned rs) (r ∷ []) none i (omega (arith, length_turned rs))

  newest : (i : ℕ) → length rs ≤ i → i < length (turned (r ∷ rs)) → get_or (turned (r ∷ rs)) i none ≡ r
  unfolding turned
  newest i h k = get_or_at (turned rs) r [] none i (omega (arith, length_turned rs, length-append (turned rs) (r ∷ [])))

  last_place : (i : ℕ) → i < length (turned (r ∷ rs)) → i < suc (length rs)
  unfolding turned
  last_place i k = omega (arith, length_turned rs, length-append (turned rs) (r ∷ []))

below_at : (top : ℕ) (rs : Runs) → Under top rs → (i : ℕ) → i < length (turned rs) → Below top (get_or (turned rs) i none)
unfolding Under
below_at top [] w i h = absurd (omega (arith, length_turned []))
below_at top (run l u ∷ rs) w i h =
    ⊎_elim
    (λ p. rw (older (run l u) rs i p) (lift (below_at l rs w.2 i (omega (arith, length_turned rs)))))
    (λ p. rw (newest (run l u) rs i p h) (record { order = w.0; under = w.1 }))
    (lt_or_ge i (length rs))
  where
    lift : Below l (get_or (turned rs) i none) → Below top (get_or (turned rs) i none)
    lift b = record { order = b.order; under = omega arith }

-- by a key that lies in the run
module _ (key : Run → ℕ) (low : (l u : ℕ) → l ≤ u → l ≤ key (run l u)) (high : (r : Run) → lower_of r ≤ upper_of r → key r ≤ upper_of r) where
  increasing : (top : ℕ) (rs : Runs) → Under top rs → Increasing none key (turned rs)
  unfolding Under
  increasing top [] w i j h k = absurd (omega (arith, length_turned []))
  increasing top (run l u ∷ rs) w i j h k =
      let m = last_place (run l u) rs j k in
      ⊎_elim
      (λ p. rw (older (run l u) rs i (omega arith), older (run l u) rs j p) (increasing l rs w.2 i j h (omega (arith, length_turned rs))))
      (λ p. let b = below_at l rs w.2 i (omega (arith, length_turned rs)) in
      rw (older (run l u) rs i (omega arith), newest (run l u) rs j p k) (omega (arith, high (get_or (turned rs) i none) b.order, low l u w.0)))
      (lt_or_ge j (length rs))

-- by their lower ends, and by their upper ends
pub lowers_increase : (s : Runs) → Canonical s → Increasing none lower_of (turned s)
lowers_increase s w = increasing lower_of (λ l u h. omega arith) (λ r h. h) (top_of s) s (under_top_of s w)

pub uppers_increase : (s : Runs) → Canonical s → Increasing none upper_of (turned s)
uppers_increase s w = increasing upper_of (λ l u h. h) (λ r h. omega arith) (top_of s) s (under_top_of s w)

-- what is split off is sorted too
pub split_increases : (key : Run → ℕ) (xs : NumSet) (n : ℕ) → Increasing none key xs → Increasing none key (drop n xs)
split_increases key xs n w i j h k = rw (get_or-drop n xs i none, get_or-drop n xs j none) (w (n + i) (n + j) (omega arith) (omega (arith, length-drop n xs)))
