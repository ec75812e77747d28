-- The runs that words hold, by index. Assumes nothing.
use Prim.Native.Nat.{ℕ, zero, suc, ◌+◌, ◌*◌, ◌-◌, ◌≤◌, ◌<◌}
use mathlib.Core.Path.{◌≡◌, refl, ap, ◌∙◌, subst}
use mathlib.Core.List.{List, [], ◌∷◌}
use native.Mathlib.Omega.{arith}
use native.Mathlib.Numerals.{add-one}
use lib.ListN.{length, get_or}
use Rattle.numset.specs.Runs.{run, lo, hi, runs_to, Under}
use Rattle.numset.proofs.Laws.{under_mono}

pub at : (m : List ℕ) (i j : ℕ) → i ≡ j → get_or m i 0 ≡ get_or m j 0
at m i j e = ap (λ (k : ℕ). get_or m k 0) e

pub runs_suc : (m : List ℕ) (j i : ℕ) → i ≡ j + 1 → runs_to m i ≡ run (lo m j) (hi m j) ∷ runs_to m j
unfolding runs_to
runs_suc m j i e = ap (runs_to m) (e ∙ add-one j)

pub runs_pos : (m : List ℕ) (i : ℕ) → 0 < i → runs_to m i ≡ run (lo m (i - 1)) (hi m (i - 1)) ∷ runs_to m (i - 1)
runs_pos m i h = runs_suc m (i - 1) i (omega arith)

pub runs_none : (m : List ℕ) (i : ℕ) → i ≡ 0 → runs_to m i ≡ []
unfolding runs_to
runs_none m i e = rw (e, runs_to)

pub length_runs : (m : List ℕ) (n : ℕ) → length (runs_to m n) ≡ n
unfolding runs_to
length_runs m zero = refl
length_runs m (suc n) = ap suc (length_runs m n)

-- words that agree hold the same runs
pub same_runs : (m m' : List ℕ) (n : ℕ) → ((k : ℕ) → 0 < k → k < 2 * n + 1 → get_or m' k 0 ≡ get_or m k 0) → runs_to m' n ≡ runs_to m n
unfolding runs_to
same_runs m m' zero f = refl
same_runs m m' (suc n) f =
    rw (f (2 * n + 1) (omega arith) (omega arith), f (2 * n + 2) (omega arith) (omega arith), same_runs m m' n (λ k h p. f k h (omega arith)))

-- what is known of the newest of the first j + 1 runs, which are under top
pub record Newest (top : ℕ) (m : List ℕ) (j : ℕ) : Type 0 where
  pub order : lo m j ≤ hi m j
  pub below : hi m j + 1 < top
  pub older : Under (lo m j) (runs_to m j)
  pub older_too : Under top (runs_to m j)

pub newest : (top : ℕ) (m : List ℕ) (i : ℕ) → 0 < i → Under top (runs_to m i) → Newest top m (i - 1)
unfolding Under
newest top m i h w =
    let v : Under top (run (lo m (i - 1)) (hi m (i - 1)) ∷ runs_to m (i - 1)) = subst (Under top) (runs_pos m i h) w in
    record { order = v.0; below = v.1; older = v.2; older_too = under_mono (lo m (i - 1)) top (runs_to m (i - 1)) (omega arith) v.2 }
