-- The original's pairs, oldest first, as our runs turned round; what its searches find in them. Assumes nothing.
use Prim.Native.Nat.{ℕ, zero, suc, ◌+◌, ◌≤◌, ◌<◌}
use native.Mathlib.Omega.{arith}
use mathlib.Core.Path.{◌≡◌, refl, ap, ◌∙◌}
use mathlib.Core.List.{[], ◌∷◌, ◌++◌, append_assoc}
use lib.ListN.{length, length-append}
use borrow.Author.Tests.{lt-ltb, le-ltb, eq-eqb, ne_eqb}
use Rattle.numset.specs.Runs.{Run, run, Runs, Under}
use Rattle.original.specs.Rust.{Found, later, binary_search_by_key}
use Rattle.original.specs.NumSet.{NumSet}
use Rattle.original.specs.Rust.Found.{Ok, Err}

-- oldest first
unfoldable pub turned : Runs → NumSet
turned [] = []
turned (r ∷ rs) = turned rs ++ (r ∷ [])

pub length_turned : (rs : Runs) → length (turned rs) ≡ length rs
unfolding turned
length_turned [] = refl
length_turned (r ∷ rs) = length-append (turned rs) (r ∷ []) ∙ (omega (arith, length_turned rs))

pub turned_on : (r : Run) (rs : Runs) (ys : NumSet) → turned (r ∷ rs) ++ ys ≡ turned rs ++ (r ∷ ys)
unfolding turned
turned_on r rs ys = append_assoc (turned rs) (r ∷ []) ys

-- n places later
unfoldable pub shifted : ℕ → Found → Found
shifted zero f = f
shifted (suc n) f = shifted n (later f)

pub shifted_ok : (n i : ℕ) → shifted n (Ok i) ≡ Ok (n + i)
unfolding shifted
shifted_ok zero i = ap Ok (omega arith)
shifted_ok (suc n) i = shifted_ok n (suc i) ∙ ap Ok (omega arith)

pub shifted_err : (n i : ℕ) → shifted n (Err i) ≡ Err (n + i)
unfolding shifted
shifted_err zero i = ap Err (omega arith)
shifted_err (suc n) i = shifted_err n (suc i) ∙ ap Err (omega arith)

-- the first pair decides
module _ (r : Run) (ys : NumSet) (k : ℕ) (key : Run → ℕ) where
  pub found_later : key r < k → binary_search_by_key (r ∷ ys) k key ≡ later (binary_search_by_key ys k key)
  unfolding binary_search_by_key
  found_later h = rw (lt-ltb (key r) k h)

  pub found_here : key r ≡ k → binary_search_by_key (r ∷ ys) k key ≡ Ok 0
  unfolding binary_search_by_key
  found_here h = let p : k ≤ key r = omega arith in rw (le-ltb (key r) k p, eq-eqb (key r) k h)

  pub found_not : k < key r → binary_search_by_key (r ∷ ys) k key ≡ Err 0
  unfolding binary_search_by_key
  found_not h = rw (le-ltb (key r) k (omega arith), ne_eqb (key r) k (λ e. omega arith))

-- runs whose keys are all smaller are passed over
module _ (k : ℕ) (key : Run → ℕ) (small : (l u : ℕ) → l ≤ u → u < k → key (run l u) < k) where
  pub passed : (top : ℕ) (rs : Runs) (ys : NumSet) → Under top rs → top ≤ k + 1
      → binary_search_by_key (turned rs ++ ys) k key ≡ shifted (length rs) (binary_search_by_key ys k key)
  unfolding Under turned shifted
  passed top [] ys w h = refl
  passed top (run l u ∷ rs) ys w h =
      ap (λ (s : NumSet). binary_search_by_key s k key) (turned_on (run l u) rs ys)
      ∙ passed l rs (run l u ∷ ys) w.2 (omega arith)
      ∙ ap (shifted (length rs)) (found_later (run l u) ys k key (small l u w.0 (omega arith)))
