-- Membership, and runs in order: `within`, `has`, `Under`, `Canonical`. Assumes nothing.
use Prim.Native.Nat.{ℕ, ◌+◌, ◌^◌, ◌≤◌, ◌<◌}
use mathlib.Core.Path.{◌≡◌, refl}
use mathlib.Core.Logic.{⊎_elim}
use mathlib.Core.Bool.{true, false, and-false}
use mathlib.Core.List.{List, [], ◌∷◌}
use native.Mathlib.Omega.{arith}
use borrow.Author.Tests.{le-leb, lt-leb}
use Rattle.lists.proofs.Tests.{lt_or_ge}
use Rattle.numset.specs.Runs.{run, Runs, Under, Canonical, within, has, runs, Good}

-- ---- one run
pub inside : (l u t : ℕ) → l ≤ t → t ≤ u → within l u t ≡ true
inside l u t h k = rw (le-leb l t h, le-leb t u k)

pub outside_above : (l u t : ℕ) → t < l → within l u t ≡ false
outside_above l u t h = rw (lt-leb l t h)

pub outside_below : (l u t : ℕ) → u < t → within l u t ≡ false
outside_below l u t h = rw (lt-leb t u h, and-false)

-- nothing lies in an empty interval
pub outside_none : (l u t : ℕ) → u < l → within l u t ≡ false
outside_none l u t h = ⊎_elim (λ p. outside_above l u t p) (λ p. outside_below l u t (omega arith)) (lt_or_ge t l)

-- t is in l ..= u, or below, or above
pub in_or_out : (l u t : ℕ) (P : Type 0) → (l ≤ t → t ≤ u → P) → (t < l → P) → (u < t → P) → P
in_or_out l u t P f g h = ⊎_elim g (λ p. ⊎_elim h (f p) (lt_or_ge u t)) (lt_or_ge t l)

-- ---- runs in order
pub under_mono : (a b : ℕ) (rs : Runs) → a ≤ b → Under a rs → Under b rs
unfolding Under
under_mono a b [] h w = tt
under_mono a b (run l u ∷ rs) h w = (w.0, omega arith, w.2)

-- nothing that lies from top - 1 on is in a set under top
pub under_has : (top : ℕ) (rs : Runs) (t : ℕ) → Under top rs → top ≤ t + 1 → has rs t ≡ false
unfolding has Under
under_has top [] t w h = refl
under_has top (run l u ∷ rs) t w h = rw (outside_below l u t (omega arith), under_has l rs t w.2 (omega arith))

-- ---- canonical, with a top and without one
pub canonical : (top : ℕ) (rs : Runs) → Under top rs → Canonical rs
unfolding Under Canonical
canonical top [] w = tt
canonical top (run l u ∷ rs) w = (w.0, w.2)

pub good_canonical : {m : List ℕ} → Good m → Canonical (runs m)
good_canonical {m} g = canonical (2 ^ 64 + 1) (runs m) g.apart

-- the least top that a set is under
unfoldable pub top_of : Runs → ℕ
top_of [] = 0
top_of (run l u ∷ rs) = u + 2

pub under_top_of : (rs : Runs) → Canonical rs → Under (top_of rs) rs
unfolding Under Canonical top_of
under_top_of [] w = tt
under_top_of (run l u ∷ rs) w = (w.0, omega arith, w.1)

pub canonical_older : (l u : ℕ) (rs : Runs) → Canonical (run l u ∷ rs) → Canonical rs
unfolding Canonical
canonical_older l u rs w = canonical l rs w.1

-- ---- the newest run
pub newest_in : (l u : ℕ) (rs : Runs) (t : ℕ) → l ≤ t → t ≤ u → has (run l u ∷ rs) t ≡ true
unfolding has
newest_in l u rs t h k = rw (inside l u t h k)

pub older_same : (l u : ℕ) (rs : Runs) (t : ℕ) → t < l → has (run l u ∷ rs) t ≡ has rs t
unfolding has
older_same l u rs t h = rw (outside_above l u t h)

module _ (l u : ℕ) (rs : Runs) (w : Canonical (run l u ∷ rs)) where
  pub above_out : (t : ℕ) → u < t → has (run l u ∷ rs) t ≡ false
  unfolding has Canonical
  above_out t h = rw (outside_below l u t h, under_has l rs t w.1 (omega arith))

  pub gap_out : (t : ℕ) → t + 1 ≡ l → has (run l u ∷ rs) t ≡ false
  unfolding has Canonical
  gap_out t h = rw (outside_above l u t (omega arith), under_has l rs t w.1 (omega arith))
