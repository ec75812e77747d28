-- Where a ring begins once what lapsed is dropped. Assumes nothing.
use Prim.Native.Nat.{ℕ, ◌<◌}
use mathlib.Core.Path.{◌≡◌, ap}
use mathlib.Core.List.{List}
use native.Mathlib.Omega.{arith}
use lib.ListN.{length}
use Rattle.numset.specs.Runs.{Run, kept}
use Rattle.ring.specs.Ring.{turn_of, ringed, turn_after}

-- where it was, if nothing lapsed
pub turn_still : (m : List ℕ) (t : ℕ) → turn_of m < 64 → kept t (ringed m) ≡ ringed m → turn_of m ≡ turn_after t m
turn_still m t h e = let k = ap (length {A = Run}) e in omega arith

-- at one of the places, in any case
pub turn_small : (m : List ℕ) (t : ℕ) → turn_after t m < 64
turn_small m t = omega arith
