-- No clock with a bound on top reaches MAX. Assumes nothing.
use Prim.Native.Nat.{ℕ, ◌+◌, ◌≤◌, ◌<◌}
use native.Mathlib.Omega.{arith}
use Rattle.numbers.specs.Limits.{MAX, LAST_TIME}

pub sum_below_max : (clock bound : ℕ) → clock ≤ LAST_TIME → bound ≤ LAST_TIME → clock + bound < MAX
sum_below_max clock bound h k = omega arith
