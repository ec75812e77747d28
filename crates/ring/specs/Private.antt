-- Steps of the private functions. No public contract cites these. Definitions only.
use Rattle.std.specs.Prelude.{ℕ, ◌-◌, Bool, ◌||◌, List, get_or, ltb, eqb}
use Rattle.numset.specs.Runs.{hi}

-- words of a set in which no run reaches l or what is next to it from before: there is none, or the newest ends earlier
unfoldable pub follows : List ℕ → ℕ → Bool
follows m l = eqb (get_or m 0 0) 0 || ltb 1 (l - hi m (get_or m 0 0 - 1))
