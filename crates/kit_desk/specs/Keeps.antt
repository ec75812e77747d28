-- What is kept of a line in the room for it. Definitions only.
use Rattle.std.specs.Prelude.{ℕ, ◌≤◌, ◌≡◌, List, [], ◌∷◌, ◌++◌, length, take}

-- after `held` bytes of a line came another, and then r of them are kept: all, or as many as there is room for
pub record Keeps (line : List ℕ) (held byte : ℕ) (line' : List ℕ) (r : ℕ) : Type 0 where
  pub inside : r ≤ length line
  pub kept : take r line' ≡ take (length line) (take held line ++ byte ∷ [])
