-- What reading standard input may answer. Definitions only.
use Rattle.std.specs.Prelude.{ℕ, ◌≤◌, Option, Some, None}

-- so many bytes, of `room` at most; or a read that failed
abbrev pub Within : ℕ → Option ℕ → Type 0
Within room (Some n) = n ≤ room
Within room None = Unit {0}
