-- TimeRange of scan_core, which the original's files use and do not define, by REFERENCE 1.3. Definitions only.
use Rattle.std.specs.Prelude.{ℕ, Bool}
use Rattle.numset.specs.Runs.{within}
use Rattle.pmtl.specs.Book.{Range, start, stop}

-- lower..=upper
infix 40 ◌to◌
abbrev pub ◌to◌ : ℕ → ℕ → Range
lower to upper = record { lower = lower; upper = upper }

-- fn shift: the range counted from a time
abbrev pub shift : Range → ℕ → Range
shift range time = start range time to stop range time

-- RangeBounds::contains(&0)
abbrev pub contains_zero : Range → Bool
contains_zero range = within range.lower range.upper 0
