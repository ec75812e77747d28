-- REFERENCE 9.2: a report in the host's buffer. Definitions only.
use Rattle.std.specs.Prelude.{ℕ, cond, List, ◌++◌, length, drop, replicate, leb}
use Rattle.numbers.specs.Limits.{MAX}

-- what the entry hands back, and the buffer that it leaves
pub record Handed : Type 0 where
  pub number : ℕ
  pub buffer : List ℕ

abbrev pub handed : ℕ → List ℕ → Handed
handed n m = record { number = n; buffer = m }

-- the report's length, and its bytes before those that were there; or, where it does not fit, MAX and zeros throughout
unfoldable pub in_buffer : List ℕ → List ℕ → Handed
in_buffer out report = cond (leb (length report) (length out))
    (handed (length report) (report ++ drop (length report) out))
    (handed MAX (replicate (length out) 0))
