-- Steps of the writers: what a report comes to from a place on. No public contract cites these. Definitions only.
use Rattle.std.specs.Prelude.{ℕ, ◌+◌, ◌≡◌, cond, List, ◌++◌, length, replicate, leb}
use Rattle.std.proofs.lemmas.List.Edits.{sets}
use Rattle.numbers.specs.Limits.{MAX}
use Rattle.buffer_writer.specs.Buffer.{Handed, handed}

-- the rest of a report, from `at` on: the report's length, with the bytes in their place and those after them unchanged;
-- or, where they do not fit, MAX and zeros
unfoldable pub finish : List ℕ → ℕ → List ℕ → Handed
finish out at rest = cond (leb (at + length rest) (length out)) (handed (at + length rest) (sets out at rest)) (handed MAX (replicate (length out) 0))

-- writing `bytes` at `at` led to the buffer out' and the place at': whatever is to follow, the end is the same
pub record Wrote (out : List ℕ) (at : ℕ) (bytes : List ℕ) (out' : List ℕ) (at' : ℕ) : Type 0 where
  pub same : (rest : List ℕ) → finish out at (bytes ++ rest) ≡ finish out' at' rest

-- the same where there was room: the place is the one after the bytes
pub record Laid (out : List ℕ) (at : ℕ) (bytes : List ℕ) (out' : List ℕ) (at' : ℕ) : Type 0 where
  pub wrote : Wrote out at bytes out' at'
  pub after : at' ≡ at + length bytes
