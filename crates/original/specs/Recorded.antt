-- What is written down of a run of the original, and of the transcription: for lists of examples. Definitions only.
use Rattle.std.specs.Prelude.{Bool, List, [], ◌∷◌, ◌++◌}
use Rattle.pmtl.specs.Calls.{Call}
use Rattle.original.specs.Rust.{Ran, Option, ◌>>=◌}
use Rattle.original.specs.Rust.Ran.{panic, done}
use Rattle.original.specs.PmtlOracle.{PmtlOracle, output_assumes, output_guarantees, final_output_assumes, final_output_guarantees}
use Rattle.original.specs.Replay.{made}

-- what the transcription gives, and what the original gave
pub record Example (A : Type 0) : Type 0 where
  pub found : A
  pub stated : A

-- the two parts, as functions
abbrev pub found_in : {A : Type 0} → Example A → A
found_in x = x.found

abbrev pub stated_in : {A : Type 0} → Example A → A
stated_in x = x.stated

-- an example, written
infixl 20 ◌gives◌
abbrev pub ◌gives◌ : {A : Type 0} → A → A → Example A
found gives stated = record { found = found; stated = stated }

-- the early answers and the values of all properties, assumes first
abbrev pub Answered : Type 0
Answered = List (Option Bool) × List Bool

-- those that the four iterators give
unfoldable pub answered : PmtlOracle → Ran Answered
answered o = do
  assumes ← final_output_assumes o
  guarantees ← final_output_guarantees o
  done (output_assumes o ++ output_guarantees o, assumes ++ guarantees)

-- those before the first call and after each, the oldest call first, up to a panic
unfoldable pub trace : List Call → Ran PmtlOracle → List (Ran Answered)
trace [] panic = panic ∷ []
trace [] (done o) = answered o ∷ []
trace (k ∷ ks) panic = panic ∷ []
trace (k ∷ ks) (done o) = answered o ∷ trace ks (made o k)
