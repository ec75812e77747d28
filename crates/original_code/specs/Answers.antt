-- What it means that the answers handed back by our code are those of the original. Definitions only.
use Rattle.std.specs.Prelude.{ℕ, ◌≡◌, Bool, List, map, length, take}
use Rattle.memory.specs.Memory.{clock_of}
use Rattle.lists.specs.Lists.{listed}
use Rattle.property_answers.specs.declared.Verdict.{Verdict}
use Rattle.property_answers.specs.Verdict.{verdict_of, properties_in, answers_number, answers_list}
use Rattle.original.specs.Rust.{Option}
use Rattle.original.specs.Rust.Ran.{done}
use Rattle.original.specs.PmtlOracle.{PmtlOracle}
use Rattle.original.specs.Agrees.{option_of}
use Rattle.original.specs.Recorded.{answered}

-- a record's early answer as the original has it
abbrev pub early_in : Verdict → Option Bool
early_in v = option_of v.early

-- a record's value
abbrev pub value_in : Verdict → Bool
value_in v = v.value

-- the records that `answers` leaves for the properties of the monitor m in a lent list
abbrev pub handed : List ℕ → List Verdict → List Verdict
handed m out = take (properties_in m) (answers_list m out)

-- the monitor that the memory m holds answers as the original o, property by property, assumes first: `of_property` of each, and `answers` into a list that is not too short
pub record Answers (m : List ℕ) (o : PmtlOracle) : Type 0 where
  pub time : o.time ≡ clock_of m
  pub of_properties : answered o ≡ done (listed (λ i. early_in (verdict_of m i)) (properties_in m), listed (λ i. value_in (verdict_of m i)) (properties_in m))
  pub of_answers : (out : List Verdict) → answers_number m (length out) ≡ 0 → answered o ≡ done (map early_in (handed m out), map value_in (handed m out))
