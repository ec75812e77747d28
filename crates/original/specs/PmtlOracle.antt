-- oracle.rs: PmtlOracle and what it implements of the trait Oracle, function by function, in its order. Definitions only.
use Rattle.std.specs.Prelude.{ℕ, Bool, true, false, List, map, leb}
use Rattle.original.specs.Rust.{Ran, Option, each, ◌>>=◌}
use Rattle.original.specs.Rust.Ran.{panic, done}
use Rattle.original.specs.ValPmtl.{Pmtl, ValPmtl, from, output, update_state as update-state-of, update_time as update-time-of, valuation}

-- struct PmtlOracle
pub record PmtlOracle : Type 0 where
  pub assumes : List ValPmtl
  pub guarantees : List ValPmtl
  pub time : ℕ

-- fn new
abbrev pub new : List Pmtl → List Pmtl → PmtlOracle
new assumes guarantees = record { assumes = map from assumes; guarantees = map from guarantees; time = 0 }

-- fn output_assumes: what it iterates over
abbrev pub output_assumes : PmtlOracle → List (Option Bool)
output_assumes self = map (λ f. valuation f self.time) self.assumes

-- fn output_guarantees
abbrev pub output_guarantees : PmtlOracle → List (Option Bool)
output_guarantees self = map (λ f. valuation f self.time) self.guarantees

-- fn final_output_assumes: what it iterates over, taken to its end
abbrev pub final_output_assumes : PmtlOracle → Ran (List Bool)
final_output_assumes self = each (λ f. output f self.time) self.assumes

-- fn final_output_guarantees
abbrev pub final_output_guarantees : PmtlOracle → Ran (List Bool)
final_output_guarantees self = each (λ f. output f self.time) self.guarantees

-- fn update_state
unfoldable pub update_state : PmtlOracle → List Bool → Ran PmtlOracle
update_state self state = do
  assumes ← each (λ f. update-state-of f state self.time) self.assumes
  guarantees ← each (λ f. update-state-of f state self.time) self.guarantees
  done (record { assumes = assumes; guarantees = guarantees; time = self.time })

-- fn update_time: `assert!(self.time <= time)` panics
unfoldable pub update_time : PmtlOracle → ℕ → Ran PmtlOracle
update_time self time = elim (leb self.time time) [
  | false ↦ panic
  | true ↦ do
    assumes ← each (λ f. update-time-of f time) self.assumes
    guarantees ← each (λ f. update-time-of f time) self.guarantees
    done (record { assumes = assumes; guarantees = guarantees; time = time })
]
