-- The answers of a row as the code finds them: by what was told of the sets. Definitions only.
use Rattle.std.specs.Prelude.{ℕ, Bool, List, eqb}
use Rattle.pmtl.specs.declared.Answer.{Answer}
use Rattle.pmtl.specs.declared.Answer.TheVariants.{Open}
use Rattle.pmtl.specs.Book.{answer}
use Rattle.pmtl.specs.Early.{early_rule}
use Rattle.pmtl.specs.Settled.{settled_rule}
use Rattle.memory.specs.Memory.{slot_at, told_at, rows_of}
use Rattle.memory.specs.Tables.{COVERS, GONE}

-- a row was told that its set covers, that it is gone
abbrev pub covers_in : List ℕ → ℕ → Bool
covers_in m r = eqb (told_at m (slot_at m r)) COVERS

abbrev pub gone_in : List ℕ → ℕ → Bool
gone_in m r = eqb (told_at m (slot_at m r)) GONE

-- the early and the settled answer of a row, by what the rows were told
abbrev pub early_told : List ℕ → ℕ → Answer
early_told m = answer (rows_of m) Open (λ r row. early_rule (covers_in m r) row)

abbrev pub settled_told : List ℕ → ℕ → Answer
settled_told m = answer (rows_of m) Open (λ r row. settled_rule (covers_in m r) (gone_in m r) row)
