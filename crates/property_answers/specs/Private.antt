-- A private step of the answers: how a digit is read. Definitions only.
use Rattle.std.specs.Prelude.{ℕ, zero, suc}
use Rattle.pmtl.specs.declared.Answer.{Answer}
use Rattle.pmtl.specs.declared.Answer.TheVariants.{False, True, Open}

-- the answer whose digit this is
abbrev pub answer_of : ℕ → Answer
answer_of zero = False
answer_of (suc zero) = True
answer_of (suc (suc d)) = Open
