-- The settled answer by the first rule, which asked for an empty set where the rule now asks for one with no instant at or after the clock. Only the
-- theorem that nothing unsettles cites it. Definitions only.
use Rattle.std.specs.Prelude.{ℕ, Bool, true, false, cond, [], ◌∷◌}
use Rattle.numset.specs.Runs.{Runs, covers}
use Rattle.pmtl.specs.declared.Answer.{Answer}
use Rattle.pmtl.specs.declared.Answer.TheVariants.{Open}
use Rattle.pmtl.specs.Book.{Rows, answer}
use Rattle.pmtl.specs.Monitor.{State, set_at}
use Rattle.pmtl.specs.Settled.{settled_rule}

-- the set is empty
unfoldable pub is_empty : Runs → Bool
is_empty [] = true
is_empty (r ∷ rs) = false

-- the settled answer of a row in a state, by that rule
unfoldable pub settled_first : Rows → State → ℕ → Answer
settled_first b st r =
    cond st.begun (answer b Open (λ n row. settled_rule (covers st.now.clock (set_at st n)) (is_empty (set_at st n)) row) r) Open
