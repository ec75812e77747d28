-- REFERENCE 4.7: the summaries of a loaded monitor's properties. Definitions only.
use Rattle.std.specs.Prelude.{ℕ, List}
use Rattle.ledger.specs.declared.Summary.{Summary}
use Rattle.ledger.specs.Ledger.{summary_at}
use Rattle.memory.specs.Memory.{ledger_of}
use Rattle.property_answers.specs.Verdict.{records_list}

-- the summary of property p, assumes first; if there is no such property, the accepted calls and zeros
abbrev pub summary_of : List ℕ → ℕ → Summary
summary_of m p = summary_at (ledger_of m) p

-- what asking for all summaries leaves of a lent list: a record for each property, assumes first, and the records beyond as they were; or all of it
-- as it was, where it is too short. The number that is handed back is that of the answers
unfoldable pub summaries_list : List ℕ → List Summary → List Summary
summaries_list m out = records_list m (summary_of m) out
