-- A private step of the summaries. Definitions only.
use Rattle.std.specs.Prelude.{ℕ, List}
use Rattle.ledger.specs.declared.Summary.{Summary}
use Rattle.ledger.specs.Ledger.{no_entry, summary_from}
use Rattle.memory.specs.Memory.{taken_word}

-- the summary of a property that is not there
abbrev pub absent_in : List ℕ → Summary
absent_in m = summary_from (taken_word m) no_entry
