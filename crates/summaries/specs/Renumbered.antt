-- Lines and summaries whose calls are numbered anew. Definitions only.
use Rattle.std.specs.Prelude.{ℕ}
use Rattle.report.specs.Lines.{CallLine}
use Rattle.ledger.specs.declared.Summary.{Summary}

-- a call's line, by another number
abbrev pub renumbered_line : (ℕ → ℕ) → CallLine → CallLine
renumbered_line f l = record { number = f l.number; refusal = l.refusal; rest = l.rest }

-- a summary, its three calls by other numbers; what is counted stays
abbrev pub renumbered : (ℕ → ℕ) → Summary → Summary
renumbered f s = record {
  accepted = s.accepted;
  failed = s.failed;
  first = f s.first;
  last = f s.last;
  longest = s.longest;
  settled = f s.settled;
}
