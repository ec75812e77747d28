-- Summaries computed by the checker: of lines, and of the loan desk's calls, by recount and call by call. Assumes nothing.
use Prim.Native.Nat.{ℕ}
use mathlib.Core.Path.{◌≡◌, refl}
use mathlib.Core.List.{List, [], ◌∷◌, reverse}
use Rattle.numbers.specs.Limits.{MAX}
use Rattle.numset.specs.Runs.{has, covers, kept, insert, union}
use Rattle.lists.specs.Lists.{listed}
use Rattle.pmtl.specs.Book.{Range, Book, stop, width_of, table, answer, every, some}
use Rattle.pmtl.specs.Book.Row.{atom, neg, implies, historically, since}
use Rattle.pmtl.specs.Sets.{Way, ordinary, gone, stays_if, added_if, renewed, set_rule_by}
use Rattle.pmtl.specs.Monitor.{most_runs, initial_in, value_rule, value, step_by}
use Rattle.pmtl.specs.Early.{early_rule, early}
use Rattle.pmtl.specs.Settled.{settled_true, settled_false, settled}
use Rattle.pmtl.specs.Calls.{Call, first_of, refusal, crowded, play, call, after_in}
use Rattle.pmtl.specs.Calls.Call.{time, state, stamped}
use Rattle.property_answers.specs.Verdict.{verdict_in}
use Rattle.report.specs.Lines.{nothing, told, CallLine, line_of, lines_of}
use Rattle.ledger.specs.declared.Summary.{Summary}
use Rattle.summaries.specs.Recount.{accepted_of, numbers_if, stretch_of, longest_of, recount}
use Rattle.ledger.specs.Ledger.{Ledger, summary_at, noted, entries_after, next, ledger_in}

-- ---- of lines
-- the line of an accepted call about one property, and that of a refused one
abbrev says : ℕ → ℕ → ℕ → CallLine
says number value settled = record { number = number; refusal = 0; rest = told (record { value = value; early = 2; settled = settled } ∷ []) 0 }

abbrev refuses : ℕ → CallLine
refuses number = record { number = number; refusal = 7; rest = nothing }

-- false at calls 2, 4 and 6, of which the refused call 3 does not part the first two; settled at call 6
pub of_lines : recount 0 (says 1 1 2 ∷ says 2 0 2 ∷ refuses 3 ∷ says 4 0 2 ∷ says 5 1 2 ∷ says 6 0 0 ∷ refuses 7 ∷ [])
    ≡ record { accepted = 5; failed = 3; first = 2; last = 6; longest = 2; settled = 6 }
unfolding recount accepted_of numbers_if stretch_of longest_of
of_lines = refl

-- a stretch that reaches to the last call counts; later calls leave the first that failed and the call at which it settled
pub of_last_lines : recount 0 (says 1 0 2 ∷ says 2 1 2 ∷ says 3 0 0 ∷ says 4 0 0 ∷ says 5 0 0 ∷ [])
    ≡ record { accepted = 5; failed = 4; first = 1; last = 5; longest = 3; settled = 3 }
unfolding recount accepted_of numbers_if stretch_of longest_of
of_last_lines = refl

-- no line, and none but refused ones
pub of_no_lines : recount 0 (refuses 1 ∷ []) ≡ record { accepted = 0; failed = 0; first = 0; last = 0; longest = 0; settled = 0 }
unfolding recount accepted_of numbers_if stretch_of longest_of
of_no_lines = refl

-- ---- of calls, the oldest first
-- the lines and the ledger, by what every definition says
unfoldable pub lines_said : Way → Book → List Call → List CallLine
unfolding has covers kept insert union listed stop width_of table answer every some gone stays_if added_if renewed set_rule_by most_runs initial_in value_rule value step_by early_rule early settled_true settled_false settled first_of refusal crowded play call verdict_in line_of lines_of
lines_said way b calls = lines_of b 0 (initial_in way b.rows) calls

unfoldable pub ledger_said : Way → Book → List Call → Ledger
unfolding has covers kept insert union listed stop width_of table answer every some gone stays_if added_if renewed set_rule_by most_runs initial_in value_rule value step_by settled_true settled_false settled first_of refusal crowded play call after_in noted entries_after next ledger_in
ledger_said way b calls = ledger_in way b (reverse calls)

-- the loan desk: every kit handed out so far had been promised within three days and not returned since
abbrev range : ℕ → ℕ → Range
range lower upper = record { lower = lower; upper = upper }

abbrev pub loan_book : Book
loan_book = record {
  rows = atom 0 ∷ atom 1 ∷ atom 2 ∷ neg 2 ∷ since (range 0 72) 3 0 ∷ implies 1 4 ∷ historically (range 0 MAX) 5 ∷ [];
  assumes = [];
  guarantees = 6 ∷ [];
}

-- its scans, each a stamped state and the state all clear
abbrev clear : Call
clear = state (0 ∷ 0 ∷ 0 ∷ [])

abbrev pub loan_calls : List Call
loan_calls =
    stamped 9 (1 ∷ 0 ∷ 0 ∷ []) ∷ clear ∷ stamped 33 (0 ∷ 1 ∷ 0 ∷ []) ∷ clear ∷ stamped 58 (0 ∷ 0 ∷ 1 ∷ []) ∷ clear
    ∷ stamped 60 (0 ∷ 1 ∷ 0 ∷ []) ∷ clear ∷ stamped 61 (1 ∷ 0 ∷ 0 ∷ []) ∷ clear ∷ []

-- first failed at call 7, for four calls in a row, settled at call 7
abbrev pub loan_summary : Summary
loan_summary = record { accepted = 10; failed = 4; first = 7; last = 10; longest = 4; settled = 7 }

pub loan_recount : recount 0 (lines_said ordinary loan_book loan_calls) ≡ loan_summary
unfolding lines_said recount accepted_of numbers_if stretch_of longest_of
loan_recount = refl

pub loan_kept : summary_at (ledger_said ordinary loan_book loan_calls) 0 ≡ loan_summary
unfolding ledger_said
loan_kept = refl

-- with a time below the clock among the failures, which is refused: the numbers go on, the stretch does not break
abbrev pub loan_refused : List Call
loan_refused = stamped 60 (0 ∷ 1 ∷ 0 ∷ []) ∷ time 9 ∷ clear ∷ []

pub refused_kept : ledger_said ordinary loan_book loan_refused
    ≡ record { number = 3; accepted = 2; entries = record { failed = 2; first = 1; last = 3; longest = 2; settled = 1; stretch = 2 } ∷ [] }
unfolding ledger_said
refused_kept = refl
