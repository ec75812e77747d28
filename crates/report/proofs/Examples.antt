-- The whole case of REFERENCE 8.6, the empty input and a book that strict loading refuses, computed from the definition of the report. Assumes nothing.
use Prim.Native.Nat.{ℕ}
use mathlib.Core.Path.{◌≡◌, refl, ◌∙◌}
use mathlib.Core.List.{List, [], ◌∷◌}
use Rattle.numset.specs.Runs.{has, covers, kept, insert, union}
use Rattle.pmtl.specs.Book.{stop, width_of, table, answer, every, some}
use Rattle.pmtl.specs.Sets.{gone, stays_if, added_if, renewed, set_rule_by}
use Rattle.pmtl.specs.Monitor.{most_runs, initial_in, value_rule, value, step_by}
use Rattle.pmtl.specs.Early.{early_rule, early}
use Rattle.pmtl.specs.Settled.{settled_true, settled_false, settled}
use Rattle.pmtl.specs.Calls.{refusal, crowded, play, call}
use Rattle.book.specs.Rows.{row_from, count_of}
use Rattle.lists.specs.Lists.{listed}
use Rattle.book.specs.Reading.{section, next, sections}
use Rattle.book.specs.declared.loading.Loading.{Loading}
use Rattle.book.specs.declared.loading.Loading.TheVariants.{Ordinary, Strict}
use Rattle.book.specs.Judging.{temporals_in, start_in, first_to, all_to, arg_good, form_good, range_good, row_number, operands_good, links_good, times_in, used_once, judged, row_in, book_in, loaded_from}
use Rattle.pmtl.specs.Strict.{needed, needed_by, first_over}
use Rattle.book.specs.Strict.{excess_in}
use Rattle.ledger.specs.Ledger.{noted, entries_after, next as nextLedger, ledger_from}
use Rattle.property_answers.specs.Verdict.{verdict_in}
use Rattle.text.specs.Words.{pick, parts, digit, letters, all_digits, said, plain, good, begun, written_words, supplied, supply}
use Rattle.text.specs.Decimals.{digits_before, decimal}
use Rattle.report.specs.Lines.{time_from, state_from, stamped_from, call_from, or_stop, ending_of, calls_from, calls_after, line_of, lines_of, end_lines, lines_from, call_lines, book_then, book_lines, lines}
use Rattle.report.specs.Report.{excess_words, book_line, stop_line, end_line, last_line, property_word, property_words, rest_words, call_line, summary_line, line, written, report}

-- the report, by what every definition says
unfoldable pub report_of : Loading → List ℕ → List ℕ
unfolding has covers insert union stop width_of table answer every some kept gone stays_if added_if renewed set_rule_by most_runs initial_in value_rule value step_by early_rule early settled_true settled_false settled refusal crowded play call row_from count_of listed section next sections temporals_in start_in first_to all_to arg_good form_good range_good row_number operands_good links_good times_in used_once judged row_in book_in loaded_from needed needed_by first_over excess_in verdict_in pick parts digit letters all_digits said plain good begun written_words supplied supply digits_before decimal time_from state_from stamped_from call_from or_stop ending_of calls_from calls_after line_of lines_of noted entries_after nextLedger ledger_from end_lines lines_from call_lines book_then book_lines lines excess_words book_line stop_line end_line last_line property_word property_words rest_words call_line summary_line line written report
report_of way s = report way s

pub opened : (way : Loading) (s : List ℕ) → report way s ≡ report_of way s
unfolding report_of
opened way s = refl

-- the whole case, its input and its report
abbrev pub case_input : List ℕ
case_input = 51 ∷ 10 ∷ 50 ∷ 32 ∷ 48 ∷ 32 ∷ 48 ∷ 32 ∷ 48 ∷ 10 ∷ 56 ∷ 32 ∷ 49 ∷ 32 ∷ 48 ∷ 32 ∷ 49 ∷ 56 ∷ 52 ∷ 52 ∷ 54 ∷ 55 ∷ 52 ∷ 52 ∷ 48 ∷ 55 ∷ 51 ∷ 55 ∷ 48 ∷ 57 ∷ 53 ∷ 53 ∷ 49 ∷ 54 ∷ 49 ∷ 53 ∷ 10 ∷ 55 ∷ 32 ∷ 49 ∷ 32 ∷ 48 ∷ 32 ∷ 49 ∷ 56 ∷ 52 ∷ 52 ∷ 54 ∷ 55 ∷ 52 ∷ 52 ∷ 48 ∷ 55 ∷ 51 ∷ 55 ∷ 48 ∷ 57 ∷ 53 ∷ 53 ∷ 49 ∷ 54 ∷ 49 ∷ 53 ∷ 10 ∷ 50 ∷ 32 ∷ 48 ∷ 32 ∷ 49 ∷ 10 ∷ 48 ∷ 10 ∷ 49 ∷ 32 ∷ 50 ∷ 10 ∷ 52 ∷ 10 ∷ 49 ∷ 32 ∷ 49 ∷ 32 ∷ 48 ∷ 10 ∷ 48 ∷ 32 ∷ 49 ∷ 10 ∷ 49 ∷ 32 ∷ 49 ∷ 32 ∷ 49 ∷ 10 ∷ 48 ∷ 32 ∷ 53 ∷ 10 ∷ []

abbrev pub case_report : List ℕ
case_report = 98 ∷ 111 ∷ 111 ∷ 107 ∷ 32 ∷ 48 ∷ 10 ∷ 49 ∷ 32 ∷ 48 ∷ 32 ∷ 48 ∷ 48 ∷ 48 ∷ 32 ∷ 49 ∷ 10 ∷ 50 ∷ 32 ∷ 48 ∷ 32 ∷ 48 ∷ 48 ∷ 48 ∷ 32 ∷ 49 ∷ 10 ∷ 51 ∷ 32 ∷ 48 ∷ 32 ∷ 48 ∷ 49 ∷ 48 ∷ 32 ∷ 49 ∷ 10 ∷ 52 ∷ 32 ∷ 48 ∷ 32 ∷ 48 ∷ 49 ∷ 48 ∷ 32 ∷ 49 ∷ 10 ∷ 52 ∷ 32 ∷ 52 ∷ 32 ∷ 49 ∷ 32 ∷ 52 ∷ 32 ∷ 52 ∷ 32 ∷ 49 ∷ 10 ∷ 101 ∷ 110 ∷ 100 ∷ 10 ∷ []

pub whole : report Ordinary case_input ≡ case_report
unfolding report_of
whole = opened Ordinary case_input ∙ refl

-- the empty input: `book 1`
pub empty : report Ordinary [] ≡ 98 ∷ 111 ∷ 111 ∷ 107 ∷ 32 ∷ 49 ∷ 10 ∷ []
unfolding report_of
empty = opened Ordinary [] ∙ refl

-- Once[128,128] a, which can need 65 runs: `book 15 1 65` where the book is loaded strictly
abbrev pub over_input : List ℕ
over_input = 50 ∷ 32 ∷ 50 ∷ 32 ∷ 48 ∷ 32 ∷ 48 ∷ 32 ∷ 48 ∷ 32 ∷ 56 ∷ 32 ∷ 49 ∷ 32 ∷ 49 ∷ 50 ∷ 56 ∷ 32 ∷ 49 ∷ 50 ∷ 56 ∷ 32 ∷ 49 ∷ 32 ∷ 48 ∷ 32 ∷ 48 ∷ 32 ∷ 49 ∷ 32 ∷ 49 ∷ 32 ∷ 48 ∷ []

pub over : report Strict over_input ≡ 98 ∷ 111 ∷ 111 ∷ 107 ∷ 32 ∷ 49 ∷ 53 ∷ 32 ∷ 49 ∷ 32 ∷ 54 ∷ 53 ∷ 10 ∷ []
unfolding report_of
over = opened Strict over_input ∙ refl
