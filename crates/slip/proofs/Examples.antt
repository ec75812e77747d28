-- The hypotheses of the theorems can be met, and the bound is reached: computed by the checker. Assumes nothing.
use Prim.Native.Nat.{ℕ}
use native.Mathlib.Omega.{arith}
use mathlib.Core.Path.{◌≡◌, refl, sym, ap, ◌∙◌}
use mathlib.Core.List.{List, [], ◌∷◌}
use lib.ListN.{length, get_or}
use Rattle.text.specs.Words.{pick, parts, digit, letters, all_digits, said, plain, good, begun, written_words, supplied, supply}
use Rattle.pmtl.specs.Calls.Call.{time}
use Rattle.book.specs.Reading.{section, next, sections}
use Rattle.book.specs.declared.loading.Loading.TheVariants.{Ordinary}
use Rattle.text.specs.Decimals.{digits_before, decimal}
use Rattle.report.specs.Lines.{PropertyWord, nothing, told, called, summed, last, end, time_from, call_from, or_stop, calls_from, calls_after, lines}
use Rattle.report.specs.Report.{property_word, property_words, rest_words, call_line, summary_line, line, written, report}
use Rattle.report.proofs.Examples.{report_of, opened, case_input, whole}
use Rattle.slip.specs.Back.{before, pieces, word_in, word_then, rest_in, excess_said, sums, summary_in, line_in, lines_in}
use Rattle.slip.specs.Says.{words_after, no_line, SaidTwice, Says, summaries_among, final_line}
use Rattle.slip.specs.TakenOut.{all_words, CallAt, TakenOut}
use Rattle.slip.specs.Longest.{longest_stopped}
use Rattle.slip.proofs.Theorems.{read_back}

-- lines of a report that is known
known_lines : {bytes : List ℕ} (input : List ℕ) → report Ordinary input ≡ bytes → lines Ordinary input ≡ lines_in bytes
known_lines input e = sym (read_back Ordinary input) ∙ ap lines_in e

-- ---- a settled word: in the whole case of REFERENCE 8.6 the line of call 3 says 010 of the property, and 1 run
pub a_word : Says (lines Ordinary case_input) 3 0 (record { value = 0; early = 1; settled = 0 })
unfolding lines_in pieces before excess_said sums summary_in line_in word_in word_then rest_in said
a_word = record {
  line = record { number = 3; refusal = 0; rest = told (record { value = 0; early = 1; settled = 0 } ∷ []) 1 };
  stands = ap (λ ls. get_or ls 3 no_line) (known_lines case_input whole);
  accepted = refl;
  there = omega arith;
  word = refl;
}

-- and before `end` it has one summary, of four calls that all left the property false, which settled at the first
pub a_summary : summaries_among (lines Ordinary case_input) ≡ record { accepted = 4; failed = 4; first = 1; last = 4; longest = 4; settled = 1 } ∷ []
unfolding lines_in pieces before excess_said sums summary_in line_in word_in word_then rest_in said summaries_among
a_summary = ap summaries_among (known_lines case_input whole)

pub it_ends : final_line (lines Ordinary case_input) ≡ last end
unfolding lines_in pieces before excess_said sums summary_in line_in word_in word_then rest_in said final_line
it_ends = ap final_line (known_lines case_input whole)

-- ---- two lines that are written alike, `5 1 122 122 122 7`: no report has the first, which has words after a refusal
abbrev pub three_words : List PropertyWord
three_words = let w : PropertyWord = record { value = 1; early = 2; settled = 2 } in w ∷ w ∷ w ∷ []

pub alike : written (called (record { number = 5; refusal = 1; rest = told three_words 7 }) ∷ []) ≡ written (summed (record { accepted = 5; failed = 1; first = 122; last = 122; longest = 122; settled = 7 }) ∷ [])
unfolding written line call_line summary_line rest_words property_words property_word decimal digits_before
alike = refl

-- ---- a refused call: `0 0 0 0 2 0 5 0 3`, a book with nothing in it and the times 5 and 3; and without the second
abbrev pub two_times : List ℕ
two_times = 48 ∷ 32 ∷ 48 ∷ 32 ∷ 48 ∷ 32 ∷ 48 ∷ 32 ∷ 50 ∷ 32 ∷ 48 ∷ 32 ∷ 53 ∷ 32 ∷ 48 ∷ 32 ∷ 51 ∷ []

abbrev pub one_time : List ℕ
one_time = 48 ∷ 32 ∷ 48 ∷ 32 ∷ 48 ∷ 32 ∷ 48 ∷ 32 ∷ 49 ∷ 32 ∷ 48 ∷ 32 ∷ 53 ∷ []

times_report : report Ordinary two_times ≡ 98 ∷ 111 ∷ 111 ∷ 107 ∷ 32 ∷ 48 ∷ 10 ∷ 49 ∷ 32 ∷ 48 ∷ 32 ∷ 48 ∷ 10 ∷ 50 ∷ 32 ∷ 55 ∷ 10 ∷ 101 ∷ 110 ∷ 100 ∷ 10 ∷ []
unfolding report_of
times_report = opened Ordinary two_times ∙ refl

pub a_refused_line : get_or (lines Ordinary two_times) 2 no_line ≡ called (record { number = 2; refusal = 7; rest = nothing })
unfolding lines_in pieces before excess_said sums summary_in line_in word_in word_then rest_in said
a_refused_line = ap (λ ls. get_or ls 2 no_line) (known_lines two_times times_report)

pub its_call : CallAt two_times 2
unfolding all_words section next sections pick parts digit letters all_digits said plain good begun written_words supplied supply
its_call = record {
  book = record { rows = []; operands = []; assumes = []; guarantees = [] };
  fewer = 1;
  before = time 5 ∷ [];
  itself = time 3;
  rest = [];
  place = refl;
  counted = omega arith;
  fits_before = (tt, tt);
  fits = tt;
  words = refl;
}

pub taken_out : TakenOut its_call one_time
unfolding its_call all_words section next sections pick parts digit letters all_digits said plain good begun written_words supplied supply
taken_out = record { short = omega arith; ending = refl; words = refl }

-- ---- a call that the text says twice: `0 0 0 0 2 0 5 0 5`
abbrev pub same_times : List ℕ
same_times = 48 ∷ 32 ∷ 48 ∷ 32 ∷ 48 ∷ 32 ∷ 48 ∷ 32 ∷ 50 ∷ 32 ∷ 48 ∷ 32 ∷ 53 ∷ 32 ∷ 48 ∷ 32 ∷ 53 ∷ []

pub said_twice : SaidTwice same_times 1
unfolding words_after calls_after calls_from call_from time_from or_stop section next sections pick parts digit letters all_digits said plain good begun written_words supplied supply
said_twice = record { there = omega arith; same = refl }

-- ---- the bound: `0 0 0 0 x` has a report of as many bytes as any may have that ends with `stop`, for an input of its length
abbrev pub tight : List ℕ
tight = 48 ∷ 32 ∷ 48 ∷ 32 ∷ 48 ∷ 32 ∷ 48 ∷ 32 ∷ 120 ∷ []

pub reached : length (report Ordinary tight) ≡ longest_stopped (length tight)
unfolding report_of
reached = ap length (opened Ordinary tight) ∙ refl
