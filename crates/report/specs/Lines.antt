-- REFERENCE 8: the report of any input as records, line by line. `Report` says how a line is written. Definitions only.
use Rattle.std.specs.Prelude.{ℕ, Option, None, zero, suc, cond, List, [], ◌∷◌, ◌++◌, map, length, ltb, eqb}
use Rattle.lists.specs.Lists.{listed}
use Rattle.text.specs.Words.{supply}
use Rattle.numbers.specs.Refusals.{BAD_WORD, ACCEPTED, PAST_LIMIT, WRONG_LENGTH}
use Rattle.pmtl.specs.Book.{Book, properties}
use Rattle.pmtl.specs.Answer.{bit_of, digit_of}
use Rattle.pmtl.specs.Sets.{Way}
use Rattle.pmtl.specs.Monitor.{State, fullest, initial_in}
use Rattle.numbers.specs.Limits.{MOST_ATOMS, LONGEST_INPUT}
use Rattle.pmtl.specs.Calls.{Call, Outcome, call}
use Rattle.pmtl.specs.Calls.Call.{time, state, stamped}
use Rattle.book.specs.Reading.{Read, section, next, Sections, sections}
use Rattle.book.specs.Reading.Read.{got, refused}
use Rattle.book.specs.declared.loading.Loading.{Loading}
use Rattle.book.specs.declared.strict.Excess.{Excess}
use Rattle.book.specs.Strict.{excess_by}
use Rattle.book.specs.Loading.{way_in, admitted}
use Rattle.book.specs.Judging.{Loaded, loaded_from}
use Rattle.ledger.specs.declared.Summary.{Summary}
use Rattle.ledger.specs.Ledger.{Ledger, blank_ledger, summary_at, ledger_from}
use Rattle.property_answers.specs.declared.Verdict.{Verdict}
use Rattle.property_answers.specs.Verdict.{verdict_in}

-- ---- the records
-- a property's word: three digits, value, early, settled; 2 is open
pub record PropertyWord : Type 0 where
  pub value : ℕ
  pub early : ℕ
  pub settled : ℕ

-- what follows the refusal on a call's line: nothing; or of an accepted call one word per property, assumes first, and the count
pub data Rest : Type 0 where
  nothing : Rest
  told : List PropertyWord → ℕ → Rest

-- its words, and its count
abbrev pub words_in : Rest → List PropertyWord
words_in nothing = []
words_in (told ws count) = ws

abbrev pub count_in : Rest → ℕ
count_in nothing = 0
count_in (told ws count) = count

-- a call's line: its number from 1, its refusal, and what follows
pub record CallLine : Type 0 where
  pub number : ℕ
  pub refusal : ℕ
  pub rest : Rest

-- how a report ends: all was read, or a number ended the reading
pub data Ending : Type 0 where
  end : Ending
  stop : ℕ → Ending

-- a line: the book's number, and what strict loading refuses in it; a call; the summary of a property; how it ended
pub data Line : Type 0 where
  book : ℕ → Option Excess → Line
  called : CallLine → Line
  summed : Summary → Line
  last : Ending → Line

-- ---- reading calls: `0 time`; or `1 width` and that many state words; or `2 time width` and those; another kind is 13
unfoldable pub time_from : ℕ → List ℕ → Read Call
time_from ending [] = refused ending
time_from ending (t ∷ ws) = got (time t) ws

-- a width and its state words, and the call that has them
unfoldable pub state_from : (List ℕ → Call) → ℕ → List ℕ → Read Call
state_from asCall ending ws = next (section ending MOST_ATOMS 1 ws) λ bytes rest. got (asCall bytes) rest

unfoldable pub stamped_from : ℕ → List ℕ → Read Call
stamped_from ending [] = refused ending
stamped_from ending (t ∷ ws) = state_from (stamped t) ending ws

unfoldable pub call_from : ℕ → List ℕ → Read Call
call_from ending [] = refused ending
call_from ending (kind ∷ ws) =
    cond (eqb kind 0) (time_from ending ws) (cond (eqb kind 1) (state_from state ending ws) (cond (eqb kind 2) (stamped_from ending ws) (refused BAD_WORD)))

-- the calls that are read, in order, and how reading them ended
pub record CallsRead : Type 0 where
  pub calls : List Call
  pub ends : Ending

-- no call
abbrev pub no_call : Ending → CallsRead
no_call e = record { calls = []; ends = e }

-- one call more, before the others
abbrev pub call_then : Call → CallsRead → CallsRead
call_then k r = record { calls = k ∷ r.calls; ends = r.ends }

-- what follows a reading; one that ends gives its number
unfoldable pub or_stop : {A : Type 0} → Read A → (A → List ℕ → CallsRead) → CallsRead
or_stop (got x ws) f = f x ws
or_stop (refused n) f = no_call (stop n)

-- after the last call: a further word is 1, or 13 if bad; otherwise all was read
unfoldable pub ending_of : ℕ → List ℕ → Ending
ending_of ending [] = cond (eqb ending BAD_WORD) (stop BAD_WORD) end
ending_of ending (w ∷ ws) = stop WRONG_LENGTH

-- the calls that are left, so many
unfoldable pub calls_from : ℕ → ℕ → List ℕ → CallsRead
calls_from ending zero ws = no_call (ending_of ending ws)
calls_from ending (suc left) ws = or_stop (call_from ending ws) λ k rest. call_then k (calls_from ending left rest)

-- the calls after their count
unfoldable pub calls_after : ℕ → List ℕ → CallsRead
calls_after ending [] = no_call (stop ending)
calls_after ending (count ∷ ws) = calls_from ending count ws

-- ---- lines
-- a property's word, of its answers
abbrev pub word_of : Verdict → PropertyWord
word_of v = record { value = bit_of v.value; early = digit_of v.early; settled = digit_of v.settled }

-- what a monitor's state answers of the properties, and how many runs its fullest set has
abbrev pub rest_of : Book → State → Rest
rest_of b st = told (listed (λ p. word_of (verdict_in b st p)) (length (properties b))) (fullest st)

-- the line of call i, of what came of it
unfoldable pub line_of : Book → ℕ → Outcome → CallLine
line_of b i o = record { number = i; refusal = o.number; rest = cond (eqb o.number ACCEPTED) (rest_of b o.state) nothing }

-- the lines of calls, after so many done, from a state
unfoldable pub lines_of : Book → ℕ → State → List Call → List CallLine
lines_of b done st [] = []
lines_of b done st (k ∷ ks) = line_of b (suc done) (call b.rows st k) ∷ lines_of b (suc done) (call b.rows st k).state ks

-- the summaries of the properties, assumes first
abbrev pub summaries_of : Ledger → List Summary
summaries_of l = listed (summary_at l) (length l.entries)

-- the lines after the calls, by what was counted of them: the summaries and `end`; or `stop` alone
unfoldable pub end_lines : Ledger → Ending → List Line
end_lines l end = map summed (summaries_of l) ++ last end ∷ []
end_lines l (stop n) = last (stop n) ∷ []

-- both, from a state and a ledger
unfoldable pub lines_from : Book → ℕ → State → Ledger → CallsRead → List Line
lines_from b done st l r = map called (lines_of b done st r.calls) ++ end_lines (ledger_from b st l r.calls) r.ends

-- those of the calls on a fresh monitor, in a way of monitoring
unfoldable pub call_lines : Way → Book → ℕ → List ℕ → List Line
call_lines way b ending ws = lines_from b 0 (initial_in way b.rows) (blank_ledger b) (calls_after ending ws)

-- a book, loaded or refused in this way of loading: nothing follows a refused book
unfoldable pub book_then : Loading → Loaded → ℕ → List ℕ → List Line
book_then way l ending ws =
    let a = admitted way l in
    book a.number (excess_by way l.book.rows) ∷ cond (eqb a.number ACCEPTED) (call_lines (way_in way) a.book ending ws) []

unfoldable pub book_lines : Loading → Read Sections → ℕ → List Line
book_lines way (got s ws) ending = book_then way (loaded_from s) ending ws
book_lines way (refused n) ending = book n None ∷ []

-- the lines of a report; an input that is too long gives only `stop 2`
unfoldable pub lines : Loading → List ℕ → List Line
lines way input = cond (ltb LONGEST_INPUT (length input)) (last (stop PAST_LIMIT) ∷ [])
    (book_lines way (sections (supply input).ending (supply input).words) (supply input).ending)
