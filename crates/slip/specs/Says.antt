-- What a text says, and what the lines of a report say. Definitions only.
use Rattle.std.specs.Prelude.{ℕ, suc, ◌-◌, ◌≤◌, ◌<◌, ◌≡◌, List, [], ◌∷◌, ◌++◌, map, reverse, length, get_or, take, Option, None}
use Rattle.numbers.specs.Limits.{LONGEST_INPUT}
use Rattle.numbers.specs.Refusals.{ACCEPTED, PAST_LIMIT}
use Rattle.text.specs.Words.{supply}
use Rattle.pmtl.specs.Book.{Book, properties}
use Rattle.pmtl.specs.Calls.{Call, call, after_in}
use Rattle.pmtl.specs.Calls.Call.{time}
use Rattle.book.specs.Reading.{Read, got, refused, Sections, sections}
use Rattle.book.specs.declared.loading.Loading.{Loading}
use Rattle.book.specs.declared.strict.Excess.{Excess}
use Rattle.book.specs.Strict.{excess_by}
use Rattle.book.specs.Loading.{way_in, admitted}
use Rattle.book.specs.Judging.{Loaded, refused_with, loaded_from}
use Rattle.lists.specs.Lists.{listed}
use Rattle.ledger.specs.declared.Summary.{Summary}
use Rattle.report.specs.Lines.{PropertyWord, nothing, words_in, CallLine, Ending, end, stop, Line, book, called, summed, last, CallsRead, calls_after, line_of, lines}
use Rattle.summaries.specs.Recount.{no_word, recount}

-- ---- what a text says
-- the sections of its book
abbrev pub sections_said : List ℕ → Read Sections
sections_said input = sections (supply input).ending (supply input).words

-- what loading them in a way comes to; an empty book where they are refused
unfoldable pub loaded_of : Loading → Read Sections → Loaded
loaded_of way (got s ws) = admitted way (loaded_from s)
loaded_of way (refused n) = refused_with n

abbrev pub book_said : Loading → List ℕ → Book
book_said way input = (loaded_of way (sections_said input)).book

-- what this way of loading refuses in a book that is in order
unfoldable pub excess_of : Loading → Read Sections → Option Excess
excess_of way (got s ws) = excess_by way (loaded_from s).book.rows
excess_of way (refused n) = None

-- the words after the book; none where it could not be read
unfoldable pub words_after : Read Sections → List ℕ
words_after (got s ws) = ws
words_after (refused n) = []

-- what is read after the book: the calls, in order, and how reading them ends
abbrev pub read_said : List ℕ → CallsRead
read_said input = calls_after (supply input).ending (words_after (sections_said input))

abbrev pub calls_said : List ℕ → List Call
calls_said input = (read_said input).calls

abbrev pub end_said : List ℕ → Ending
end_said input = (read_said input).ends

-- the first i of them, the newest first
abbrev pub first_calls : List ℕ → ℕ → List Call
first_calls input i = reverse (take i (calls_said input))

-- ---- what lines say. Line 0 is the book's
-- nothing where there is no such line, call
abbrev pub no_line : Line
no_line = last end

abbrev pub no_call_line : CallLine
no_call_line = record { number = 0; refusal = 0; rest = nothing }

abbrev pub missing_call : Call
missing_call = time 0

-- call i of a text, counted from 1, stands there again right after it
pub record SaidTwice (input : List ℕ) (i : ℕ) : Type 0 where
  pub there : i < length (calls_said input)
  pub same : get_or (calls_said input) i missing_call ≡ get_or (calls_said input) (i - 1) missing_call

-- line i is that of an accepted call, and w is its word for property p
pub record Says (ls : List Line) (i p : ℕ) (w : PropertyWord) : Type 0 where
  pub line : CallLine
  pub stands : get_or ls i no_line ≡ called line
  pub accepted : line.refusal ≡ ACCEPTED
  pub there : p < length (words_in line.rest)
  pub word : get_or (words_in line.rest) p no_word ≡ w

-- ---- the lines of calls and the summaries among lines, the oldest first, and the last line
abbrev pub calls_of : Line → List CallLine
calls_of (book n e) = []
calls_of (called l) = l ∷ []
calls_of (summed s) = []
calls_of (last e) = []

abbrev pub summary_of : Line → List Summary
summary_of (book n e) = []
summary_of (called l) = []
summary_of (summed s) = s ∷ []
summary_of (last e) = []

unfoldable pub calls_among : List Line → List CallLine
calls_among [] = []
calls_among (l ∷ ls) = calls_of l ++ calls_among ls

unfoldable pub summaries_among : List Line → List Summary
summaries_among [] = []
summaries_among (l ∷ ls) = summary_of l ++ summaries_among ls

unfoldable pub final_line : List Line → Line
final_line [] = no_line
final_line (l ∷ []) = l
final_line (l ∷ k ∷ ls) = final_line (k ∷ ls)

-- a recount of the lines of calls for each property, assumes first
abbrev pub recounts : Book → List CallLine → List Summary
recounts b calls = listed (λ p. recount p calls) (length (properties b))

-- what follows the lines of calls: before `end` these, and nothing before `stop`
unfoldable pub closing : Book → List CallLine → Ending → List Line
closing b calls end = map summed (recounts b calls) ++ last end ∷ []
closing b calls (stop n) = last (stop n) ∷ []

-- after a loaded book: a line for each call that the text says, in order, numbered from 1; where all was read a recount of them for each property; one
-- last line
pub record Whole (way : Loading) (input : List ℕ) : Type 0 where
  pub calls : List CallLine
  pub loads : (loaded_of way (sections_said input)).number ≡ ACCEPTED
  pub all : lines way input ≡ book ACCEPTED None ∷ map called calls ++ closing (book_said way input) calls (end_said input)
  pub each : length calls ≡ length (calls_said input)
  pub numbered : (i : ℕ) → i < length calls → (get_or calls i no_call_line).number ≡ suc i
  pub in_order : (i : ℕ) → i < length calls → get_or calls i no_call_line
      ≡ line_of (book_said way input) (suc i) (call (book_said way input).rows (after_in (way_in way) (book_said way input).rows (first_calls input i)) (get_or (calls_said input) i missing_call))

-- the lines of a report: those; nothing after a refused book; or the one line of an input that is too long
pub data Shape (way : Loading) (input : List ℕ) : Type 0 where
  whole : length input ≤ LONGEST_INPUT → Whole way input → Shape way input
  refused_book : ¬ ((loaded_of way (sections_said input)).number ≡ ACCEPTED) → lines way input ≡ book (loaded_of way (sections_said input)).number (excess_of way (sections_said input)) ∷ [] → Shape way input
  too_long : LONGEST_INPUT < length input → lines way input ≡ last (stop PAST_LIMIT) ∷ [] → Shape way input
