-- REFERENCE 8: the report of any input, byte by byte: its lines, and how a line is written. Definitions only.
use Rattle.std.specs.Prelude.{ℕ, Option, Some, None, ◌+◌, List, [], ◌∷◌, ◌++◌}
use Rattle.text.specs.Words.{space, line_feed, digit0}
use Rattle.text.specs.Decimals.{decimal}
use Rattle.book.specs.declared.loading.Loading.{Loading}
use Rattle.book.specs.declared.strict.Excess.{Excess}
use Rattle.ledger.specs.declared.Summary.{Summary}
use Rattle.report.specs.Lines.{PropertyWord, Rest, nothing, told, CallLine, Ending, end, stop, Line, book, called, summed, last, lines}

-- ---- lines. The words book, stop and end are fixed
abbrev pub book_word : List ℕ
book_word = 98 ∷ 111 ∷ 111 ∷ 107 ∷ 32 ∷ []

abbrev pub stop_word : List ℕ
stop_word = 115 ∷ 116 ∷ 111 ∷ 112 ∷ 32 ∷ []

abbrev pub end_word : List ℕ
end_word = 101 ∷ 110 ∷ 100 ∷ []

-- lines end in a line feed
abbrev pub ended : List ℕ
ended = line_feed ∷ []

-- the row that strict loading refuses, and how many runs it can need, each after a space
unfoldable pub excess_words : Option Excess → List ℕ
excess_words None = []
excess_words (Some over) = space ∷ decimal over.row ++ space ∷ decimal over.count

-- `book ` and the number, and where a row is refused these; `stop ` and the number; `end`
unfoldable pub book_line : ℕ → Option Excess → List ℕ
book_line n e = book_word ++ decimal n ++ excess_words e ++ ended

unfoldable pub stop_line : ℕ → List ℕ
stop_line n = stop_word ++ decimal n ++ ended

unfoldable pub end_line : List ℕ
end_line = end_word ++ ended

unfoldable pub last_line : Ending → List ℕ
last_line end = end_line
last_line (stop n) = stop_line n

-- a property's word, after a space: three digits
unfoldable pub property_word : PropertyWord → List ℕ
property_word w = space ∷ (digit0 + w.value) ∷ (digit0 + w.early) ∷ (digit0 + w.settled) ∷ []

unfoldable pub property_words : List PropertyWord → List ℕ
property_words [] = []
property_words (w ∷ ws) = property_word w ++ property_words ws

-- the words of the properties, and as the last word the count
unfoldable pub rest_words : Rest → List ℕ
rest_words nothing = []
rest_words (told ws count) = property_words ws ++ space ∷ decimal count

-- a call's line: words parted by one space
unfoldable pub call_line : CallLine → List ℕ
call_line l = decimal l.number ++ space ∷ decimal l.refusal ++ rest_words l.rest ++ ended

-- a property's summary: six numbers parted by one space
unfoldable pub summary_line : Summary → List ℕ
summary_line s =
    decimal s.accepted ++ space ∷ decimal s.failed ++ space ∷ decimal s.first ++ space ∷ decimal s.last ++ space ∷ decimal s.longest ++ space ∷ decimal s.settled ++ ended

-- ---- a line, and lines one after the other
unfoldable pub line : Line → List ℕ
line (book n e) = book_line n e
line (called l) = call_line l
line (summed s) = summary_line s
line (last e) = last_line e

unfoldable pub written : List Line → List ℕ
written [] = []
written (l ∷ ls) = line l ++ written ls

-- the report, in a way of loading
unfoldable pub report : Loading → List ℕ → List ℕ
report way input = written (lines way input)
