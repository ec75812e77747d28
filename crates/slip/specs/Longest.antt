-- How long a report gets. Definitions only.
use Rattle.std.specs.Prelude.{ℕ, ◌+◌, ◌*◌, ◌-◌, ◌/◌}
use Rattle.numbers.specs.Limits.{MOST_PROPERTIES}

-- a call takes two words at least, each a byte and a byte before it that parts it from the others
abbrev pub CALL_BYTES : ℕ
CALL_BYTES = 4

-- the words before the first call are five at least: the counts of four sections, and of the calls
abbrev pub BOOK_BYTES : ℕ
BOOK_BYTES = 9

-- the most calls of an input of n bytes
abbrev pub most_calls : ℕ → ℕ
most_calls n = (n - BOOK_BYTES) / CALL_BYTES

-- the most digits of a call's number, and of how many there are
abbrev pub NUMBER_DIGITS : ℕ
NUMBER_DIGITS = 5

-- a property's word, with the space before it
abbrev pub WORD_BYTES : ℕ
WORD_BYTES = 4

-- the count, of at most two digits, with the space before it
abbrev pub COUNT_BYTES : ℕ
COUNT_BYTES = 3

-- an accepted call's line: its number, a space, 0, the words, the count, a line feed. A refused one's is shorter
abbrev pub LINE_BYTES : ℕ
LINE_BYTES = NUMBER_DIGITS + 1 + 1 + WORD_BYTES * MOST_PROPERTIES + COUNT_BYTES + 1

-- `book 0` and a line feed
abbrev pub FIRST_BYTES : ℕ
FIRST_BYTES = 7

-- `stop `, at most two digits, and a line feed
abbrev pub LAST_BYTES : ℕ
LAST_BYTES = 8

-- a property's summary: six numbers that no call's number passes, five spaces and a line feed
abbrev pub SUMMARY_BYTES : ℕ
SUMMARY_BYTES = 6 * NUMBER_DIGITS + 6

-- all of them, `end` and a line feed
abbrev pub END_BYTES : ℕ
END_BYTES = SUMMARY_BYTES * MOST_PROPERTIES + 4

-- the most bytes that the report of an input of n bytes has; and where it ends with `stop`
abbrev pub longest : ℕ → ℕ
longest n = FIRST_BYTES + most_calls n * LINE_BYTES + END_BYTES

abbrev pub longest_stopped : ℕ → ℕ
longest_stopped n = FIRST_BYTES + most_calls n * LINE_BYTES + LAST_BYTES
