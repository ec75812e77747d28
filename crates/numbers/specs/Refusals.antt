-- The numbers that loading, calls and answers hand back: the code has the same names. Definitions only.
use Rattle.std.specs.Prelude.{ℕ, Result, Ok, Err}
use Rattle.numbers.specs.declared.Refusal.{Refusal}
use Rattle.numbers.specs.declared.Refusal.TheVariants.{WrongLength, PastLimit, WrongForm, WrongRange, WrongLink, WrongUse, TooEarly, TooLate, TooNarrow, NotABit, NoRoom, ListTooShort, BadWord, CouldRunOut, TooWide, Nested, WrongKits, WindowTooLong, UnknownBarcode, DoesNotFit}

-- nothing is wrong
abbrev pub ACCEPTED : ℕ
ACCEPTED = 0

-- words end early, or are left over
abbrev pub WRONG_LENGTH : ℕ
WRONG_LENGTH = 1

-- a count, a state's width or the temporal rows pass a limit; an input is too long
abbrev pub PAST_LIMIT : ℕ
PAST_LIMIT = 2

-- a row's kind, its arg, or a bound where the kind has none
abbrev pub WRONG_FORM : ℕ
WRONG_FORM = 3

-- a row's range
abbrev pub WRONG_RANGE : ℕ
WRONG_RANGE = 4

-- an operand or a property
abbrev pub WRONG_LINK : ℕ
WRONG_LINK = 5

-- a row used never or twice
abbrev pub WRONG_USE : ℕ
WRONG_USE = 6

-- a time below the clock
abbrev pub TOO_EARLY : ℕ
TOO_EARLY = 7

-- a time above the last
abbrev pub TOO_LATE : ℕ
TOO_LATE = 8

-- a state shorter than the largest atom plus 1
abbrev pub TOO_NARROW : ℕ
TOO_NARROW = 9

-- a byte of a state other than 0 and 1
abbrev pub NOT_A_BIT : ℕ
NOT_A_BIT = 10

-- a set would have more runs than there is room for
abbrev pub NO_ROOM : ℕ
NO_ROOM = 11

-- a list for the answers shorter than the properties
abbrev pub LIST_TOO_SHORT : ℕ
LIST_TOO_SHORT = 12

-- a bad word in text, or a call of no kind
abbrev pub BAD_WORD : ℕ
BAD_WORD = 13

-- a range of which a set could need more runs than there is room for: refused where a book is loaded strictly
abbrev pub COULD_RUN_OUT : ℕ
COULD_RUN_OUT = 15

-- a state longer than the largest atom plus 1
abbrev pub TOO_WIDE : ℕ
TOO_WIDE = 16

-- a temporal row that lies below another: refused where a book is loaded in the lasting way
abbrev pub NESTED : ℕ
NESTED = 17

-- a desk of no kit or of too many, or a barcode given twice
abbrev pub WRONG_KITS : ℕ
WRONG_KITS = 18

-- a window of a kit above the last time
abbrev pub WINDOW_TOO_LONG : ℕ
WINDOW_TOO_LONG = 19

-- a barcode that no kit of the desk has
abbrev pub UNKNOWN_BARCODE : ℕ
UNKNOWN_BARCODE = 20

-- a step of tidying that does not fit
abbrev pub DOES_NOT_FIT : ℕ
DOES_NOT_FIT = 21

-- the number of a refusal
abbrev pub number_of : Refusal → ℕ
number_of WrongLength = WRONG_LENGTH
number_of PastLimit = PAST_LIMIT
number_of WrongForm = WRONG_FORM
number_of WrongRange = WRONG_RANGE
number_of WrongLink = WRONG_LINK
number_of WrongUse = WRONG_USE
number_of TooEarly = TOO_EARLY
number_of TooLate = TOO_LATE
number_of TooNarrow = TOO_NARROW
number_of NotABit = NOT_A_BIT
number_of NoRoom = NO_ROOM
number_of ListTooShort = LIST_TOO_SHORT
number_of BadWord = BAD_WORD
number_of CouldRunOut = COULD_RUN_OUT
number_of TooWide = TOO_WIDE
number_of Nested = NESTED
number_of WrongKits = WRONG_KITS
number_of WindowTooLong = WINDOW_TOO_LONG
number_of UnknownBarcode = UNKNOWN_BARCODE
number_of DoesNotFit = DOES_NOT_FIT

-- the number that an outcome is handed over with
abbrev pub refused_with : {A : Type 0} → Result A Refusal → ℕ
refused_with (Ok _) = ACCEPTED
refused_with (Err r) = number_of r
