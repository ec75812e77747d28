-- How many there may be of everything, and how large numbers get: the code has the same names. Definitions only.
use Rattle.std.specs.Prelude.{ℕ, ◌+◌}

-- the largest number of 64 bits: the last instant, and an upper bound that means none
abbrev pub MAX : ℕ
MAX = 18446744073709551615

-- the last time that a call may set, the largest lower and the largest finite upper
abbrev pub LAST_TIME : ℕ
LAST_TIME = 9223372036854775807

-- the most rows of a book, and the most operands of all its rows together
abbrev pub MOST_ROWS : ℕ
MOST_ROWS = 128

abbrev pub MOST_OPERANDS : ℕ
MOST_OPERANDS = 128

-- the most assumes, the most guarantees, and the most properties, which are both
abbrev pub MOST_ASSUMES : ℕ
MOST_ASSUMES = 16

abbrev pub MOST_GUARANTEES : ℕ
MOST_GUARANTEES = 16

abbrev pub MOST_PROPERTIES : ℕ
MOST_PROPERTIES = MOST_ASSUMES + MOST_GUARANTEES

-- the most temporal rows, each of which has a set, and the most runs of a set
abbrev pub MOST_TEMPORALS : ℕ
MOST_TEMPORALS = 32

abbrev pub MOST_RUNS : ℕ
MOST_RUNS = 64

-- the most atoms of a state
abbrev pub MOST_ATOMS : ℕ
MOST_ATOMS = 256

-- the words of a row in a book: kind, arg, lower, upper
abbrev pub ROW_WORDS : ℕ
ROW_WORDS = 4

-- the most kits of a desk
abbrev pub MOST_KITS : ℕ
MOST_KITS = 16

-- the most bytes of an input
abbrev pub LONGEST_INPUT : ℕ
LONGEST_INPUT = 65536

-- room for every report: the crate `slip` proves that none is longer
abbrev pub LONGEST_REPORT : ℕ
LONGEST_REPORT = 2300000
