-- Where things stand in a monitor's memory: each part begins where the one before it ends. The code has the same names. Definitions only.
use Rattle.std.specs.Prelude.{ℕ, ◌+◌, ◌*◌}
use Rattle.numbers.specs.Limits.{MOST_ROWS, MOST_OPERANDS, MOST_PROPERTIES, MOST_TEMPORALS, MOST_ATOMS}
use Rattle.ring.specs.Ring.{RING_WORDS}

-- the head, a word for each: how many rows; whether a call was accepted; the clock; the largest atom plus 1; how many temporal rows, assumes,
-- guarantees; the way of monitoring
abbrev pub ROW_COUNT : ℕ
ROW_COUNT = 0

abbrev pub BEGUN : ℕ
BEGUN = 1

abbrev pub CLOCK : ℕ
CLOCK = 2

abbrev pub WIDTH : ℕ
WIDTH = 3

abbrev pub TEMPORALS : ℕ
TEMPORALS = 4

abbrev pub ASSUMES : ℕ
ASSUMES = 5

abbrev pub GUARANTEES : ℕ
GUARANTEES = 6

abbrev pub WAY : ℕ
WAY = 7

-- words of the head
abbrev pub HEAD : ℕ
HEAD = 8

-- words of a row: kind, arg, lower, upper, where its operands start, which set is its own
abbrev pub ROW : ℕ
ROW = 6

-- words of a set
abbrev pub SET : ℕ
SET = RING_WORDS

-- the rows
abbrev pub ROWS : ℕ
ROWS = HEAD

-- the operands of all rows
abbrev pub OPERANDS : ℕ
OPERANDS = ROWS + ROW * MOST_ROWS

-- the rows that are properties, assumes first
abbrev pub PROPERTIES : ℕ
PROPERTIES = OPERANDS + MOST_OPERANDS

-- the atoms, a word for each
abbrev pub ATOMS : ℕ
ATOMS = PROPERTIES + MOST_PROPERTIES

-- the rows that the sets belong to, ascending
abbrev pub OWNERS : ℕ
OWNERS = ATOMS + MOST_ATOMS

-- the sets, one after the other
abbrev pub SETS : ℕ
SETS = OWNERS + MOST_TEMPORALS

-- the tables: each row's value, what was told of each set, and the digits of each property's early and settled answer
abbrev pub VALUES : ℕ
VALUES = SETS + SET * MOST_TEMPORALS

abbrev pub TOLD : ℕ
TOLD = VALUES + MOST_ROWS

abbrev pub EARLY : ℕ
EARLY = TOLD + MOST_TEMPORALS

abbrev pub SETTLED : ℕ
SETTLED = EARLY + MOST_PROPERTIES

-- and of each row whether a time call can change its value
abbrev pub MOVES : ℕ
MOVES = SETTLED + MOST_PROPERTIES

-- and the lowest row at or below each row
abbrev pub LOWEST : ℕ
LOWEST = MOVES + MOST_ROWS

-- and a word for how many runs the fullest set has
abbrev pub FULLEST : ℕ
FULLEST = LOWEST + MOST_ROWS

-- and a word for up to when a time call moves the clock alone
abbrev pub UNTIL : ℕ
UNTIL = FULLEST + 1

-- the ledger: the number of the last call; how many calls were accepted; and an entry for each property
abbrev pub LEDGER : ℕ
LEDGER = UNTIL + 1

abbrev pub TAKEN : ℕ
TAKEN = LEDGER + 1

abbrev pub ENTRIES : ℕ
ENTRIES = TAKEN + 1

-- words of an entry, and what each says: how many calls failed; the first and the last of them; the longest stretch; the call at which the property
-- settled; the stretch that reaches to the last accepted call
abbrev pub ENTRY : ℕ
ENTRY = 6

abbrev pub FAILED : ℕ
FAILED = 0

abbrev pub FIRST : ℕ
FIRST = 1

abbrev pub LAST : ℕ
LAST = 2

abbrev pub LONGEST : ℕ
LONGEST = 3

abbrev pub SETTLED_CALL : ℕ
SETTLED_CALL = 4

abbrev pub STRETCH : ℕ
STRETCH = 5

-- all words
abbrev pub SIZE : ℕ
SIZE = ENTRIES + ENTRY * MOST_PROPERTIES
