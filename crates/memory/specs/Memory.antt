-- A monitor in lent words: which book, clock, atoms and sets a memory holds. Definitions only.
use Rattle.std.specs.Prelude.{ℕ, ◌+◌, ◌*◌, Bool, cond, List, [], get_or, take, drop, eqb}
use Rattle.numbers.specs.Limits.{MOST_OPERANDS}
use Rattle.lists.specs.Lists.{listed, part}
use Rattle.numset.specs.Runs.{Runs}
use Rattle.ring.specs.Ring.{turn_of, ringed}
use Rattle.pmtl.specs.Book.{Range, Row, Rows, Book}
use Rattle.pmtl.specs.Sets.{Way, ordinary, lasting}
use Rattle.pmtl.specs.Monitor.{State}
use Rattle.book.specs.Rows.{row_from, temporal}
use Rattle.book.specs.Kinds.{kind_of_word}
use Rattle.ledger.specs.Ledger.{Entry, Ledger}
use Rattle.memory.specs.declared.RowSaid.{RowSaid}
use Rattle.memory.specs.Layout.{ROW_COUNT, BEGUN, CLOCK, WIDTH, TEMPORALS, ASSUMES, GUARANTEES, WAY, ROWS, ROW, OPERANDS, PROPERTIES, ATOMS, OWNERS, SETS, SET, VALUES, TOLD, EARLY, SETTLED, MOVES, LOWEST, FULLEST, UNTIL, LEDGER, TAKEN, ENTRIES, ENTRY, FAILED, FIRST, LAST, LONGEST, SETTLED_CALL, STRETCH}

-- ---- words read off a memory
abbrev pub row_count : List ℕ → ℕ
row_count m = get_or m ROW_COUNT 0

abbrev pub begun_word : List ℕ → ℕ
begun_word m = get_or m BEGUN 0

abbrev pub clock_of : List ℕ → ℕ
clock_of m = get_or m CLOCK 0

abbrev pub width_word : List ℕ → ℕ
width_word m = get_or m WIDTH 0

abbrev pub temporals : List ℕ → ℕ
temporals m = get_or m TEMPORALS 0

abbrev pub assume_count : List ℕ → ℕ
assume_count m = get_or m ASSUMES 0

abbrev pub guarantee_count : List ℕ → ℕ
guarantee_count m = get_or m GUARANTEES 0

abbrev pub way_word : List ℕ → ℕ
way_word m = get_or m WAY 0

abbrev pub kind_at : List ℕ → ℕ → ℕ
kind_at m r = get_or m (ROWS + ROW * r) 0

abbrev pub arg_at : List ℕ → ℕ → ℕ
arg_at m r = get_or m (ROWS + ROW * r + 1) 0

abbrev pub lower_at : List ℕ → ℕ → ℕ
lower_at m r = get_or m (ROWS + ROW * r + 2) 0

abbrev pub upper_at : List ℕ → ℕ → ℕ
upper_at m r = get_or m (ROWS + ROW * r + 3) 0

abbrev pub start_at : List ℕ → ℕ → ℕ
start_at m r = get_or m (ROWS + ROW * r + 4) 0

abbrev pub slot_at : List ℕ → ℕ → ℕ
slot_at m r = get_or m (ROWS + ROW * r + 5) 0

-- those that a row's answer is made from
abbrev pub row_said : List ℕ → ℕ → RowSaid
row_said m r = record { kind = kind_of_word (kind_at m r); arg = arg_at m r; lower = lower_at m r; start = start_at m r }

abbrev pub operands_of : List ℕ → List ℕ
operands_of m = part OPERANDS MOST_OPERANDS m

-- the operand at a place, and the `left` operands from there on
abbrev pub operand_at : List ℕ → ℕ → ℕ
operand_at m place = get_or m (OPERANDS + place) 0

abbrev pub operands_from : List ℕ → ℕ → ℕ → List ℕ
operands_from m place left = take left (drop place (operands_of m))

-- the range of a row
abbrev pub range_at : List ℕ → ℕ → Range
range_at m r = record { lower = lower_at m r; upper = upper_at m r }

-- the row that is property i
abbrev pub property_row : List ℕ → ℕ → ℕ
property_row m i = get_or m (PROPERTIES + i) 0

-- the atoms, a byte for each that the book names
abbrev pub atom_at : List ℕ → ℕ → ℕ
atom_at m i = get_or m (ATOMS + i) 0

abbrev pub atoms_of : List ℕ → List ℕ
atoms_of m = listed (atom_at m) (width_word m)

abbrev pub owner_at : List ℕ → ℕ → ℕ
owner_at m j = get_or m (OWNERS + j) 0

abbrev pub set_start : ℕ → ℕ
set_start j = SETS + SET * j

abbrev pub slot_words : List ℕ → ℕ → List ℕ
slot_words m j = part (set_start j) SET m

-- where the oldest run of set j stands in its ring
abbrev pub turn_at : List ℕ → ℕ → ℕ
turn_at m j = turn_of (slot_words m j)

-- ---- the tables: a row's value, what was told of a set, the digits of a property's early and settled answer
abbrev pub value_at : List ℕ → ℕ → ℕ
value_at m r = get_or m (VALUES + r) 0

abbrev pub told_at : List ℕ → ℕ → ℕ
told_at m j = get_or m (TOLD + j) 0

abbrev pub early_at : List ℕ → ℕ → ℕ
early_at m i = get_or m (EARLY + i) 0

abbrev pub settled_at : List ℕ → ℕ → ℕ
settled_at m i = get_or m (SETTLED + i) 0

-- whether a time call can change a row's value
abbrev pub moves_at : List ℕ → ℕ → ℕ
moves_at m r = get_or m (MOVES + r) 0

-- the lowest row at or below a row
abbrev pub lowest_at : List ℕ → ℕ → ℕ
lowest_at m r = get_or m (LOWEST + r) 0

-- how many runs the fullest set has
abbrev pub fullest_word : List ℕ → ℕ
fullest_word m = get_or m FULLEST 0

-- up to when a time call moves the clock alone
abbrev pub until_word : List ℕ → ℕ
until_word m = get_or m UNTIL 0

-- ---- the ledger: the number of the last call, how many were accepted, where the entry of property p begins, and its words
abbrev pub number_word : List ℕ → ℕ
number_word m = get_or m LEDGER 0

abbrev pub taken_word : List ℕ → ℕ
taken_word m = get_or m TAKEN 0

abbrev pub entry_start : ℕ → ℕ
entry_start p = ENTRIES + ENTRY * p

abbrev pub entry_word : List ℕ → ℕ → ℕ → ℕ
entry_word m p word = get_or m (entry_start p + word) 0

-- ---- the monitor that a memory holds: its book
unfoldable pub row_of : List ℕ → ℕ → Row ℕ
row_of m r = row_from (kind_at m r) (arg_at m r) (lower_at m r) (upper_at m r) (drop (start_at m r) (operands_of m))

unfoldable pub rows_of : List ℕ → Rows
rows_of m = listed (row_of m) (row_count m)

unfoldable pub book_of : List ℕ → Book
book_of m = record {
  rows = rows_of m;
  assumes = part PROPERTIES (assume_count m) m;
  guarantees = part (PROPERTIES + assume_count m) (guarantee_count m) m;
}

-- and its state: a temporal row's set is that of its slot
abbrev pub is_one : ℕ → Bool
is_one x = eqb x 1

unfoldable pub way_of : List ℕ → Way
way_of m = cond (is_one (way_word m)) lasting ordinary

unfoldable pub set_of : List ℕ → ℕ → Runs
set_of m r = cond (temporal (kind_at m r)) (ringed (slot_words m (slot_at m r))) []

unfoldable pub state_of : List ℕ → State
state_of m = record {
  way = way_of m;
  begun = is_one (begun_word m);
  now = record { clock = clock_of m; atoms = listed (λ i. is_one (atom_at m i)) (width_word m) };
  sets = listed (set_of m) (row_count m);
}

-- and its ledger
unfoldable pub entry_of : List ℕ → ℕ → Entry
entry_of m p = record {
  failed = entry_word m p FAILED;
  first = entry_word m p FIRST;
  last = entry_word m p LAST;
  longest = entry_word m p LONGEST;
  settled = entry_word m p SETTLED_CALL;
  stretch = entry_word m p STRETCH;
}

unfoldable pub ledger_of : List ℕ → Ledger
ledger_of m = record {
  number = number_word m;
  accepted = taken_word m;
  entries = listed (entry_of m) (assume_count m + guarantee_count m);
}
