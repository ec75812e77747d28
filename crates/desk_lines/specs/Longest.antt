-- How long an answer gets. Definitions only.
use Rattle.std.specs.Prelude.{ℕ, ◌+◌, ◌*◌}
use Rattle.numbers.specs.Limits.{MOST_KITS}

-- the most digits of a line's number, which has 64 bits
abbrev pub NUMBER_DIGITS : ℕ
NUMBER_DIGITS = 20

-- a kit's word, with the space before it
abbrev pub KIT_BYTES : ℕ
KIT_BYTES = 4

-- an accepted scan's line: its number, a space, 0, the words, a line feed. A refused one's is shorter
abbrev pub SCAN_BYTES : ℕ
SCAN_BYTES = NUMBER_DIGITS + 1 + 1 + KIT_BYTES * MOST_KITS + 1

-- a slip's line: `slip `, at most two digits, a line feed. A desk's is as long
abbrev pub SLIP_BYTES : ℕ
SLIP_BYTES = 8

-- no answer has more bytes
abbrev pub LONGEST_ANSWER : ℕ
LONGEST_ANSWER = SCAN_BYTES + SLIP_BYTES
