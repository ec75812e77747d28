-- What the desk's own functions owe each other. Definitions only.
use Rattle.std.specs.Prelude.{ℕ, ◌+◌, ◌*◌, ◌≤◌, ◌<◌, ◌≡◌, List, length, take}
use Rattle.numbers.specs.Limits.{ROW_WORDS, MOST_KITS, MOST_TEMPORALS}
use Rattle.numbers.specs.Refusals.{ACCEPTED}
use Rattle.pmtl.specs.Monitor.{initial}
use Rattle.pmtl.specs.Calls.{stamped, state, call}
use Rattle.ledger.specs.Ledger.{blank_ledger}
use Rattle.memory.specs.Memory.{turn_at, book_of, state_of, ledger_of}
use Rattle.memory.specs.Kept.{Kept}
use Rattle.desk_rules.specs.Scans.{Kit, windows}
use Rattle.desk_rules.specs.Rows.{KIT_ROWS, KIT_OPERANDS, desk_rows, desk_book}
use Rattle.desk_rules.specs.BookWords.{book_words}
use Rattle.desk_rules.specs.Desk.{clear, one_on}
use Rattle.desk.specs.Kits.{MOST_BARCODES}

-- how many words the rows of a kit have, and the most words of a book
abbrev pub KIT_ROW_WORDS : ℕ
KIT_ROW_WORDS = ROW_WORDS * KIT_ROWS

abbrev pub MOST_BOOK_WORDS : ℕ
MOST_BOOK_WORDS = (KIT_ROW_WORDS + KIT_OPERANDS + 1) * MOST_KITS + 4

-- the words of the book of kits with these windows stand in the memory up to `end`
pub record BookPut (ws m : List ℕ) (end : ℕ) : Type 0 where
  pub inside : end ≤ length m
  pub are : take end m ≡ book_words ws

-- the memory holds a fresh monitor of the book of a desk of kits, whose rings begin at their first places, and a blank ledger
pub record SetUp (kits : List Kit) (m : List ℕ) : Type 0 where
  pub book : book_of m ≡ desk_book (windows kits)
  pub state : state_of m ≡ initial (desk_rows (windows kits))
  pub turns : (j : ℕ) → j < MOST_TEMPORALS → turn_at m j ≡ 0
  pub ledger : ledger_of m ≡ blank_ledger (desk_book (windows kits))
  pub kept : Kept m

-- an atom of so many can go on and off at this time: if the first state is accepted, so is the second
pub record Ready (m : List ℕ) (t width place : ℕ) : Type 0 where
  pub inside : place ≤ width
  pub few : width ≤ MOST_BARCODES
  pub clears : (call (book_of m).rows (call (book_of m).rows (state_of m) (stamped t (one_on width place))).state (state (clear width))).number ≡ ACCEPTED
  pub kept : Kept m
