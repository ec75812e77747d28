-- A memory that came from calls made here. Definitions only.
use Rattle.std.specs.Prelude.{ℕ, zero, suc, ◌+◌, ◌*◌, ◌≤◌, ◌<◌, ◌≡◌, true, List, length, get_or, replicate}
use Rattle.numbers.specs.Limits.{MAX, LAST_TIME, MOST_ROWS, MOST_OPERANDS, MOST_ASSUMES, MOST_GUARANTEES, MOST_PROPERTIES, MOST_TEMPORALS, MOST_ATOMS}
use Rattle.ring.specs.Ring.{Rolling}
use Rattle.pmtl.specs.Book.{width_of}
use Rattle.pmtl.specs.Again.{Rests}
use Rattle.pmtl.specs.Quiet.{quiet_until}
use Rattle.pmtl.specs.Answer.{bit_of}
use Rattle.book.specs.Rows.{count_of, temporal, ATOM, HISTORICALLY, SINCE}
use Rattle.book.specs.Judging.{form_good}
use Rattle.memory.specs.Layout.{ROWS, ROW, OPERANDS, PROPERTIES, ATOMS, OWNERS, SET, ENTRIES, ENTRY, SIZE}
use Rattle.memory.specs.Memory.{row_count, begun_word, clock_of, width_word, temporals, assume_count, guarantee_count, way_word, kind_at, arg_at, lower_at, upper_at, start_at, slot_at, operand_at, owner_at, atom_at, slot_words, until_word, rows_of, state_of, ledger_of}
use Rattle.ledger.specs.Ledger.{LedgerInBounds}
use Rattle.memory.specs.Tables.{property_count, Tables}

-- ---- a loaded book, as the loader leaves it: what reading it needs
pub record RowKept (m : List ℕ) (r : ℕ) : Type 0 where
  pub kind : kind_at m r ≤ SINCE
  pub atoms : kind_at m r ≡ ATOM → arg_at m r < width_word m
  pub span : start_at m r + count_of (kind_at m r) (arg_at m r) ≤ MOST_OPERANDS
  pub below : (k : ℕ) → k < count_of (kind_at m r) (arg_at m r) → operand_at m (start_at m r + k) < r
  pub lower : lower_at m r ≤ LAST_TIME
  pub range : lower_at m r ≤ upper_at m r
  pub upper : (upper_at m r ≡ MAX → ⊥) → upper_at m r ≤ LAST_TIME
  pub slot : HISTORICALLY ≤ kind_at m r → slot_at m r < temporals m
  pub owner : HISTORICALLY ≤ kind_at m r → owner_at m (slot_at m r) ≡ r

pub record BookKept (m : List ℕ) : Type 0 where
  pub long : length m ≡ SIZE
  pub few : row_count m ≤ MOST_ROWS
  pub rows : (r : ℕ) → r < row_count m → RowKept m r
  pub width : width_word m ≡ width_of (rows_of m)
  pub narrow : width_word m ≤ MOST_ATOMS
  pub temporal_few : temporals m ≤ MOST_TEMPORALS
  pub owned : (j : ℕ) → j < temporals m → owner_at m j < row_count m
  pub temporals_are : (j : ℕ) → j < temporals m → HISTORICALLY ≤ kind_at m (owner_at m j)
  pub slots : (j : ℕ) → j < temporals m → slot_at m (owner_at m j) ≡ j
  pub ascends : (i j : ℕ) → i < j → j < temporals m → owner_at m i < owner_at m j
  pub assumes_few : assume_count m ≤ MOST_ASSUMES
  pub guarantees_few : guarantee_count m ≤ MOST_GUARANTEES
  pub properties : (i : ℕ) → i < assume_count m + guarantee_count m → get_or m (PROPERTIES + i) 0 < row_count m

-- the `left` operands from `place` on are there, and each is below the row
pub record Span (m : List ℕ) (row place left : ℕ) : Type 0 where
  pub inside : place + left ≤ MOST_OPERANDS
  pub below : (k : ℕ) → k < left → operand_at m (place + k) < row

-- how many operands the rows below r take, and how many of these rows are temporal
unfoldable pub start_to : List ℕ → ℕ → ℕ
start_to m zero = 0
start_to m (suc r) = start_to m r + count_of (kind_at m r) (arg_at m r)

unfoldable pub slot_to : List ℕ → ℕ → ℕ
slot_to m zero = 0
slot_to m (suc r) = slot_to m r + bit_of (temporal (kind_at m r))

-- the words are those that the book asks for, and words not in use are 0
pub record Tidy (m : List ℕ) : Type 0 where
  pub form : (r : ℕ) → r < row_count m → form_good (kind_at m r) (arg_at m r) (lower_at m r) (upper_at m r) ≡ true
  pub start : (r : ℕ) → r < row_count m → start_at m r ≡ start_to m r
  pub slot : (r : ℕ) → r < row_count m → HISTORICALLY ≤ kind_at m r → slot_at m r ≡ slot_to m r
  pub no_slot : (r : ℕ) → r < row_count m → kind_at m r < HISTORICALLY → slot_at m r ≡ 0
  pub count : temporals m ≡ slot_to m (row_count m)
  pub rows_rest : (i : ℕ) → ROWS + ROW * row_count m ≤ i → i < OPERANDS → get_or m i 0 ≡ 0
  pub operands_rest : (i : ℕ) → start_to m (row_count m) ≤ i → i < MOST_OPERANDS → get_or m (OPERANDS + i) 0 ≡ 0
  pub properties_rest : (i : ℕ) → assume_count m + guarantee_count m ≤ i → i < MOST_PROPERTIES → get_or m (PROPERTIES + i) 0 ≡ 0
  pub atoms_rest : (i : ℕ) → width_word m ≤ i → i < MOST_ATOMS → get_or m (ATOMS + i) 0 ≡ 0
  pub owners_rest : (j : ℕ) → temporals m ≤ j → j < MOST_TEMPORALS → get_or m (OWNERS + j) 0 ≡ 0
  pub sets_rest : (j : ℕ) → temporals m ≤ j → j < MOST_TEMPORALS → slot_words m j ≡ replicate SET 0

-- the words before the tables: a book in order, and a state that it can have
pub record Sound (m : List ℕ) : Type 0 where
  pub book : BookKept m
  pub tidy : Tidy m
  pub way : way_word m ≤ 1
  pub begun : begun_word m ≤ 1
  pub clock : clock_of m ≤ LAST_TIME
  pub atoms : (i : ℕ) → i < width_word m → atom_at m i ≤ 1
  pub sets : (j : ℕ) → j < MOST_TEMPORALS → Rolling (slot_words m j)

-- the ledger: numbers that can stand there, and words not in use are 0
pub record LedgerKept (m : List ℕ) : Type 0 where
  pub bounds : LedgerInBounds (property_count m) (ledger_of m)
  pub rest : (i : ℕ) → ENTRIES + ENTRY * property_count m ≤ i → i < SIZE → get_or m i 0 ≡ 0

-- the word for it says up to when a time call moves the clock alone
pub record Awaited (m : List ℕ) : Type 0 where
  pub right : until_word m ≡ quiet_until (rows_of m) (state_of m)

-- the memory came from calls made here: it is sound, its tables say what the monitor that it holds answers, its ledger can be one, that
-- monitor rests, and it is known for how long
pub record Kept (m : List ℕ) : Type 0 where
  pub sound : Sound m
  pub tables : Tables m
  pub ledger : LedgerKept m
  pub rests : Rests (rows_of m) (state_of m)
  pub awaited : Awaited m
