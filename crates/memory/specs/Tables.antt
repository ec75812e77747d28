-- What the tables of a memory say of the monitor that it holds. Definitions only.
use Rattle.std.specs.Prelude.{ℕ, ◌+◌, ◌≤◌, ◌<◌, ◌≡◌, Bool, cond, List}
use Rattle.numbers.specs.Limits.{MOST_ROWS, MOST_PROPERTIES, MOST_TEMPORALS}
use Rattle.numset.specs.Runs.{Runs, covers}
use Rattle.ring.specs.Ring.{ringed}
use Rattle.pmtl.specs.declared.Answer.{Answer}
use Rattle.pmtl.specs.Answer.{bit_of, digit_of}
use Rattle.pmtl.specs.Book.{moves, lowest}
use Rattle.pmtl.specs.Sets.{gone}
use Rattle.pmtl.specs.Monitor.{fullest, value}
use Rattle.pmtl.specs.Early.{early}
use Rattle.pmtl.specs.Settled.{settled}
use Rattle.memory.specs.Memory.{row_count, clock_of, temporals, assume_count, guarantee_count, slot_words, property_row, value_at, told_at, early_at, settled_at, moves_at, lowest_at, fullest_word, rows_of, state_of}

-- what is told of a set: that it has every instant from the clock on; that it has none of them; or neither
abbrev pub COVERS : ℕ
COVERS = 1

abbrev pub GONE : ℕ
GONE = 2

abbrev pub NEITHER : ℕ
NEITHER = 0

unfoldable pub standing : ℕ → Runs → ℕ
standing c s = cond (covers c s) COVERS (cond (gone c s) GONE NEITHER)

-- the answers of row r of the monitor that a memory holds
abbrev pub value_of : List ℕ → ℕ → Bool
value_of m r = value (rows_of m) (state_of m) r

abbrev pub early_of : List ℕ → ℕ → Answer
early_of m r = early (rows_of m) (state_of m) r

abbrev pub settled_of : List ℕ → ℕ → Answer
settled_of m r = settled (rows_of m) (state_of m) r

-- how many properties its head says that it has
abbrev pub property_count : List ℕ → ℕ
property_count m = assume_count m + guarantee_count m

-- each row's word is its value
pub record Valued (m : List ℕ) : Type 0 where
  pub right : (r : ℕ) → r < row_count m → value_at m r ≡ bit_of (value_of m r)

-- of each set it was told what is so
pub record Told (m : List ℕ) : Type 0 where
  pub right : (j : ℕ) → j < temporals m → told_at m j ≡ standing (clock_of m) (ringed (slot_words m j))

-- each property's digits are those of its answers
pub record Answered (m : List ℕ) : Type 0 where
  pub early : (i : ℕ) → i < property_count m → early_at m i ≡ digit_of (early_of m (property_row m i))
  pub settled : (i : ℕ) → i < property_count m → settled_at m i ≡ digit_of (settled_of m (property_row m i))

-- of each row it is known whether it moves
pub record Moving (m : List ℕ) : Type 0 where
  pub right : (r : ℕ) → r < row_count m → moves_at m r ≡ bit_of (moves (rows_of m) r)

-- and which row is the lowest at or below it
pub record Founded (m : List ℕ) : Type 0 where
  pub right : (r : ℕ) → r < row_count m → lowest_at m r ≡ lowest (rows_of m) r

-- the count is that of the fullest set
pub record Counts (m : List ℕ) : Type 0 where
  pub right : fullest_word m ≡ fullest (state_of m)

-- words of the tables that are not in use are 0
pub record Unused (m : List ℕ) : Type 0 where
  pub moves : (r : ℕ) → row_count m ≤ r → r < MOST_ROWS → moves_at m r ≡ 0
  pub lowest : (r : ℕ) → row_count m ≤ r → r < MOST_ROWS → lowest_at m r ≡ 0
  pub values : (r : ℕ) → row_count m ≤ r → r < MOST_ROWS → value_at m r ≡ 0
  pub told : (j : ℕ) → temporals m ≤ j → j < MOST_TEMPORALS → told_at m j ≡ 0
  pub early : (i : ℕ) → property_count m ≤ i → i < MOST_PROPERTIES → early_at m i ≡ 0
  pub settled : (i : ℕ) → property_count m ≤ i → i < MOST_PROPERTIES → settled_at m i ≡ 0

-- the tables are right
pub record Tables (m : List ℕ) : Type 0 where
  pub valued : Valued m
  pub told : Told m
  pub answered : Answered m
  pub moving : Moving m
  pub founded : Founded m
  pub counts : Counts m
  pub unused : Unused m
