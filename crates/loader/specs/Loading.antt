-- REFERENCE 2.6: what loading owes: the number, and the monitor that the memory then holds. Definitions only.
use Rattle.std.specs.Prelude.{ℕ, ◌<◌, ◌≡◌, List}
use Rattle.numbers.specs.Limits.{MOST_TEMPORALS}
use Rattle.pmtl.specs.Monitor.{initial_in}
use Rattle.ledger.specs.Ledger.{blank_ledger}
use Rattle.memory.specs.Memory.{turn_at, book_of, state_of, ledger_of}
use Rattle.book.specs.declared.loading.Loading.{Loading}
use Rattle.book.specs.Loading.{way_in, loaded_by}
use Rattle.memory.specs.Kept.{Kept}

-- words were loaded in a way: r was handed back, and the memory m holds the book, a fresh monitor, whose rings begin at their first places, and a blank
-- ledger; a refused book gives an empty one
pub record Loads (way : Loading) (words m : List ℕ) (r : ℕ) : Type 0 where
  pub number : r ≡ (loaded_by way words).number
  pub book : book_of m ≡ (loaded_by way words).book
  pub state : state_of m ≡ initial_in (way_in way) (loaded_by way words).book.rows
  pub turns : (j : ℕ) → j < MOST_TEMPORALS → turn_at m j ≡ 0
  pub ledger : ledger_of m ≡ blank_ledger (loaded_by way words).book
  pub kept : Kept m
