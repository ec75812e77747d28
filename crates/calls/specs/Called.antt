-- REFERENCE 3: what the public calls owe: the monitor and the ledger that the memory then holds, and the number. Definitions only.
use Rattle.std.specs.Prelude.{ℕ, ◌<◌, ◌≡◌, List}
use Rattle.pmtl.specs.Calls.{Call, call}
use Rattle.ledger.specs.Ledger.{next}
use Rattle.ring.specs.Ring.{turn_after}
use Rattle.memory.specs.Memory.{clock_of, temporals, slot_words, turn_at, book_of, state_of, ledger_of}
use Rattle.memory.specs.Kept.{Kept}
use Rattle.notes.specs.Noting.{numbered}

-- each ring of m' begins where that of m does, further on by the runs that ended before the clock of m'
pub record Turned (m m' : List ℕ) : Type 0 where
  pub turns : (j : ℕ) → j < temporals m' → turn_at m' j ≡ turn_after (clock_of m') (slot_words m j)

-- a call k made on the memory m handed back r and left m'; where it is refused, all but the number of the call is as it was
pub record Called (k : Call) (m m' : List ℕ) (r : ℕ) : Type 0 where
  pub number : r ≡ (call (book_of m).rows (state_of m) k).number
  pub state : state_of m' ≡ (call (book_of m).rows (state_of m) k).state
  pub book : book_of m' ≡ book_of m
  pub ledger : ledger_of m' ≡ next (book_of m) (call (book_of m).rows (state_of m) k) (ledger_of m)
  pub turned : r ≡ 0 → Turned m m'
  pub refused : (r ≡ 0 → ⊥) → m' ≡ numbered m
  pub kept : Kept m'
