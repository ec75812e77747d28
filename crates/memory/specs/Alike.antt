-- Memories that differ in their tables and ledger alone, and memories with the same ledger. Definitions only.
use Rattle.std.specs.Prelude.{ℕ, ◌≤◌, ◌<◌, ◌≡◌, List, length, get_or}
use Rattle.memory.specs.Layout.{VALUES, LEDGER}

-- the words before the tables are the same
pub record Alike (m m' : List ℕ) : Type 0 where
  pub long : length m' ≡ length m
  pub below : (i : ℕ) → i < VALUES → get_or m' i 0 ≡ get_or m i 0

-- the words of the ledger are the same
pub record SameLedger (m m' : List ℕ) : Type 0 where
  pub words : (i : ℕ) → LEDGER ≤ i → get_or m' i 0 ≡ get_or m i 0
