-- The ledger that a memory holds: entry by entry, and where its words stay. Assumes nothing.
use Prim.Native.Nat.{ℕ, ◌+◌, ◌≤◌, ◌<◌}
use native.Mathlib.Omega.{arith}
use mathlib.Core.Path.{◌≡◌, refl, ◌∙◌}
use mathlib.Core.List.{List}
use Rattle.lists.specs.Lists.{filled_from}
use Rattle.lists.proofs.Listed.{listed_at, listed_agree}
use Rattle.lists.proofs.Filled.{filled_from_after}
use Rattle.ledger.specs.Ledger.{no_entry, entry_at}
use Rattle.memory.specs.Layout.{LEDGER, TAKEN, FAILED, FIRST, LAST, LONGEST, SETTLED_CALL, STRETCH}
use Rattle.memory.specs.Memory.{entry_start, entry_of, ledger_of}
use Rattle.memory.specs.Tables.{property_count}
use Rattle.memory.specs.Kept.{LedgerKept}
use Rattle.memory.specs.Alike.{SameLedger}

-- ---- entry by entry
pub ledger_entry : (m : List ℕ) (p : ℕ) → p < property_count m → entry_at (ledger_of m).entries p ≡ entry_of m p
unfolding ledger_of
ledger_entry m p h = listed_at (entry_of m) no_entry (property_count m) p h

-- ---- how its words stay
pub ledger_self : (m : List ℕ) → SameLedger m m
ledger_self m = record { words = λ i h. refl }

pub ledger_on : {m m' m'' : List ℕ} → SameLedger m m' → SameLedger m' m'' → SameLedger m m''
ledger_on a b = record { words = λ i h. b.words i h ∙ a.words i h }

-- a part before it is filled
pub ledger_filled : (m : List ℕ) (a : ℕ) (f : ℕ → ℕ) (n : ℕ) → a + n ≤ LEDGER → SameLedger m (filled_from a f m n)
ledger_filled m a f n h = record { words = λ i l. filled_from_after a f m 0 n i (omega arith) }

module _ {m m' : List ℕ} (count : property_count m' ≡ property_count m) (same : SameLedger m m') where
  entry_same : (p : ℕ) → entry_of m' p ≡ entry_of m p
  unfolding entry_of
  entry_same p = rw (
    same.words (entry_start p + FAILED) (omega arith),
    same.words (entry_start p + FIRST) (omega arith),
    same.words (entry_start p + LAST) (omega arith),
    same.words (entry_start p + LONGEST) (omega arith),
    same.words (entry_start p + SETTLED_CALL) (omega arith),
    same.words (entry_start p + STRETCH) (omega arith),
  )

  pub ledger_same : ledger_of m' ≡ ledger_of m
  unfolding ledger_of
  ledger_same =
      rw (same.words LEDGER (omega arith), same.words TAKEN (omega arith), count, listed_agree (entry_of m') (entry_of m) (property_count m) (λ p h. entry_same p))

  pub ledger_kept : LedgerKept m → LedgerKept m'
  ledger_kept k = record {
    bounds = rw (ledger_same, count) k.bounds;
    rest = rw count (λ i p h. same.words i (omega arith) ∙ k.rest i p h);
  }
