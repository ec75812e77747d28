-- A memory whose ledger's words are 0 has counted nothing. Assumes nothing.
use Prim.Native.Nat.{ℕ, ◌+◌, ◌≤◌}
use native.Mathlib.Omega.{arith}
use mathlib.Core.Path.{◌≡◌}
use mathlib.Core.List.{List}
use lib.ListN.{get_or}
use Rattle.lists.proofs.Listed.{listed_all}
use Rattle.ledger.specs.Ledger.{no_entry, blank_ledger}
use Rattle.ledger.proofs.Noted.{blank_counts}
use Rattle.memory.specs.Layout.{LEDGER, TAKEN, FAILED, FIRST, LAST, LONGEST, SETTLED_CALL, STRETCH}
use Rattle.memory.specs.Memory.{entry_start, book_of, entry_of, ledger_of}
use Rattle.memory.specs.Tables.{property_count}
use Rattle.memory.specs.Kept.{BookKept, LedgerKept}
use Rattle.memory.proofs.Properties.{properties_length}

module _ {m : List ℕ} (book : BookKept m) (blank : (i : ℕ) → LEDGER ≤ i → get_or m i 0 ≡ 0) where
  entry_blank : (p : ℕ) → entry_of m p ≡ no_entry
  unfolding entry_of
  entry_blank p = rw (
    blank (entry_start p + FAILED) (omega arith),
    blank (entry_start p + FIRST) (omega arith),
    blank (entry_start p + LAST) (omega arith),
    blank (entry_start p + LONGEST) (omega arith),
    blank (entry_start p + SETTLED_CALL) (omega arith),
    blank (entry_start p + STRETCH) (omega arith),
  )

  pub ledger_blank : ledger_of m ≡ blank_ledger (book_of m)
  unfolding ledger_of
  ledger_blank =
      rw (blank LEDGER (omega arith), blank TAKEN (omega arith), listed_all (entry_of m) no_entry (property_count m) (λ p h. entry_blank p), ← properties_length m book)

  pub kept_blank : LedgerKept m
  kept_blank = record { bounds = rw (ledger_blank, ← properties_length m book) (blank_counts (book_of m)); rest = λ i p h. blank i (omega arith) }
