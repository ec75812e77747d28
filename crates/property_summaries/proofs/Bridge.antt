-- From the words of the ledger to the summaries. Assumes nothing.
use Prim.Native.Nat.{ℕ, ◌≤◌, ◌<◌}
use mathlib.Core.Path.{◌≡◌, sym, ap}
use mathlib.Core.List.{List}
use Rattle.lists.proofs.Listed.{listed_out}
use Rattle.ledger.specs.Ledger.{no_entry, summary_from}
use Rattle.memory.specs.Layout.{FAILED, FIRST, LAST, LONGEST, SETTLED_CALL}
use Rattle.memory.specs.Memory.{taken_word, entry_word, entry_of, ledger_of}
use Rattle.memory.specs.Tables.{property_count}
use Rattle.memory.proofs.Ledger.{ledger_entry}
use Rattle.property_summaries.specs.Summaries.{summary_of}
use Rattle.property_summaries.specs.Private.{absent_in}

pub summary_out : (m : List ℕ) (p : ℕ) → property_count m ≤ p → summary_of m p ≡ absent_in m
unfolding ledger_of
summary_out m p h = ap (summary_from (taken_word m)) (listed_out (entry_of m) no_entry (property_count m) p h)

pub summary_in_lem : (m : List ℕ) (p : ℕ) → p < property_count m → {taken failed first last longest settled : ℕ} → taken ≡ taken_word m → failed ≡ entry_word m p FAILED → first ≡ entry_word m p FIRST
    → last ≡ entry_word m p LAST → longest ≡ entry_word m p LONGEST → settled ≡ entry_word m p SETTLED_CALL
    → record { accepted = taken; failed = failed; first = first; last = last; longest = longest; settled = settled } ≡ summary_of m p
unfolding entry_of ledger_of
summary_in_lem m p h et e₀ e₁ e₂ e₃ e₄ = rw (et, e₀, e₁, e₂, e₃, e₄) (ap (summary_from (taken_word m)) (sym (ledger_entry m p h)))
