-- REFERENCE 4.7: what is noted of a call in a monitor's memory. Definitions only.
use Rattle.std.specs.Prelude.{ℕ, suc, min, ◌≡◌, List, set}
use Rattle.ledger.specs.Ledger.{LAST_COUNTED, next}
use Rattle.memory.specs.Layout.{LEDGER}
use Rattle.memory.specs.Memory.{number_word, book_of, state_of, ledger_of}
use Rattle.memory.specs.Kept.{Kept}
use Rattle.memory.specs.Alike.{Alike}

-- the memory with one call more, up to the last that is counted, and nothing else new
abbrev pub numbered : List ℕ → List ℕ
numbered m = set m LEDGER (min (suc (number_word m)) LAST_COUNTED)

-- a call that handed back r was noted in m, which holds the state that it left: that is m'
pub record CallNoted (m : List ℕ) (r : ℕ) (m' : List ℕ) : Type 0 where
  pub ledger : ledger_of m' ≡ next (book_of m) (record { number = r; state = state_of m }) (ledger_of m)
  pub alike : Alike m m'
  pub state : state_of m' ≡ state_of m
  pub book : book_of m' ≡ book_of m
  pub refused : (r ≡ 0 → ⊥) → m' ≡ numbered m
  pub kept : Kept m'
