-- REFERENCE 4.6: what a loaded monitor answers of its properties. Definitions only.
use Rattle.std.specs.Prelude.{ℕ, cond, List, ◌++◌, length, drop, ltb}
use Rattle.std.specs.Fmt.{decimal}
use Rattle.pmtl.specs.Answer.{bit_of, digit_of}
use Rattle.pmtl.specs.Book.{Book, properties, property_at}
use Rattle.pmtl.specs.Monitor.{State, value}
use Rattle.pmtl.specs.Early.{early}
use Rattle.pmtl.specs.Settled.{settled}
use Rattle.memory.specs.Memory.{book_of, state_of}
use Rattle.lists.specs.Lists.{listed}
use Rattle.property_answers.specs.declared.Verdict.{Verdict}
use Rattle.numbers.specs.Refusals.{ACCEPTED, LIST_TOO_SHORT}

-- the answers of property i in a state
unfoldable pub verdict_in : Book → State → ℕ → Verdict
verdict_in b st i = record {
  value = value b.rows st (property_at b i);
  early = early b.rows st (property_at b i);
  settled = settled b.rows st (property_at b i);
}

-- their digits
abbrev pub digits_of : Verdict → List ℕ
digits_of v = decimal (bit_of v.value) ++ decimal (digit_of v.early) ++ decimal (digit_of v.settled)

-- and of the monitor that a memory holds
abbrev pub verdict_of : List ℕ → ℕ → Verdict
verdict_of m i = verdict_in (book_of m) (state_of m) i

-- how many properties it has
abbrev pub properties_in : List ℕ → ℕ
properties_in m = length (properties (book_of m))

-- what asking for all answers into a lent list of `room` records hands back: whether the list is long enough
unfoldable pub answers_number : List ℕ → (room : ℕ) → ℕ
answers_number m room = cond (ltb room (properties_in m)) LIST_TOO_SHORT ACCEPTED

-- a record for each property as f says, assumes first, and the records beyond as they were; or all of the list as it was, where it is too short
abbrev pub records_list : {A : Type 0} → List ℕ → (ℕ → A) → List A → List A
records_list m f out = cond (ltb (length out) (properties_in m)) out (listed f (properties_in m) ++ drop (properties_in m) out)

-- and the list of verdicts that it leaves
unfoldable pub answers_list : List ℕ → List Verdict → List Verdict
answers_list m out = records_list m (verdict_of m) out
