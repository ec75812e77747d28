-- Private steps of the notes: one entry anew, word by word, and so many of them. No public contract cites these. Definitions only.
use Rattle.std.specs.Prelude.{ℕ, suc, ◌+◌, ◌≤◌, ◌<◌, max, ◌≡◌, Bool, cond, List, length, get_or, eqb}
use Rattle.numbers.specs.Limits.{MOST_ROWS, MOST_PROPERTIES}
use Rattle.pmtl.specs.declared.Answer.TheVariants.{Open}
use Rattle.pmtl.specs.Answer.{digit_of}
use Rattle.ledger.specs.Ledger.{LAST_COUNTED, Entry, or_else, noted}
use Rattle.memory.specs.Layout.{ENTRIES, ENTRY, SIZE}
use Rattle.memory.specs.Memory.{property_row, value_at, settled_at, entry_start, is_one, entry_of}

-- ---- an entry with one of its fields anew
abbrev pub with_failed : ℕ → Entry → Entry
with_failed v e = record { failed = v; first = e.first; last = e.last; longest = e.longest; settled = e.settled; stretch = e.stretch }

abbrev pub with_first : ℕ → Entry → Entry
with_first v e = record { failed = e.failed; first = v; last = e.last; longest = e.longest; settled = e.settled; stretch = e.stretch }

abbrev pub with_last : ℕ → Entry → Entry
with_last v e = record { failed = e.failed; first = e.first; last = v; longest = e.longest; settled = e.settled; stretch = e.stretch }

abbrev pub with_longest : ℕ → Entry → Entry
with_longest v e = record { failed = e.failed; first = e.first; last = e.last; longest = v; settled = e.settled; stretch = e.stretch }

abbrev pub with_settled : ℕ → Entry → Entry
with_settled v e = record { failed = e.failed; first = e.first; last = e.last; longest = e.longest; settled = v; stretch = e.stretch }

abbrev pub with_stretch : ℕ → Entry → Entry
with_stretch v e = record { failed = e.failed; first = e.first; last = e.last; longest = e.longest; settled = e.settled; stretch = v }

-- and what becomes of one at the accepted call n: the first call that left the property false, the longest stretch by the one that is not broken, the
-- call at which it settled by whether it is undecided
abbrev pub first_noted : ℕ → Entry → Entry
first_noted n e = with_first (or_else e.first n) e

abbrev pub longest_noted : ℕ → Entry → Entry
longest_noted stretch e = with_longest (max e.longest stretch) e

abbrev pub settled_noted : ℕ → (undecided : Bool) → Entry → Entry
settled_noted n undecided e = with_settled (cond undecided e.settled (or_else e.settled n)) e

-- all that one more call does that left it false
abbrev pub false_noted : ℕ → Entry → Entry
false_noted n e = record {
  failed = suc e.failed;
  first = or_else e.first n;
  last = n;
  longest = max e.longest (suc e.stretch);
  settled = e.settled;
  stretch = suc e.stretch;
}

-- m' is m with the entry of property p anew
pub record EntryPut (m : List ℕ) (p : ℕ) (e : Entry) (m' : List ℕ) : Type 0 where
  pub long : length m' ≡ length m
  pub new : entry_of m' p ≡ e
  pub before : (i : ℕ) → i < entry_start p → get_or m' i 0 ≡ get_or m i 0
  pub after : (i : ℕ) → entry_start p + ENTRY ≤ i → get_or m' i 0 ≡ get_or m i 0

-- ---- a property whose counts do not wrap
pub record Countable (m : List ℕ) (p : ℕ) : Type 0 where
  pub long : length m ≡ SIZE
  pub inside : p < MOST_PROPERTIES
  pub row : property_row m p < MOST_ROWS
  pub failed : (entry_of m p).failed < LAST_COUNTED
  pub stretch : (entry_of m p).stretch < LAST_COUNTED

-- whether it holds and is undecided, by the tables
abbrev pub holds_now : List ℕ → ℕ → Bool
holds_now m p = is_one (value_at m (property_row m p))

abbrev pub open_now : List ℕ → ℕ → Bool
open_now m p = eqb (settled_at m p) (digit_of Open)

-- its entry, after the accepted call n
abbrev pub noted_in : List ℕ → ℕ → ℕ → Entry
noted_in m n p = noted n (holds_now m p) (open_now m p) (entry_of m p)

-- m' is m with the entries of the first k properties noted
pub record EntriesNoted (m : List ℕ) (n k : ℕ) (m' : List ℕ) : Type 0 where
  pub long : length m' ≡ length m
  pub below : (i : ℕ) → i < ENTRIES → get_or m' i 0 ≡ get_or m i 0
  pub new : (p : ℕ) → p < k → entry_of m' p ≡ noted_in m n p
  pub old : (i : ℕ) → entry_start k ≤ i → get_or m' i 0 ≡ get_or m i 0
