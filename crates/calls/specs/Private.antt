-- Private steps of the calls: the words that a planned call then changes, and what a call leaves. No public contract cites these. Definitions only.
use Rattle.std.specs.Prelude.{ℕ, ◌+◌, ◌≤◌, ◌<◌, ◌≡◌, Bool, true, false, List, length, get_or, set}
use Rattle.numbers.specs.Limits.{MOST_TEMPORALS}
use Rattle.numbers.specs.Refusals.{ACCEPTED, NO_ROOM}
use Rattle.numset.specs.Runs.{Runs, SET_WORDS, fits}
use Rattle.ring.specs.Ring.{ringed, Rolling, rolled, turn_after}
use Rattle.pmtl.specs.Sets.{Renew}
use Rattle.pmtl.specs.Monitor.{Snap, State, set_at}
use Rattle.pmtl.specs.Calls.{Call, crowded, play, call}
use Rattle.memory.specs.Layout.{ATOMS, SETS, VALUES, SIZE, BEGUN, CLOCK}
use Rattle.memory.specs.Memory.{row_count, begun_word, clock_of, temporals, owner_at, slot_words, value_at, early_at, settled_at, until_word, rows_of, book_of, state_of}
use Rattle.memory.specs.Tables.{property_count, Valued, Moving, Founded, Unused}
use Rattle.memory.specs.Kept.{Sound, Kept}
use Rattle.memory.specs.Alike.{Alike, SameLedger}
use Rattle.tables.specs.Puts.{early_digit, settled_digit}
use Rattle.set_change.specs.Change.{changed}
use Rattle.calls.specs.Called.{Turned}
use Rattle.planning.specs.Plan.{step_of, own_renew, set_after, value_after, Bounded, Timely}

-- bytes that can be a call's atoms
pub record Bytes (atoms : List ℕ) (width : ℕ) : Type 0 where
  pub long : length atoms ≡ width
  pub bits : (i : ℕ) → i < width → get_or atoms i 0 ≤ 1

-- m' is m with the sets of the slots below n as f says, and without what ended before c
pub record Written (m : List ℕ) (c : ℕ) (f : ℕ → Runs) (n : ℕ) (m' : List ℕ) : Type 0 where
  pub long : length m' ≡ SIZE
  pub below : (i : ℕ) → i < SETS → get_or m' i 0 ≡ get_or m i 0
  pub new : (j : ℕ) → j < n → slot_words m' j ≡ rolled (turn_after c (slot_words m j)) (f j)
  pub old : (j : ℕ) → n ≤ j → j < MOST_TEMPORALS → slot_words m' j ≡ slot_words m j
  pub beyond : (i : ℕ) → VALUES ≤ i → get_or m' i 0 ≡ get_or m i 0

-- m' is m with its first n atoms anew
pub record Atoms (m atoms : List ℕ) (n : ℕ) (m' : List ℕ) : Type 0 where
  pub long : length m' ≡ SIZE
  pub new : (i : ℕ) → i < n → get_or m' (ATOMS + i) 0 ≡ get_or atoms i 0
  pub below : (i : ℕ) → i < ATOMS → get_or m' i 0 ≡ get_or m i 0
  pub above : (i : ℕ) → ATOMS + n ≤ i → get_or m' i 0 ≡ get_or m i 0

-- a call was accepted, and up to this time a time call moves the clock alone
pub record QuietAt (m : List ℕ) (t : ℕ) : Type 0 where
  pub begun : begun_word m ≡ 1
  pub until : t ≤ until_word m

-- a call was accepted, and the atoms that stand there are these
pub record AtomsStand (m atoms : List ℕ) : Type 0 where
  pub begun : begun_word m ≡ 1
  pub same : (i : ℕ) → i < length atoms → get_or m (ATOMS + i) 0 ≡ get_or atoms i 0

-- m with the clock alone moved
abbrev pub ticked : List ℕ → ℕ → List ℕ
ticked m t = set m CLOCK t

-- m with begun set, and the clock
abbrev pub clocked : List ℕ → ℕ → List ℕ
clocked m c = set (set m BEGUN 1) CLOCK c

-- m' is m after a call at clock c and atoms, with the atoms still those of m, and but for what is told and the digits
pub record Moved (m : List ℕ) (renew : Renew) (st : State) (c : ℕ) (atoms m' : List ℕ) : Type 0 where
  pub long : length m' ≡ SIZE
  pub begun : begun_word m' ≡ 1
  pub clock : clock_of m' ≡ c
  pub below : (i : ℕ) → (i ≡ BEGUN → ⊥) → (i ≡ CLOCK → ⊥) → i < SETS → get_or m' i 0 ≡ get_or m i 0
  pub new : (j : ℕ) → j < temporals m → slot_words m' j ≡ rolled (turn_after c (slot_words m j)) (set_at (step_of m renew st c atoms) (owner_at m j))
  pub good : (j : ℕ) → j < temporals m → Rolling (slot_words m' j)
  pub old : (j : ℕ) → temporals m ≤ j → j < MOST_TEMPORALS → slot_words m' j ≡ slot_words m j
  pub values : (r : ℕ) → r < row_count m → value_at m' r ≡ value_after m renew st c atoms r
  pub beyond : (i : ℕ) → VALUES + row_count m ≤ i → get_or m' i 0 ≡ get_or m i 0

-- a call tried: every set has room, r is 0 and m is moved to m'; or one lacks it, r is 11 and m' is m
pub record Tried (m : List ℕ) (renew : Renew) (st : State) (c : ℕ) (atoms m' : List ℕ) (r : ℕ) : Type 0 where
  pub room : crowded (step_of m renew st c atoms) ≡ false → (r ≡ ACCEPTED) × Moved m renew st c atoms m'
  pub full : crowded (step_of m renew st c atoms) ≡ true → (r ≡ NO_ROOM) × (m' ≡ m)

-- none of the first n bytes is greater than r
pub record NoneOver (bytes : List ℕ) (r n : ℕ) : Type 0 where
  pub below : (j : ℕ) → j < n → get_or bytes j 0 ≤ r

-- and if r is more than 1, one of them is
pub record Greatest (bytes : List ℕ) (r n : ℕ) : Type 0 where
  pub over : NoneOver bytes r n
  pub met : 1 < r → (k : ℕ) × (k < n) × (1 < get_or bytes k 0)

-- a planned step leaves the sets as they are: it has fresh atoms, a call was accepted before it, and no change is planned
pub record SetsStay (m : List ℕ) (fresh : Bool) (modes : List ℕ) : Type 0 where
  pub anew : fresh ≡ true
  pub begun : begun_word m ≡ 1
  pub none : (j : ℕ) → j < MOST_TEMPORALS → get_or modes j 0 ≡ 0

-- m' is m but for its tables, and a call was accepted before
pub record OnlyValues (m m' : List ℕ) : Type 0 where
  pub alike : Alike m m'
  pub begun : begun_word m ≡ 1

-- the state after the time step of a stamped call at clock c, with the atoms before it
abbrev pub time_step : List ℕ → ℕ → List ℕ → State
time_step m c old = step_of m (own_renew (state_of m)) (state_of m) c old

-- a stamped call tried at clock c, with the atoms before it and those that come: the time step lacks room, r is 11 and m' is m; or it has room, and
-- the state step was tried from what it leaves
pub record TriedBoth (m : List ℕ) (c : ℕ) (old new m' : List ℕ) (r : ℕ) : Type 0 where
  pub between : crowded (time_step m c old) ≡ true → (r ≡ NO_ROOM) × (m' ≡ m)
  pub last : crowded (time_step m c old) ≡ false → Tried m (own_renew (time_step m c old)) (time_step m c old) c new m' r

-- words with a set in slot j
pub record Held (m : List ℕ) (j : ℕ) : Type 0 where
  pub long : length m ≡ SIZE
  pub inside : j < MOST_TEMPORALS
  pub good : Rolling (slot_words m j)

-- words whose set of slot j has room for a change by a start and a stop at clock c
pub record Roomy (m : List ℕ) (mode s t c j : ℕ) : Type 0 where
  pub long : length m ≡ SIZE
  pub inside : j < MOST_TEMPORALS
  pub good : Rolling (slot_words m j)
  pub room : fits SET_WORDS (changed mode s t c (ringed (slot_words m j))) ≡ true

-- a slot whose set has room for a change, and modes that every set has room for
pub record Fit (m : List ℕ) (c mode j : ℕ) : Type 0 where
  pub inside : j < MOST_TEMPORALS
  pub bounded : Bounded m c (owner_at m j)
  pub good : Rolling (slot_words m j)
  pub room : fits SET_WORDS (set_after m c mode j) ≡ true

pub record Fitting (m : List ℕ) (c : ℕ) (modes : List ℕ) : Type 0 where
  pub timely : Timely m c
  pub room : (j : ℕ) → j < temporals m → fits SET_WORDS (set_after m c (get_or modes j 0) j) ≡ true

-- ---- the digits that stand in a memory are right for what was told; those of settled, where it is not the first accepted call
pub record Asked (m : List ℕ) (first : Bool) : Type 0 where
  pub early : (i : ℕ) → i < property_count m → early_at m i ≡ early_digit m i
  pub settled : first ≡ false → (i : ℕ) → i < property_count m → settled_at m i ≡ settled_digit m i

-- what a call leaves before it is told and asked what is new
pub record Due (m : List ℕ) (first : Bool) : Type 0 where
  pub sound : Sound m
  pub valued : Valued m
  pub moving : Moving m
  pub founded : Founded m
  pub unused : Unused m
  pub asked : Asked m first

-- what a call leaves before it is noted: k made on m handed back r and left m', with the ledger of m
pub record Done (k : Call) (m m' : List ℕ) (r : ℕ) : Type 0 where
  pub number : r ≡ (call (book_of m).rows (state_of m) k).number
  pub state : state_of m' ≡ (call (book_of m).rows (state_of m) k).state
  pub book : book_of m' ≡ book_of m
  pub turned : r ≡ 0 → Turned m m'
  pub refused : (r ≡ 0 → ⊥) → m' ≡ m
  pub ledger : SameLedger m m'
  pub kept : Kept m'

-- what one leaves that is not refused for itself: the snapshots played, the newest state or the old one
pub record Advanced (m : List ℕ) (ns : List Snap) (m' : List ℕ) (r : ℕ) : Type 0 where
  pub number : r ≡ (play (rows_of m) (state_of m) (state_of m) ns).number
  pub state : state_of m' ≡ (play (rows_of m) (state_of m) (state_of m) ns).state
  pub book : book_of m' ≡ book_of m
  pub turned : r ≡ 0 → Turned m m'
  pub refused : (r ≡ 0 → ⊥) → m' ≡ m
  pub ledger : SameLedger m m'
