-- Private steps of the calls: what a step plans, from the sets as the steps before it leave them. No public call cites these. Definitions only.
use Rattle.std.specs.Prelude.{ℕ, ◌+◌, ◌≤◌, ◌<◌, min, ◌≡◌, Bool, true, false, cond, not, List, [], map, length, get_or, set, ltb, eqb, Result, Ok, Err, is_ok, IfOk, IsOkUnless}
use Rattle.std.specs.Bool.{beq}
use Rattle.numbers.specs.Limits.{MAX, LAST_TIME, MOST_ROWS}
use Rattle.numbers.specs.declared.Refusal.{Refusal}
use Rattle.numbers.specs.declared.Refusal.TheVariants.{NoRoom}
use Rattle.lists.specs.Lists.{listed, filled_from}
use Rattle.numset.specs.Runs.{Runs, has, fits, SET_WORDS}
use Rattle.ring.specs.Ring.{ringed}
use Rattle.pmtl.specs.Answer.{bit_of}
use Rattle.pmtl.specs.Book.{start, stop, map_row}
use Rattle.pmtl.specs.Sets.{Renew, ordinary, lasting, renewed_in, set_rule_by}
use Rattle.pmtl.specs.Monitor.{Snap, State, set_at, value_rule, value, step_by, step_in}
use Rattle.pmtl.specs.Calls.{crowded}
use Rattle.book.specs.Rows.{temporal, ATOM, HISTORICALLY}
use Rattle.memory.specs.Layout.{VALUES, SIZE}
use Rattle.memory.specs.Memory.{row_count, range_at, begun_word, clock_of, temporals, kind_at, arg_at, lower_at, upper_at, slot_at, owner_at, slot_words, way_word, atoms_of, value_at, moves_at, lowest_at, row_of, rows_of, state_of, is_one}
use Rattle.memory.specs.Kept.{Sound}
use Rattle.set_change.specs.Change.{changed, spanned_if, counted_from, both_of, mode_in}
use Rattle.planning.specs.declared.RowPlan.{RowPlan}

-- the atoms of a call: the bytes of a state, or those that stand there
abbrev pub atoms_for : List ℕ → (fresh : Bool) → List ℕ → List ℕ
atoms_for m fresh bytes = cond fresh bytes (atoms_of m)

-- the clock and atoms that a step leaves, and the state after it, from the state before
abbrev pub snap_of : ℕ → List ℕ → Snap
snap_of c atoms = record { clock = c; atoms = map is_one atoms }

abbrev pub step_of : List ℕ → Renew → State → ℕ → List ℕ → State
step_of m renew st c atoms = step_by renew (rows_of m) st (snap_of c atoms)

-- how a monitor's own next step renews its sets
abbrev pub own_renew : State → Renew
own_renew st = renewed_in st.way st.now.clock

-- a step counts the whole stretch since the clock before if a state lasts, but for one with fresh atoms, at whose clock a step was made already
abbrev pub spans_in : List ℕ → (fresh : Bool) → Bool
spans_in m fresh = cond fresh false (is_one (way_word m))

-- how such a step renews the sets
abbrev pub renew_over : List ℕ → (spans : Bool) → Renew
renew_over m spans = renewed_in (cond spans lasting ordinary) (clock_of m)

-- ---- the sets as modes leave them
-- the first instant that a change at clock c counts from, by its mode: that after the clock before, or c
abbrev pub counts_from : List ℕ → ℕ → ℕ → ℕ
counts_from m c mode = counted_from (min (clock_of m + 1) c) c mode

-- the set of slot j, changed by a mode at clock c
abbrev pub set_after : List ℕ → ℕ → ℕ → ℕ → Runs
set_after m c mode j = changed mode (start (range_at m (owner_at m j)) (counts_from m c mode)) (stop (range_at m (owner_at m j)) c) c (ringed (slot_words m j))

-- that of row r; no runs where it is not temporal
unfoldable pub set_ahead : List ℕ → ℕ → List ℕ → ℕ → Runs
set_ahead m c modes r = cond (temporal (kind_at m r)) (set_after m c (get_or modes (slot_at m r) 0) (slot_at m r)) []

-- and the state with those sets: what the steps planned so far leave
unfoldable pub ahead : List ℕ → ℕ → List ℕ → State
ahead m c modes = record { way = (state_of m).way; begun = (state_of m).begun; now = (state_of m).now; sets = listed (set_ahead m c modes) (row_count m) }

-- ---- a row by the table: where the values of the rows below it are new, what becomes of its set, and its own new value
abbrev pub held_in : List ℕ → ℕ → Bool
held_in m r = is_one (value_at m r)

abbrev pub set_next : List ℕ → (spans : Bool) → ℕ → List ℕ → ℕ → Runs
set_next m spans c modes r = set_rule_by (renew_over m spans) c (set_ahead m c modes r) (map_row (held_in m) (row_of m r))

abbrev pub value_next : List ℕ → (spans : Bool) → ℕ → List ℕ → List ℕ → ℕ → Bool
value_next m spans c modes atoms r = value_rule (map is_one atoms) (has (set_next m spans c modes r) c) (map_row (held_in m) (row_of m r))

-- ---- the same as the code finds it: how the set of row r changes in this step
abbrev pub mode_at : List ℕ → ℕ → ℕ
mode_at m r = mode_in (map_row (held_in m) (row_of m r))

-- what is planned for slot j, where there is room: the mode, and whether the set will contain the clock
abbrev pub row_plan : List ℕ → ℕ → ℕ → ℕ → Result RowPlan Refusal
row_plan m c mode j = cond (fits SET_WORDS (set_after m c mode j)) (Ok (record { mode = mode; here = has (set_after m c mode j) c })) (Err NoRoom)

-- if row r is an atom, there is a byte for it
pub record Named (m bytes : List ℕ) (r : ℕ) : Type 0 where
  pub inside : kind_at m r ≡ ATOM → arg_at m r < length bytes

-- and in this step and those before it
abbrev pub mode_next : List ℕ → (spans : Bool) → List ℕ → ℕ → ℕ
mode_next m spans modes r = spanned_if spans (both_of (get_or modes (slot_at m r) 0) (mode_at m r))

-- modes with that of row r, if it is temporal
unfoldable pub mode_put : List ℕ → (spans : Bool) → List ℕ → ℕ → List ℕ
mode_put m spans modes r = cond (temporal (kind_at m r)) (set modes (slot_at m r) (mode_next m spans modes r)) modes

-- no change is planned yet
pub record Unplanned (m modes : List ℕ) : Type 0 where
  pub none : (j : ℕ) → j < temporals m → get_or modes j 0 ≡ 0

-- none is for row r, where the step counts a stretch: it is the first of its call
pub record Leading (m modes : List ℕ) (spans : Bool) (r : ℕ) : Type 0 where
  pub none : spans ≡ true → HISTORICALLY ≤ kind_at m r → get_or modes (slot_at m r) 0 ≡ 0

-- a value that was turned into the other
abbrev pub turned_to : Bool → Bool → Bool
turned_to old new = not (beq old new)

-- of row r it was noted how its set is to change, if it is temporal, and it is known whether the set will contain the clock; or the set lacks room
pub record ModeNoted (m : List ℕ) (spans : Bool) (c : ℕ) (modes : List ℕ) (r : ℕ) (modes' : List ℕ) (here : Result Bool Refusal) : Type 0 where
  pub room_is : is_ok here ≡ fits SET_WORDS (set_next m spans c modes r)
  pub mode_is_put : is_ok here ≡ true → modes' ≡ mode_put m spans modes r
  pub here_is : IfOk here (λ h. h ≡ has (set_next m spans c modes r) c)
  pub refused : IsOkUnless here NoRoom

-- row r was tried: its set has room, its value and mode are noted, and it is known whether its value was turned; or it lacks room, and nothing is
pub record RowTried (m : List ℕ) (spans : Bool) (c : ℕ) (atoms modes : List ℕ) (r : ℕ) (m' modes' : List ℕ) (turned : Result Bool Refusal) : Type 0 where
  pub room_is : is_ok turned ≡ fits SET_WORDS (set_next m spans c modes r)
  pub value_put : is_ok turned ≡ true → m' ≡ set m (VALUES + r) (bit_of (value_next m spans c modes atoms r))
  pub mode_is_put : is_ok turned ≡ true → modes' ≡ mode_put m spans modes r
  pub turned_is : IfOk turned (λ t. t ≡ turned_to (held_in m r) (value_next m spans c modes atoms r))
  pub refused : IsOkUnless turned NoRoom
  pub none : is_ok turned ≡ false → m' ≡ m

-- something is new to row r where the rows that were changed are below `changed`: to an atom its byte, to another row that one from the lowest below it on is
unfoldable pub new_to : List ℕ → List ℕ → ℕ → ℕ → Bool
new_to m bytes r changed = cond (eqb (kind_at m r) ATOM) (turned_to (held_in m r) (is_one (get_or bytes (arg_at m r) 0))) (ltb (lowest_at m r) changed)

-- a step looks at row r
unfoldable pub visited : List ℕ → List ℕ → ℕ → (fresh : Bool) → ℕ → Bool
visited m bytes r fresh changed = cond fresh (new_to m bytes r changed) (is_one (moves_at m r))

-- before the first accepted call all rows count as changed
abbrev pub unmade_in : List ℕ → ℕ
unmade_in m = cond (is_one (begun_word m)) 0 MOST_ROWS

-- the word of row r in the table of values is a bit
abbrev pub IsBit : List ℕ → ℕ → Type 0
IsBit m r = value_at m r ≡ bit_of (held_in m r)

-- the words of the table of values are bits
pub record Bits (m : List ℕ) : Type 0 where
  pub right : (r : ℕ) → r < row_count m → IsBit m r

-- a step at clock c has gone before: the state that it left rests, its values stand in the table, and its sets are those that the modes leave
pub record Stands (m : List ℕ) (c : ℕ) (modes : List ℕ) : Type 0 where
  pub state : State
  pub clock : state.now.clock ≡ c
  pub values : (r : ℕ) → r < row_count m → value_at m r ≡ bit_of (value (rows_of m) state r)
  pub sets : (j : ℕ) → j < temporals m → set_after m c (get_or modes j 0) j ≡ set_at state (owner_at m j)
  pub room : (j : ℕ) → j < temporals m → fits SET_WORDS (set_at state (owner_at m j)) ≡ true
  pub rests : step_in (rows_of m) state state.now ≡ state

-- the value of each row after the step, as a word
abbrev pub value_after : List ℕ → Renew → State → ℕ → List ℕ → ℕ → ℕ
value_after m renew st c atoms r = bit_of (value (rows_of m) (step_of m renew st c atoms) r)

-- the plan of a call: whether every set has room, and if so the modes; the values of the rows that were tried are new in m'
pub record Planned (m : List ℕ) (renew : Renew) (st : State) (c : ℕ) (atoms m' : List ℕ) (room : Bool) (modes : List ℕ) : Type 0 where
  pub fits : crowded (step_of m renew st c atoms) ≡ not room
  pub sets : room ≡ true → (j : ℕ) → j < temporals m → set_after m c (get_or modes j 0) j ≡ set_at (step_of m renew st c atoms) (owner_at m j)
  pub tried : ℕ
  pub few : tried ≤ row_count m
  pub all : room ≡ true → tried ≡ row_count m
  pub values : m' ≡ filled_from VALUES (value_after m renew st c atoms) m tried

-- a row whose range can be counted from clock c: no sum wraps
pub record Bounded (m : List ℕ) (c r : ℕ) : Type 0 where
  pub long : length m ≡ SIZE
  pub inside : r < MOST_ROWS
  pub clock : c ≤ LAST_TIME
  pub lower : lower_at m r ≤ LAST_TIME
  pub upper : (upper_at m r ≡ MAX → ⊥) → upper_at m r ≤ LAST_TIME

-- a sound memory and a clock that a call may set
pub record Timely (m : List ℕ) (c : ℕ) : Type 0 where
  pub sound : Sound m
  pub clock : c ≤ LAST_TIME

-- a slot in use and its owner
pub record Slot (m : List ℕ) (c j r : ℕ) : Type 0 where
  pub timely : Timely m c
  pub inside : j < temporals m
  pub owner : r ≡ owner_at m j
