-- REFERENCE 3.1, 3.4 and 4.1: a monitor's state, what one call makes of it, and the value of a row. Definitions only.
use Rattle.std.specs.Prelude.{ℕ, max, Bool, true, false, not, ◌||◌, List, [], ◌∷◌, map, length, get_or, replicate}
use Rattle.numset.specs.Runs.{Runs, has}
use Rattle.pmtl.specs.Book.{Row, map_row, Rows, width_of, table, answer, every, some, itself}
use Rattle.pmtl.specs.Book.Row.{never, always, atom, conj, disj, neg, implies, historically, once, since}
use Rattle.pmtl.specs.Sets.{Renew, renewed, Way, ordinary, renewed_in, set_rule_by}

-- what a call leaves: the clock, and the atoms that the book names
pub record Snap : Type 0 where
  pub clock : ℕ
  pub atoms : List Bool

-- its way, whether a call was accepted yet, the clock and atoms, and the set of each row (empty where the row is not temporal)
pub record State : Type 0 where
  pub way : Way
  pub begun : Bool
  pub now : Snap
  pub sets : List Runs

abbrev pub set_at : State → ℕ → Runs
set_at st r = get_or st.sets r []

-- how many runs the fullest of some sets has, 0 where there is none
unfoldable pub most_runs : List Runs → ℕ
most_runs [] = 0
most_runs (s ∷ ss) = max (length s) (most_runs ss)

-- how many runs the fullest set of a monitor has, 0 where no row is temporal
abbrev pub fullest : State → ℕ
fullest st = most_runs st.sets

-- a fresh monitor has clock 0 and all atoms false, and with no call yet the sets are empty
abbrev pub fresh : Rows → Snap
fresh b = record { clock = 0; atoms = replicate (width_of b) false }

unfoldable pub initial_in : Way → Rows → State
initial_in way b = record { way = way; begun = false; now = fresh b; sets = replicate (length b) [] }

abbrev pub initial : Rows → State
initial = initial_in ordinary

-- a row's value, from the atoms, whether its set contains the clock, and its operands' values
unfoldable pub value_rule : List Bool → Bool → Row Bool → Bool
value_rule atoms here never = false
value_rule atoms here always = true
value_rule atoms here (atom a) = get_or atoms a false
value_rule atoms here (conj vs) = every itself vs
value_rule atoms here (disj vs) = some itself vs
value_rule atoms here (neg v) = not v
value_rule atoms here (implies l r) = not l || r
value_rule atoms here (historically g v) = not here
value_rule atoms here (once g v) = here
value_rule atoms here (since g l r) = here

-- the value of a row in a state
unfoldable pub value : Rows → State → ℕ → Bool
value b st = answer b false (λ r row. value_rule st.now.atoms (has (set_at st r) st.now.clock) row)

-- what a call makes of a row: its set and its value
pub record Cell : Type 0 where
  pub set : Runs
  pub value : Bool

abbrev pub set_in : Cell → Runs
set_in x = x.set

abbrev pub value_in : Cell → Bool
value_in x = x.value

abbrev pub no_cell : Cell
no_cell = record { set = []; value = false }

abbrev pub cell_rule_by : Renew → State → Snap → ℕ → Row Cell → Cell
cell_rule_by renew st now r row =
    let vs = map_row value_in row in
    let s = set_rule_by renew now.clock (set_at st r) vs in
    record { set = s; value = value_rule now.atoms (has s now.clock) vs }

-- a call re-evaluates every row, from row 0 upward, at the clock and atoms that it leaves
unfoldable pub step_by : Renew → Rows → State → Snap → State
step_by renew b st now = record { way = st.way; begun = true; now = now; sets = map set_in (table b no_cell (cell_rule_by renew st now) (length b)) }

-- in the monitor's own way
abbrev pub step_in : Rows → State → Snap → State
step_in b st now = step_by (renewed_in st.way st.now.clock) b st now

-- in the ordinary way
abbrev pub cell_rule : State → Snap → ℕ → Row Cell → Cell
cell_rule = cell_rule_by renewed

abbrev pub step : Rows → State → Snap → State
step = step_by renewed
