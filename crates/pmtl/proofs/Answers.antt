-- What a state and a step are, row by row: each answer is its rule at the operands' answers. All that the theorems need of the tables.
-- Assumes nothing.
use Prim.Native.Nat.{ℕ, ◌<◌, ◌≤◌}
use native.Mathlib.Omega.{arith}
use native.Mathlib.Decide.{dec_lt}
use mathlib.Core.Path.{◌≡◌, refl, sym, ap, ap₂, ◌∙◌, fun_ext}
use mathlib.Core.Bool.{Bool, true, false, cond}
use mathlib.Core.List.{map}
use lib.ListN.{length, get_or, length-map, get_or-map}
use Rattle.numset.specs.Runs.{Runs, has, covers}
use Rattle.pmtl.specs.declared.Answer.TheVariants.{Open}
use Rattle.pmtl.specs.Book.{Row, map_row, Rows, row_at, Ordered, table, answer}
use Rattle.pmtl.specs.Book.Row.{never}
use Rattle.pmtl.specs.Sets.{gone, Renew, renewed, ordinary, renewed_in, set_rule_by, set_rule}
use Rattle.pmtl.specs.Monitor.{Snap, State, set_at, value_rule, Cell, set_in, value_in, no_cell, cell_rule_by, cell_rule, step_by, step_in, step, value}
use Rattle.pmtl.specs.Early.{early_rule, early}
use Rattle.pmtl.specs.Settled.{settled_rule, settled}
use Rattle.pmtl.proofs.Table.{answer_in, answer_out, answer_made, answer_fix, answer_only, map_row_map_row, map_row_local, table_length, table_local, by_rows}

module _ (b : Rows) (st : State) where
  -- rows that are not there
  pub value_out : (r : ℕ) → length b ≤ r → value b st r ≡ false
  unfolding value
  value_out r h = answer_out b false _ r h

  pub early_out : (r : ℕ) → length b ≤ r → early b st r ≡ Open
  unfolding early
  early_out r h = answer_out b Open _ r h

  -- open before the first accepted call
  pub settled_before : st.begun ≡ false → (r : ℕ) → settled b st r ≡ Open
  unfolding settled
  settled_before e r = rw e

  pub settled_out : (r : ℕ) → length b ≤ r → settled b st r ≡ Open
  unfolding settled
  settled_out r h = ap (λ a. cond st.begun a Open) (answer_out b Open _ r h) ∙ either_open st.begun
    where
      either_open : (x : Bool) → cond x Open Open ≡ Open
      either_open true = refl
      either_open false = refl

-- sets are renewed in any way
module _ (renew : Renew) (b : Rows) (st : State) (now : Snap) where
  -- one set for each row
  pub step_sets_by : length (step_by renew b st now).sets ≡ length b
  unfolding step_by
  step_sets_by = length-map (table b no_cell (cell_rule_by renew st now) (length b)) set_in ∙ table_length b no_cell (cell_rule_by renew st now) (length b)

  -- a row's set after a call is its set before it, renewed by some values of its operands
  pub set_made_by : (r : ℕ) → (row : Row Bool) × (set_at (step_by renew b st now) r ≡ set_rule_by renew now.clock (set_at st r) row)
  unfolding step_by answer set_rule_by
  set_made_by r = go (dec_lt r (length b))
    where
      is : set_at (step_by renew b st now) r ≡ (answer b no_cell (cell_rule_by renew st now) r).set
      is = get_or-map set_in (table b no_cell (cell_rule_by renew st now) (length b)) r no_cell

      go : Dec (r < length b) → (row : Row Bool) × (set_at (step_by renew b st now) r ≡ set_rule_by renew now.clock (set_at st r) row)
      go (yes l) = let m = answer_made b no_cell (cell_rule_by renew st now) r l in (map_row value_in (map_row m.0 (row_at b r)), is ∙ ap set_in m.1)
      go (no l) = (never, is ∙ ap set_in (answer_out b no_cell (cell_rule_by renew st now) r (omega arith)))

  -- what a step leaves besides the sets
  pub step_now_by : (step_by renew b st now).now ≡ now
  unfolding step_by
  step_now_by = refl

  pub step_begun_by : (step_by renew b st now).begun ≡ true
  unfolding step_by
  step_begun_by = refl

  pub step_way_by : (step_by renew b st now).way ≡ st.way
  unfolding step_by
  step_way_by = refl

-- in the ordinary way
module _ (b : Rows) (st : State) (now : Snap) where
  pub step_sets : length (step b st now).sets ≡ length b
  step_sets = step_sets_by renewed b st now

  pub step_now : (step b st now).now ≡ now
  step_now = step_now_by renewed b st now

  pub step_begun : (step b st now).begun ≡ true
  step_begun = step_begun_by renewed b st now

  pub step_way : (step b st now).way ≡ st.way
  step_way = step_way_by renewed b st now

  -- it is the step of a monitor in the ordinary way
  pub step_ordinary : st.way ≡ ordinary → step_in b st now ≡ step b st now
  step_ordinary e = ap (λ w. step_by (renewed_in w st.now.clock) b st now) e

-- a step looks at the sets before it, and at how sets are renewed, only through what the rule makes of them
module _ (renew renew' : Renew) (b : Rows) (st st' : State) (now : Snap) (one_way : st.way ≡ st'.way)
    (same : (r : ℕ) → r < length b → (f : ℕ → Bool)
    → set_rule_by renew now.clock (set_at st r) (map_row f (row_at b r)) ≡ set_rule_by renew' now.clock (set_at st' r) (map_row f (row_at b r))) where
  same_cell : (r : ℕ) → r < length b → (f : ℕ → Cell) → cell_rule_by renew st now r (map_row f (row_at b r)) ≡ cell_rule_by renew' st' now r (map_row f (row_at b r))
  same_cell r h f = ap (λ (s : Runs). record { set = s; value = value_rule now.atoms (has s now.clock) (map_row value_in (map_row f (row_at b r))) })
      (rw (map_row_map_row value_in f (row_at b r)) (same r h (λ o. (f o).value)))

  pub step_same : step_by renew b st now ≡ step_by renew' b st' now
  unfolding step_by
  step_same = ap₂ (λ w t. record { way = w; begun = true; now = now; sets = map set_in t }) one_way (table_local b no_cell (cell_rule_by renew st now) (cell_rule_by renew' st' now) (length b) same_cell)

module _ (b : Rows) (w : Ordered b) where
  module _ (st : State) where
    -- a row's value, by its set and its operands' values
    pub value_fix : (r : ℕ) → value b st r ≡ value_rule st.now.atoms (has (set_at st r) st.now.clock) (map_row (value b st) (row_at b r))
    unfolding value value_rule
    value_fix r = answer_fix b false _ w r refl

    -- a row's early answer, by its set and its operands' answers
    pub early_fix : (r : ℕ) → r < length b → early b st r ≡ early_rule (covers st.now.clock (set_at st r)) (map_row (early b st) (row_at b r))
    unfolding early
    early_fix r h = answer_in b Open _ w r h

    -- a row's settled answer, by its set and its operands' answers
    pub settled_fix : st.begun ≡ true → (r : ℕ) → r < length b
        → settled b st r ≡ settled_rule (covers st.now.clock (set_at st r)) (gone st.now.clock (set_at st r)) (map_row (settled b st) (row_at b r))
    unfolding settled
    settled_fix e r h = rw e (answer_in b Open (λ n row. settled_rule (covers st.now.clock (set_at st n)) (gone st.now.clock (set_at st n)) row) w r h)

  module _ (renew : Renew) (st : State) (now : Snap) where
    -- what the call makes of a row
    cell : ℕ → Cell
    cell = answer b no_cell (cell_rule_by renew st now)

    cell_fix : (r : ℕ) → cell r ≡ cell_rule_by renew st now r (map_row cell (row_at b r))
    unfolding cell set_rule_by value_rule
    cell_fix r = answer_fix b no_cell (cell_rule_by renew st now) w r refl

    cell_set : (r : ℕ) → set_at (step_by renew b st now) r ≡ (cell r).set
    unfolding cell answer step_by
    cell_set r = get_or-map set_in (table b no_cell (cell_rule_by renew st now) (length b)) r no_cell

    vs : (r : ℕ) → Row Bool
    vs r = map_row (λ o. (cell o).value) (row_at b r)

    cell_sets : (r : ℕ) → (cell r).set ≡ set_rule_by renew now.clock (set_at st r) (vs r)
    unfolding vs
    cell_sets r = ap set_in (cell_fix r) ∙ ap (set_rule_by renew now.clock (set_at st r)) (map_row_map_row value_in cell (row_at b r))

    cell_values : (r : ℕ) → (cell r).value ≡ value_rule now.atoms (has (set_at (step_by renew b st now) r) now.clock) (vs r)
    unfolding vs
    cell_values r = ap value_in (cell_fix r)
        ∙ ap₂ (λ (s : Runs) row. value_rule now.atoms (has s now.clock) row) (sym (ap set_in (cell_fix r)) ∙ sym (cell_set r)) (map_row_map_row value_in cell (row_at b r))

    -- the values that the step works out are those of the walk
    cell_value : (r : ℕ) → (cell r).value ≡ value b (step_by renew b st now) r
    unfolding value step_by vs value_rule
    cell_value r = answer_only b false (λ k row. value_rule now.atoms (has (set_at (step_by renew b st now) k) now.clock) row) w (λ k. refl) (λ o. (cell o).value) cell_values r

    -- a row's set after a call, by its set before it and its operands' values after it
    pub set_fix_by : (r : ℕ) → set_at (step_by renew b st now) r ≡ set_rule_by renew now.clock (set_at st r) (map_row (value b (step_by renew b st now)) (row_at b r))
    unfolding vs
    set_fix_by r = cell_set r ∙ cell_sets r ∙ ap (λ (f : ℕ → Bool). set_rule_by renew now.clock (set_at st r) (map_row f (row_at b r))) (fun_ext cell_value)

    -- a table of the values, worked out with the sets, is the walk
    pub table_value_by : (r : ℕ) → get_or (map value_in (table b no_cell (cell_rule_by renew st now) (length b))) r false ≡ value b (step_by renew b st now) r
    unfolding cell answer
    table_value_by r = get_or-map value_in (table b no_cell (cell_rule_by renew st now) (length b)) r no_cell ∙ cell_value r

  -- as the monitor does it
  module _ (st : State) (now : Snap) where
    pub set_fix : (r : ℕ) → set_at (step b st now) r ≡ set_rule now.clock (set_at st r) (map_row (value b (step b st now)) (row_at b r))
    set_fix = set_fix_by renewed st now

    pub table_value : (r : ℕ) → get_or (map value_in (table b no_cell (cell_rule st now) (length b))) r false ≡ value b (step b st now) r
    table_value = table_value_by renewed st now

  -- a value looks at the atoms, and at whether the sets of its own row and of rows below contain the clock
  pub value_local : (st st' : State) → st.now.atoms ≡ st'.now.atoms → (r : ℕ)
      → ((o : ℕ) → o ≤ r → has (set_at st o) st.now.clock ≡ has (set_at st' o) st'.now.clock) → value b st r ≡ value b st' r
  value_local st st' n = by_rows (λ r. ((o : ℕ) → o ≤ r → has (set_at st o) st.now.clock ≡ has (set_at st' o) st'.now.clock) → value b st r ≡ value b st' r) λ r below same.
      value_fix st r
      ∙ ap₂ (λ m x. value_rule m x (map_row (value b st) (row_at b r))) n (same r (omega arith))
      ∙ ap (value_rule st'.now.atoms (has (set_at st' r) st'.now.clock))
      (map_row_local r (value b st) (value b st') (λ o k. below o k (λ q l. same q (omega arith))) (row_at b r) (w r))
      ∙ sym (value_fix st' r)

  -- a call row by row: in a state whose sets below r are already the new ones, row r's new set comes from its old one and the walk
  pub set_next : (st : State) (now : Snap) (mid : State) → mid.now ≡ now → (r : ℕ) → ((o : ℕ) → o < r → set_at mid o ≡ set_at (step b st now) o)
      → set_at (step b st now) r ≡ set_rule now.clock (set_at st r) (map_row (value b mid) (row_at b r))
  unfolding step_by
  set_next st now mid n r same = set_fix st now r
      ∙ ap (set_rule now.clock (set_at st r)) (map_row_local r (value b (step b st now)) (value b mid)
      (λ o k. sym (value_local mid (step b st now) (ap (λ (s : Snap). s.atoms) n) o
      (λ q l. ap₂ (λ (s : Runs) (m : Snap). has s m.clock) (same q (omega arith)) n))) (row_at b r) (w r))
