-- Up to when a time call on a monitor that rests moves the clock alone. Definitions only.
use Rattle.std.specs.Prelude.{ℕ, zero, suc, ◌+◌, ◌≤◌, min, max, Bool, cond, [], ◌∷◌, length, ltb, eqb}
use Rattle.numbers.specs.Limits.{MAX, LAST_TIME}
use Rattle.numset.specs.Runs.{Runs, run}
use Rattle.numset.specs.Until.{rests_until}
use Rattle.pmtl.specs.Book.{Range, Row, Rows, row_at}
use Rattle.pmtl.specs.Book.Row.{never, always, atom, conj, disj, neg, implies, historically, once, since}
use Rattle.pmtl.specs.Monitor.{State, set_at}
use Rattle.pmtl.specs.Calls.{timed}

-- nothing new is added to a set whose newest run is l ..= u: an unbounded range counted from c begins after it; a range with an end does not end
-- in it, so that none is added at all
unfoldable pub steady : ℕ → Range → ℕ → ℕ → Bool
steady c g l u = cond (eqb g.upper MAX) (ltb l (c + g.lower)) (ltb u (c + g.upper))

-- up to when a set stays as it is, and the clock meets the same of it: a steady one while it rests, any other at the clock c alone
unfoldable pub until_set : ℕ → Range → Runs → ℕ
until_set c g [] = MAX
until_set c g (run l u ∷ rs) = cond (steady c g l u) (rests_until c (run l u ∷ rs)) c

-- a row with no set never changes by the clock alone
unfoldable pub until_row : ℕ → Runs → Row ℕ → ℕ
until_row c s never = MAX
until_row c s always = MAX
until_row c s (atom a) = MAX
until_row c s (conj os) = MAX
until_row c s (disj os) = MAX
until_row c s (neg o) = MAX
until_row c s (implies x y) = MAX
until_row c s (historically g o) = until_set c g s
until_row c s (once g o) = until_set c g s
until_row c s (since g x y) = until_set c g s

-- the least of the first n rows
unfoldable pub until_to : Rows → State → ℕ → ℕ
until_to b st zero = MAX
until_to b st (suc r) = min (until_to b st r) (until_row st.now.clock (set_at st r) (row_at b r))

-- up to when a time call moves the clock alone: never before the clock itself
unfoldable pub quiet_until : Rows → State → ℕ
quiet_until b st = max st.now.clock (until_to b st (length b))

-- the state with its clock moved
abbrev pub moved_to : ℕ → State → State
moved_to t st = record { way = st.way; begun = st.begun; now = timed st.now t; sets = st.sets }

-- a range as books have it: not empty, and its lower bound can be added to a clock
abbrev pub Ranged : Range → Type 0
Ranged g = (g.lower ≤ g.upper) × (g.lower ≤ LAST_TIME)

abbrev pub RowRanged : Row ℕ → Type 0
RowRanged never = Unit {0}
RowRanged always = Unit {0}
RowRanged (atom a) = Unit {0}
RowRanged (conj os) = Unit {0}
RowRanged (disj os) = Unit {0}
RowRanged (neg o) = Unit {0}
RowRanged (implies x y) = Unit {0}
RowRanged (historically g o) = Ranged g
RowRanged (once g o) = Ranged g
RowRanged (since g x y) = Ranged g
