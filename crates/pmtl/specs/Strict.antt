-- REFERENCE 2.8: how many runs a set can need at once, by the range of its row, and books in which none needs more than it may have. Definitions only.
use Rattle.std.specs.Prelude.{ℕ, suc, ◌+◌, ◌-◌, ◌/◌, ◌≤◌, Bool, cond, [], ◌∷◌, length, ltb, eqb}
use Rattle.numbers.specs.Limits.{MAX, MOST_RUNS}
use Rattle.pmtl.specs.Book.{Range, Row, Rows, row_at}
use Rattle.pmtl.specs.Book.Row.{never, always, atom, conj, disj, neg, implies, historically, once, since}

-- from where a run begins to where the next does: it is at least upper - lower + 1 instants long, and they are one apart
abbrev pub stride : Range → ℕ
stride g = g.upper - g.lower + 2

-- kept runs end at or after the clock, and the newest at most upper after it: so many others have room before it
abbrev pub quotient : Range → ℕ
quotient g = g.upper / stride g

-- the most runs that a set can need at once whose row has this range: the newest and so many; the newest alone where the range is unbounded
unfoldable pub needed : Range → ℕ
needed g = cond (eqb g.upper MAX) 1 (quotient g + 1)

-- the most that the set of a row can need: none where the row is not temporal
unfoldable pub needed_by : {X : Type 0} → Row X → ℕ
needed_by never = 0
needed_by always = 0
needed_by (atom a) = 0
needed_by (conj xs) = 0
needed_by (disj xs) = 0
needed_by (neg x) = 0
needed_by (implies x y) = 0
needed_by (historically g x) = needed g
needed_by (once g x) = needed g
needed_by (since g x y) = needed g

-- no row can need more than a set may have
abbrev pub Strict : Rows → Type 0
Strict b = (r : ℕ) → needed_by (row_at b r) ≤ MOST_RUNS

-- a row can
abbrev pub over : {X : Type 0} → Row X → Bool
over row = ltb MOST_RUNS (needed_by row)

-- the first row that can; the row count where none can
unfoldable pub first_over : Rows → ℕ
first_over [] = 0
first_over (row ∷ b) = cond (over row) 0 (suc (first_over b))

-- some row can
abbrev pub any_over : Rows → Bool
any_over b = ltb (first_over b) (length b)
