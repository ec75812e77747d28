-- numset.rs, function by function, in its order. Definitions only.
use Rattle.std.specs.Prelude.{ℕ, zero, suc, ◌+◌, min, max, Bool, true, false, ◌&&◌, List, [], ◌∷◌, ◌++◌, length, leb, ltb, eqb}
use Rattle.numbers.specs.Limits.{MAX}
use Rattle.numset.specs.Runs.{Run, run}
use Rattle.pmtl.specs.Book.{Range}
use Rattle.original.specs.Rust.{Ran, Found, is_some_and, saturating_sub, saturating_add, index, slice_from, split_off, last, binary_search_by_key, ◌>>=◌}
use Rattle.original.specs.Rust.Ran.{done}
use Rattle.original.specs.Rust.Found.{Ok, Err}

-- a pair `(lower_bound, upper_bound)` is written `run lower upper`; this is its .0
abbrev pub lower_of : Run → ℕ
lower_of (run l u) = l

-- and its .1
abbrev pub upper_of : Run → ℕ
upper_of (run l u) = u

-- struct NumSet: its pairs, as the Vec has them, the lowest first
abbrev pub NumSet : Type 0
NumSet = List Run

-- fn lower_bound: of a TimeRange the bound is Included, and the other two arms are not taken
abbrev pub lower_bound : Range → ℕ
lower_bound range = range.lower

-- fn upper_bound: the same
abbrev pub upper_bound : Range → ℕ
upper_bound range = range.upper

-- fn from: one pair, though it be empty
abbrev pub from_range : Range → NumSet
from_range value = run (lower_bound value) (upper_bound value) ∷ []

-- `self.0.push((lower, upper)); self.0.extend_from_slice(rest)`, which ends every way through add_assign
abbrev pub pushed : NumSet → ℕ → ℕ → NumSet → Ran NumSet
pushed self lower upper rest = done ((self ++ (run lower upper ∷ [])) ++ rest)

-- fn add_assign (`add_assign` below), its arm `Ok(i)`, by what the second search finds
unfoldable pub ok_then : NumSet → ℕ → NumSet → Found → Ran NumSet
ok_then self upper tail (Ok j) = do
  first ← index tail 0
  at_j ← index tail j
  rest ← slice_from tail (j + 1)
  pushed self (lower_of first) (upper_of at_j) rest
ok_then self upper tail (Err zero) = do
  first ← index tail 0
  rest ← slice_from tail 0
  pushed self (lower_of first) upper rest
ok_then self upper tail (Err (suc j)) = do
  first ← index tail 0
  before-j ← index tail j
  rest ← slice_from tail (suc j)
  pushed self (lower_of first) (max upper (upper_of before-j)) rest

-- its arm `Err(i)`, by what the second search finds; `index tail i` is the fault
unfoldable pub err_then : NumSet → ℕ → ℕ → ℕ → ℕ → NumSet → Found → Ran NumSet
err_then self len lower upper i tail (Ok j) = elim (eqb i len) [
  | true ↦ do
    at_j ← index tail j
    rest ← slice_from tail (j + 1)
    pushed self lower (upper_of at_j) rest
  | false ↦ do
    at_i ← index tail i
    at_j ← index tail j
    rest ← slice_from tail (j + 1)
    pushed self (min lower (lower_of at_i)) (upper_of at_j) rest
]
err_then self len lower upper i tail (Err zero) = elim (eqb i len) [
  | true ↦ do
    rest ← slice_from tail 0
    pushed self lower upper rest
  | false ↦ do
    first ← index tail 0
    rest ← slice_from tail 0
    pushed self (min lower (lower_of first)) upper rest
]
err_then self len lower upper i tail (Err (suc j)) = elim (eqb i len) [
  | true ↦ do
    before-j ← index tail j
    rest ← slice_from tail (suc j)
    pushed self lower (max upper (upper_of before-j)) rest
  | false ↦ do
    first ← index tail 0
    before-j ← index tail j
    rest ← slice_from tail (suc j)
    pushed self (min lower (lower_of first)) (max upper (upper_of before-j)) rest
]

-- what the first search found; the tail is split off there, and the second searches its lowers for upper + 1
unfoldable pub first_then : NumSet → ℕ → ℕ → Found → Ran NumSet
first_then self lower upper (Ok i) = do
  (head, tail) ← split_off self i
  ok_then head upper tail (binary_search_by_key tail (saturating_add upper 1) lower_of)
first_then self lower upper (Err i) = do
  (head, tail) ← split_off self i
  err_then head (length self) lower upper i tail (binary_search_by_key tail (saturating_add upper 1) lower_of)

-- fn add_assign: an empty range changes nothing; the first search is of the uppers for lower - 1
unfoldable pub add_assign : NumSet → Range → Ran NumSet
add_assign self rhs =
    let lower = lower_bound rhs in
    let upper = upper_bound rhs in
    elim (ltb upper lower) [
      | true ↦ done self
      | false ↦ first_then self lower upper (binary_search_by_key self (saturating_sub lower 1) upper_of)
    ]

-- impl NumSet: fn empty. Of its private functions `_full` and `_contains_interval` nothing calls either, and they are left out
abbrev pub empty : NumSet
empty = []

-- fn contains, by what the search finds; `self.0[i - 1]` is indexed
unfoldable pub contains_at : NumSet → ℕ → Found → Ran Bool
contains_at self t (Ok i) = done true
contains_at self t (Err (suc i)) = do
  before ← index self i
  done (leb t (upper_of before))
contains_at self t (Err zero) = done false

-- fn contains
unfoldable pub contains : NumSet → ℕ → Ran Bool
contains self t = contains_at self t (binary_search_by_key self t lower_of)

-- fn contains_unbounded_interval
unfoldable pub contains_unbounded_interval : NumSet → ℕ → Bool
contains_unbounded_interval self lower = is_some_and (last self) (λ p. leb (lower_of p) lower && eqb (upper_of p) MAX)
