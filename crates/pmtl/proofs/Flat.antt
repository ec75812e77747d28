-- What a flat book is, row by row, and by examples. Assumes nothing.
use Prim.Native.Nat.{ℕ, zero, suc, ◌<◌}
use native.Mathlib.Omega.{arith}
use mathlib.Core.Path.{◌≡◌, refl}
use mathlib.Core.Bool.{Bool, true, false}
use mathlib.Core.List.{[], ◌∷◌, map}
use lib.ListN.{length}
use Rattle.lists.proofs.Tests.{clash, fails_by, and_left, and_right, and_intro}
use Rattle.pmtl.specs.Book.{Range, Row, map_row, Rows, row_at, table, answer, every, some, move_rule, moves}
use Rattle.pmtl.specs.Book.Row.{never, atom, conj, historically, once, since}
use Rattle.pmtl.specs.Flat.{flat_rule, flat}

-- what is so of every row, and of one that is not there
every_row : (p : Row ℕ → Bool) → p never ≡ true → (b : Rows) → every p b ≡ true → (r : ℕ) → p (row_at b r) ≡ true
unfolding every
every_row p n [] h r = n
every_row p n (row ∷ b) h zero = and_left _ _ h
every_row p n (row ∷ b) h (suc r) = every_row p n b (and_right (p row) _ h) r

pub row_flat : (b : Rows) → flat b ≡ true → (r : ℕ) → flat_rule (map_row (moves b) (row_at b r)) ≡ true
unfolding flat flat_rule
row_flat b h = every_row (λ (row : Row ℕ). flat_rule (map_row (moves b) row)) refl b h

-- from each row, and from one that is not flat
every_of : (p : Row ℕ → Bool) (b : Rows) → ((r : ℕ) → r < length b → p (row_at b r) ≡ true) → every p b ≡ true
unfolding every
every_of p [] h = refl
every_of p (row ∷ b) h = and_intro (p row) (every p b) (h 0 (omega arith)) (every_of p b (λ r l. h (suc r) (omega arith)))

pub flat_by_rows : (b : Rows) → ((r : ℕ) → r < length b → flat_rule (map_row (moves b) (row_at b r)) ≡ true) → flat b ≡ true
unfolding flat
flat_by_rows b = every_of (λ (row : Row ℕ). flat_rule (map_row (moves b) row)) b

pub nested_by : (b : Rows) (r : ℕ) → flat_rule (map_row (moves b) (row_at b r)) ≡ false → flat b ≡ false
nested_by b r h = fails_by (flat b) (λ f. clash (row_flat b f r) h)

-- a book of no rows is flat
pub none_flat : flat [] ≡ true
unfolding flat every
none_flat = refl

-- P7, Once[1,1] a; Since(a,b)[0,5]; Once[0,1] a and Historically[0,1] b; P12, Once Historically a; Once And(a, Once b)
abbrev range : ℕ → ℕ → Range
range l u = record { lower = l; upper = u }

abbrev P7 : Rows
P7 = atom 0 ∷ once (range 1 1) 0 ∷ []

abbrev since_ab : Rows
since_ab = atom 0 ∷ atom 1 ∷ since (range 0 5) 0 1 ∷ []

abbrev side_by_side : Rows
side_by_side = atom 0 ∷ once (range 0 1) 0 ∷ atom 1 ∷ historically (range 0 1) 2 ∷ conj (1 ∷ 3 ∷ []) ∷ []

abbrev P12 : Rows
P12 = atom 0 ∷ historically (range 0 1) 0 ∷ once (range 0 1) 1 ∷ []

abbrev below_and : Rows
below_and = atom 0 ∷ atom 1 ∷ once (range 0 1) 1 ∷ conj (0 ∷ 2 ∷ []) ∷ once (range 0 1) 3 ∷ []

pub flat_so : map flat (P7 ∷ since_ab ∷ side_by_side ∷ P12 ∷ below_and ∷ []) ≡ true ∷ true ∷ true ∷ false ∷ false ∷ []
unfolding flat flat_rule answer table every some move_rule
flat_so = refl
