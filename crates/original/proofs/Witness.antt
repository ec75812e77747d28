-- What is asked of a book can be met: a book with bounded and unbounded ranges, of which every row is in use. Assumes nothing.
use Prim.Native.Nat.{ℕ, zero, suc, ◌<◌}
use native.Mathlib.Omega.{arith}
use mathlib.Core.Path.{refl}
use mathlib.Core.Logic.{inl, inr}
use mathlib.Core.List.{[], ◌∷◌}
use Rattle.numbers.specs.Limits.{MAX}
use Rattle.pmtl.specs.Book.{Book, row_at, Below}
use Rattle.pmtl.specs.Book.Row.{atom, historically, since}
use Rattle.original.specs.TimeRange.{◌to◌}
use Rattle.original.specs.Proper.{RowFit, UsedIn, Proper}
use Rattle.original.specs.Proper.UsedIn.{assume, guarantee, operand}

-- Since(a0, a1)[0,MAX] is assumed, Historically[2,3] a2 is guaranteed
abbrev pub desk : Book
desk = record {
  rows = atom 0 ∷ atom 1 ∷ since (0 to MAX) 0 1 ∷ atom 2 ∷ historically (2 to 3) 3 ∷ [];
  assumes = 2 ∷ [];
  guarantees = 4 ∷ [];
}

below : (r : ℕ) → Below r (row_at desk.rows r)
below zero = tt
below (suc zero) = tt
below (suc (suc zero)) = (omega arith, omega arith)
below (suc (suc (suc zero))) = tt
below (suc (suc (suc (suc zero)))) = omega arith
below (suc (suc (suc (suc (suc r))))) = tt

fit : (r : ℕ) → RowFit (row_at desk.rows r)
fit zero = tt
fit (suc zero) = tt
fit (suc (suc zero)) = record { ordered = omega arith; low = omega arith; high = inr refl }
fit (suc (suc (suc zero))) = tt
fit (suc (suc (suc (suc zero)))) = record { ordered = omega arith; low = omega arith; high = inl (omega arith) }
fit (suc (suc (suc (suc (suc r))))) = tt

used : (r : ℕ) → r < 5 → UsedIn desk r
used zero h = operand 2 (omega arith) (0, omega arith, refl)
used (suc zero) h = operand 2 (omega arith) (1, omega arith, refl)
used (suc (suc zero)) h = assume (0, omega arith, refl)
used (suc (suc (suc zero))) h = operand 4 (omega arith) (0, omega arith, refl)
used (suc (suc (suc (suc zero)))) h = guarantee (0, omega arith, refl)
used (suc (suc (suc (suc (suc r))))) h = absurd (omega arith)

pub desk_proper : Proper desk
desk_proper = record {
  ordered = below;
  ranges = fit;
  assumes_there = (omega arith, tt);
  guarantees_there = (omega arith, tt);
  used = used;
}
