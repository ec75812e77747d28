-- `book::strict::needed` meets its contract. Assumes nothing.
use Prim.Native.Nat.{◌+◌, ◌-◌}
use native.Mathlib.Nat.{div-le_self}
use native.Mathlib.Omega.{arith}
use Rattle.book.proofs.Accepted.{range_ordered, upper_small}
use Rattle.book.proofs.Excess.{needed_endless, needed_finite}
use Rattle.book.proofs.strict.needed.Goals as goal

pub returns-then-upper-eq-MAX : goal.returns-then-upper-eq-MAX
returns-then-upper-eq-MAX c = needed_endless _ _ c.if-upper-eq-MAX.true

pub overflow_sub-result : goal.overflow_sub-result
overflow_sub-result c = omega (arith, range_ordered _ _ c.requires)

pub overflow_add-result : goal.overflow_add-result
overflow_add-result c = record { fits = omega (arith, upper_small _ _ c.requires c.if-upper-eq-MAX.false) }

pub overflow_add-result-2 : goal.overflow_add-result-2
overflow_add-result-2 c = record { fits = omega (arith, div-le_self c.args.upper (c.args.upper - c.args.lower + 2), upper_small _ _ c.requires c.if-upper-eq-MAX.false) }

pub returns : goal.returns
returns c = needed_finite _ _ c.if-upper-eq-MAX.false
