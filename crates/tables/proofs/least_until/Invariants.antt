-- `tables::least_until` meets its contract. The invariant: the least of the sets that were looked at is known, and later than the clock. Assumes nothing.
use Prim.Native.Nat.{◌≤◌}
use mathlib.Core.Path.{◌≡◌}
use Rattle.tables.proofs.Until.{least_to}
use Rattle.tables.proofs.least_until.Given as goal

abbrev pub invariant-loop-slot : goal.invariant-loop-slot
invariant-loop-slot l = (l.least ≡ least_to l.monitor l.slot) × (l.clock ≤ l.least)
