-- `ring::lay` meets its contract. Assumes nothing.
use Prim.Native.Nat.{◌+◌}
use mathlib.Core.Path.{◌≡◌}
use lib.ListN.{length, get_or}
use Rattle.ring.specs.Ring.{turn_of, unrolled}
use Rattle.lists.specs.Lists.{filled_from}
use Rattle.ring.proofs.lay.Given as goal

abbrev pub invariant-loop-i : goal.invariant-loop-i
invariant-loop-i l = (length l.set ≡ 130) × (turn_of l.set ≡ turn_of l.initial.set) × (unrolled l.set ≡ filled_from 1 (λ k. get_or l.flat (1 + k) 0) (unrolled l.initial.set) l.i)
