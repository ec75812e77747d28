-- `ring::unroll` meets its contract. Assumes nothing.
use Prim.Native.Nat.{◌+◌, ◌*◌, ◌%◌}
use mathlib.Core.Path.{◌≡◌}
use lib.ListN.{length, get_or}
use Rattle.ring.specs.Ring.{turn_of}
use Rattle.lists.specs.Lists.{filled_from}
use Rattle.ring.proofs.unroll.Given as goal

abbrev pub invariant-loop-i : goal.invariant-loop-i
invariant-loop-i l = (length l.initial.flat ≡ 129) × (l.flat ≡ filled_from 1 (λ k. get_or l.set (2 + (2 * turn_of l.set + k) % 128) 0) l.initial.flat l.i)
