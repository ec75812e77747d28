-- `calls::stands_with` meets its contract. The invariant: the bytes passed are the atoms that stand there. Assumes nothing.
use mathlib.Core.Path.{◌≡◌}
use Prim.Native.Nat.{ℕ, ◌<◌, ◌+◌}
use lib.ListN.{get_or}
use Rattle.memory.specs.Layout.{ATOMS}
use Rattle.calls.proofs.stands_with.Given as goal

abbrev pub invariant-loop-i : goal.invariant-loop-i
invariant-loop-i l = (k : ℕ) → k < l.i → get_or l.monitor (ATOMS + k) 0 ≡ get_or l.state k 0
