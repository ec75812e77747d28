use Prim.Native.Nat.{ℕ}
use mathlib.Core.Path.{refl}
use native.Mathlib.Omega.{arith}
use lib.ListN.{length-replicate}
use Rattle.ring.proofs.Adds.{unroll_done}
use Rattle.lists.proofs.Filled.{filled_from_more}
use Rattle.ring.proofs.unroll.Goals as goal

pub loop-i-init : goal.loop-i-init
loop-i-init c = (length-replicate {A = ℕ} 129 0, refl)

pub loop-i-preserved : goal.loop-i-preserved
loop-i-preserved c = let l = c.loop-i.invariant in (l.0, filled_from_more 1 _ _ l.1 refl)

pub returns : goal.returns
returns c = let l = c.loop-i in unroll_done _ _ _ l.i l.invariant.0 (omega arith) l.invariant.1
