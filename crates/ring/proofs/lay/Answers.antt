use Prim.Native.Nat.{◌+◌, ◌*◌, ◌%◌}
use mathlib.Core.Path.{refl, ◌∙◌}
use native.Mathlib.Omega.{arith}
use lib.ListN.{length-set}
use Rattle.ring.proofs.Adds.{lay_more, lay_done, turn_stays}
use Rattle.ring.proofs.Rolls.{unrolled_length}
use Rattle.ring.specs.Ring.{turn_of, unrolled}
use Rattle.ring.proofs.lay.Goals as goal

pub loop-i-init : goal.loop-i-init
loop-i-init c = (c.requires.set_len, refl, refl)

pub loop-i-preserved : goal.loop-i-preserved
loop-i-preserved c = let l = c.loop-i in (simp length-set l.invariant.0, turn_stays l.set (2 + (2 * turn_of l.set + l.i) % 128) _ (omega arith) ∙ l.invariant.1, lay_more l.set c.args.flat.now (unrolled c.args.set.now) l.i _ l.invariant.0 (omega arith) l.invariant.2 refl)

pub shape_of-set : goal.shape_of-set
shape_of-set c = let l = c.loop-i.invariant.0 in let s = c.requires.set_len in simp length-set (omega arith)

pub returns : goal.returns
returns c = let l = c.loop-i in (lay_done l.set c.args.flat.now (unrolled c.args.set.now) l.i l.invariant.0 (unrolled_length _) c.requires.set_bound.1 (omega arith) l.invariant.2, turn_stays l.set 0 _ (omega arith) ∙ l.invariant.1)
