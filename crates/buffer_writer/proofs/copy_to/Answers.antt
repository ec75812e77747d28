use mathlib.Core.Path.{refl}
use native.Mathlib.Omega.{arith}
use lib.ListN.{length, drop_of_length-le}
use Prim.Native.Nat.{◌≤◌}
use Rattle.buffer_writer.proofs.Writes.{store_start, store_more, store_done, drop_more}
use Rattle.buffer_writer.proofs.copy_to.Goals as goal

pub loop-i-init : goal.loop-i-init
loop-i-init c = store_start _ _ _

pub loop-i-preserved : goal.loop-i-preserved
loop-i-preserved c = store_more _ _ _ c.loop-i.invariant (drop_more c.args.bytes.now c.loop-i.i (omega arith)) refl

pub returns : goal.returns
returns c = store_done c.loop-i.invariant (let past : length c.args.bytes.now ≤ c.loop-i.i = omega arith in drop_of_length-le _ past)
