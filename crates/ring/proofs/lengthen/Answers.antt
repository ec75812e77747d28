-- `ring::lengthen` meets its contract. Assumes nothing.
use Prim.Native.Nat.{ℕ, ◌-◌, max}
use mathlib.Core.Path.{◌∙◌, ap, ap₂}
use native.Mathlib.Omega.{arith}
use lib.ListN.{get_or}
use Rattle.ring.proofs.Adds.{some_run, longer}
use Rattle.ring.proofs.Rolls.{few}
use Rattle.ring.specs.Ring.{unrolled}
use Rattle.numset.specs.Private.{with_run}
use Rattle.ring.proofs.lengthen.Goals as goal

pub newest_lower-low-requires : goal.newest_lower-low-requires
newest_lower-low-requires c = (c.requires.0, some_run c.args.set.now c.args.lower c.args.upper c.requires.0 c.requires.1 c.requires.2)

pub newest_upper-high-requires : goal.newest_upper-high-requires
newest_upper-high-requires c = (c.requires.0, some_run c.args.set.now c.args.lower c.args.upper c.requires.0 c.requires.1 c.requires.2)

pub overflow_sub-n : goal.overflow_sub-n
overflow_sub-n c = let h = some_run c.args.set.now c.args.lower c.args.upper c.requires.0 c.requires.1 c.requires.2 in omega arith

pub store-requires : goal.store-requires
store-requires c = let h = few c.args.set.now c.requires.0 in let n = some_run c.args.set.now c.args.lower c.args.upper c.requires.0 c.requires.1 c.requires.2 in (c.requires.0, omega arith)

pub returns : goal.returns
returns c = let m = c.args.set.now in let n = get_or m 0 0 in let t = c.store in longer m c.args.lower c.args.upper c.requires.0 c.requires.1 c.requires.2 _ (t.auto.set ∙ c.requires.0.long) t.ensures.1 (omega arith) (t.ensures.0 ∙ ap₂ (λ (x y : ℕ). with_run (unrolled m) (n - 1) x y n) c.newest_lower-low.ensures (c.max.ensures ∙ ap (max c.args.upper) c.newest_upper-high.ensures))
