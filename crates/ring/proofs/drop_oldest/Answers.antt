-- `ring::drop_oldest` meets its contract. Assumes nothing.
use Prim.Native.Nat.{ℕ, ◌+◌, ◌*◌, ◌-◌, ◌%◌}
use mathlib.Core.Path.{ap}
use native.Mathlib.Omega.{arith}
use lib.ListN.{set, length-set}
use Rattle.ring.proofs.Drops.{count_there, oldest_gone}
use Rattle.ring.specs.Ring.{turn_of}
use Rattle.ring.proofs.drop_oldest.Goals as goal

pub bounds-set-at-2 : goal.bounds-set-at-2
bounds-set-at-2 c = let l = c.requires.0.long in let t = c.requires.0.turn in simp length-set (omega arith)

pub overflow_sub-set : goal.overflow_sub-set
overflow_sub-set c = let e = count_there c.args.set.now c.requires.0 c.requires.1 in omega (arith, c.requires.1)

pub bounds-set-0-2 : goal.bounds-set-0-2
bounds-set-0-2 c = let l = c.requires.0.long in simp length-set (omega arith)

pub bounds-set-1-2 : goal.bounds-set-1-2
bounds-set-1-2 c = let l = c.requires.0.long in simp length-set (omega arith)

pub returns : goal.returns
returns c = let m = c.args.set.now in oldest_gone m c.requires.0 c.requires.1 (ap (λ (n : ℕ). set (set (set (set m (2 + 2 * turn_of m) 0) (2 + 2 * turn_of m + 1) 0) 0 (n - 1)) 1 ((turn_of m + 1) % 64)) (count_there m c.requires.0 c.requires.1))
