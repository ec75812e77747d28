-- `ring::store` meets its contract. Assumes nothing.
use native.Mathlib.Omega.{arith}
use lib.ListN.{length-set}
use Rattle.ring.proofs.Adds.{stored, stored_turn}
use Rattle.ring.proofs.store.Goals as goal

pub bounds-set-at-2 : goal.bounds-set-at-2
bounds-set-at-2 c = let e = c.place-at.ensures in let l = c.requires.0.long in simp length-set (omega arith)

pub bounds-set-0 : goal.bounds-set-0
bounds-set-0 c = let l = c.requires.0.long in simp length-set (omega arith)

pub returns : goal.returns
returns c = let m = c.args.set.now in (stored m c.requires.0.long c.args.j c.args.lower c.args.upper c.args.n _ c.requires.1 c.place-at.ensures, stored_turn m c.requires.0.long c.args.j c.args.lower c.args.upper c.args.n _ c.requires.1 c.place-at.ensures)
