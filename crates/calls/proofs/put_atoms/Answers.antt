use native.Mathlib.Omega.{arith}
use Rattle.calls.proofs.Heads.{atoms_start, atoms_more}
use lib.ListN.{length}
use mathlib.Core.Path.{◌≡◌}
use Rattle.calls.proofs.put_atoms.Goals as goal

pub loop-i-init : goal.loop-i-init
loop-i-init c = atoms_start c.args.monitor.now c.args.atoms.now c.requires.0

pub loop-i-preserved : goal.loop-i-preserved
loop-i-preserved c = let h = c.loop-i-test.true in let few = c.requires.1 in atoms_more c.loop-i.invariant (omega arith) c.from.ensures

pub returns : goal.returns
returns c =
    let l = c.loop-i in
    let e : l.i ≡ length c.args.atoms.now = let t = c.loop-i-test.false in let b = l.auto.i-end in omega arith in
    rw e at l.invariant
