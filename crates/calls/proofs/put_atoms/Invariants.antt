-- `calls::put_atoms` meets its contract. The invariant: the atoms passed are written. Assumes nothing.
use Rattle.calls.specs.Private.{Atoms}
use Rattle.calls.proofs.put_atoms.Given as goal

abbrev pub invariant-loop-i : goal.invariant-loop-i
invariant-loop-i l = Atoms l.initial.monitor l.atoms l.i l.monitor
