use Rattle.rule_scanner.proofs.Passing.{Reader}
use Prim.Native.Nat.{◌-◌}
use lib.ListN.{length}
use Rattle.rule_scanner.proofs.scan.scan_text.Given as goal

abbrev pub invariant-loop-p : goal.invariant-loop-p
invariant-loop-p l = Reader l.input l.at l.p l.initial.forms l.forms

abbrev pub decreases-loop-p : goal.decreases-loop-p
decreases-loop-p l = length l.input - l.at
