-- None of the first barcodes is given again.
use Rattle.desk.proofs.Kits.{Apart}
use Rattle.desk.proofs.given.repeated.Given as goal

abbrev pub invariant-loop-i : goal.invariant-loop-i
invariant-loop-i l = Apart l.barcodes l.i
