-- Each step leaves a ring again.
use Rattle.ring.specs.Ring.{Rolling}
use Rattle.ring_try.proofs.go_on.Given as goal

abbrev pub invariant-loop-i : goal.invariant-loop-i
invariant-loop-i g l = Rolling l.set
