-- Each call leaves a monitor again.
use Rattle.memory.specs.Kept.{Kept}
use Rattle.cases.proofs.fill.Given as goal

abbrev pub invariant-loop-t : goal.invariant-loop-t
invariant-loop-t g l = Kept l.monitor
