-- Each input lies within those that are read.
use Rattle.std.proofs.Common.{◌≤◌, ◌-◌, length}
use Rattle.replay.proofs.show_all.Given as goal

abbrev pub invariant-loop-at : goal.invariant-loop-at
invariant-loop-at g l = l.at ≤ length l.inputs

abbrev pub decreases-loop-at : goal.decreases-loop-at
decreases-loop-at g l = length l.inputs - l.at
