-- `row_answers::settled`, `row_answers::settled_since` and `row_answers::settled_walk` meet their contracts: row number and list place fall. Assumes nothing.
use mathlib.Core.List.{map}
use Rattle.memory.specs.Memory.{operands_from}
use Rattle.row_answers.specs.Told.{settled_told}
use Rattle.row_answers.specs.Private.{settled_so_far}
use Rattle.row_answers.proofs.Answers.{above, Walking}
use Prim.Native.Nat.{◌+◌, ◌-◌, ◌*◌, ◌^◌}
use Rattle.row_answers.proofs.+settled_settled_since_settled_walk.Given as goal

abbrev pub decreases-settled : goal.decreases-settled
decreases-settled l = (l.row + 1) * 2 ^ 64

abbrev pub decreases-settled_since : goal.decreases-settled_since
decreases-settled_since l = l.row * 2 ^ 64 + 1

abbrev pub decreases-settled_walk : goal.decreases-settled_walk
decreases-settled_walk l = above l.monitor.now l.place l.left * 2 ^ 64 + l.left

abbrev pub invariant-settled_walk-loop-at : goal.invariant-settled_walk-loop-at
invariant-settled_walk-loop-at l =
    Walking l.monitor (settled_told l.monitor) (settled_so_far l.any l.sofar) (settled_so_far l.any l.initial.sofar (map (settled_told l.monitor) (operands_from l.monitor l.place l.left))) l.at (l.place + l.left - l.at)
