-- `row_answers::output` and `row_answers::output_walk` meet their contracts: row number and list place fall. Assumes nothing.
use mathlib.Core.List.{map}
use Rattle.memory.specs.Memory.{operands_from}
use Rattle.memory.specs.Tables.{value_of}
use Rattle.row_answers.specs.Private.{joined}
use Rattle.row_answers.proofs.Answers.{above, Walking}
use Prim.Native.Nat.{◌+◌, ◌-◌, ◌*◌, ◌^◌}
use Rattle.row_answers.proofs.+output_output_walk.Given as goal

abbrev pub decreases-output : goal.decreases-output
decreases-output l = (l.row + 1) * 2 ^ 64

abbrev pub decreases-output_walk : goal.decreases-output_walk
decreases-output_walk l = above l.monitor.now l.place l.left * 2 ^ 64 + l.left

abbrev pub invariant-output_walk-loop-at : goal.invariant-output_walk-loop-at
invariant-output_walk-loop-at l =
    Walking l.monitor (value_of l.monitor) (joined l.stop) (joined l.stop (map (value_of l.monitor) (operands_from l.monitor l.place l.left))) l.at (l.place + l.left - l.at)
