-- `row_answers::valuation`, `row_answers::valuation_since` and `row_answers::valuation_walk` meet their contracts: row number and list place fall. Assumes nothing.
use mathlib.Core.List.{map}
use Rattle.memory.specs.Memory.{operands_from}
use Rattle.row_answers.specs.Told.{early_told}
use Rattle.row_answers.specs.Private.{early_so_far}
use Rattle.row_answers.proofs.Answers.{above, Walking}
use Prim.Native.Nat.{◌+◌, ◌-◌, ◌*◌, ◌^◌}
use Rattle.row_answers.proofs.+valuation_valuation_since_valuation_walk.Given as goal

abbrev pub decreases-valuation : goal.decreases-valuation
decreases-valuation l = (l.row + 1) * 2 ^ 64

abbrev pub decreases-valuation_since : goal.decreases-valuation_since
decreases-valuation_since l = l.row * 2 ^ 64 + 1

abbrev pub decreases-valuation_walk : goal.decreases-valuation_walk
decreases-valuation_walk l = above l.monitor.now l.place l.left * 2 ^ 64 + l.left

abbrev pub invariant-valuation_walk-loop-at : goal.invariant-valuation_walk-loop-at
invariant-valuation_walk-loop-at l =
    Walking l.monitor (early_told l.monitor) (early_so_far l.any l.sofar) (early_so_far l.any l.initial.sofar (map (early_told l.monitor) (operands_from l.monitor l.place l.left))) l.at (l.place + l.left - l.at)
