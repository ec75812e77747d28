-- `tables::joined_at` meets its contract. The invariant: the operands that are left say what all say. Assumes nothing.
use Prim.Native.Nat.{◌+◌, ◌-◌}
use mathlib.Core.List.{map}
use Rattle.memory.specs.Memory.{operands_from}
use Rattle.row_answers.specs.Private.{joined}
use Rattle.row_answers.proofs.Answers.{Walking}
use Rattle.tables.specs.Puts.{bit_in}
use Rattle.tables.proofs.joined_at.Given as goal

abbrev pub invariant-loop-i : goal.invariant-loop-i
invariant-loop-i l = Walking l.monitor (bit_in l.monitor l.table) (joined l.stop) (joined l.stop (map (bit_in l.monitor l.table) (operands_from l.monitor l.place l.left))) (l.place + l.i) (l.left - l.i)
