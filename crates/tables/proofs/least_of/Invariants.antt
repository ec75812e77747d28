-- `tables::least_of` meets its contract. The invariant: with the operands that are left it is the least of all. Assumes nothing.
use Prim.Native.Nat.{◌+◌, ◌-◌}
use mathlib.Core.List.{map}
use Rattle.pmtl.specs.Book.{least_of}
use Rattle.memory.specs.Layout.{LOWEST}
use Rattle.memory.specs.Memory.{operands_from}
use Rattle.row_answers.proofs.Answers.{Walking}
use Rattle.tables.specs.Puts.{word_in}
use Rattle.tables.proofs.least_of.Given as goal

abbrev pub invariant-loop-at : goal.invariant-loop-at
invariant-loop-at l = Walking l.monitor (word_in l.monitor LOWEST) (least_of l.least) (least_of l.from (map (word_in l.monitor LOWEST) (operands_from l.monitor l.place l.left))) l.at (l.place + l.left - l.at)
