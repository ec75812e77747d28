-- `tables::fill_values` meets its contract. The invariant: the values of the rows passed are written. Assumes nothing.
use mathlib.Core.Path.{◌≡◌}
use Rattle.lists.specs.Lists.{filled_from}
use Rattle.pmtl.specs.Answer.{bit_of}
use Rattle.memory.specs.Layout.{VALUES}
use Rattle.memory.specs.Tables.{value_of}
use Rattle.tables.proofs.fill_values.Given as goal

abbrev pub invariant-loop-row : goal.invariant-loop-row
invariant-loop-row l = l.monitor ≡ filled_from VALUES (λ r. bit_of (value_of l.initial.monitor r)) l.initial.monitor l.row
