-- `tables::fill_lowest` meets its contract. The invariant: of the rows passed the lowest row below is written. Assumes nothing.
use mathlib.Core.Path.{◌≡◌}
use Rattle.lists.specs.Lists.{filled_from}
use Rattle.pmtl.specs.Book.{lowest}
use Rattle.memory.specs.Layout.{LOWEST}
use Rattle.memory.specs.Memory.{rows_of}
use Rattle.tables.proofs.fill_lowest.Given as goal

abbrev pub invariant-loop-row : goal.invariant-loop-row
invariant-loop-row l = l.monitor ≡ filled_from LOWEST (lowest (rows_of l.initial.monitor)) l.initial.monitor l.row
