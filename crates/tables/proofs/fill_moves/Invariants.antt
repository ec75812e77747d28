-- `tables::fill_moves` meets its contract. The invariant: of the rows passed it is written whether they move. Assumes nothing.
use mathlib.Core.Path.{◌≡◌}
use Rattle.lists.specs.Lists.{filled_from}
use Rattle.memory.specs.Layout.{MOVES}
use Rattle.tables.proofs.Puts.{move_word}
use Rattle.tables.proofs.fill_moves.Given as goal

abbrev pub invariant-loop-row : goal.invariant-loop-row
invariant-loop-row l = l.monitor ≡ filled_from MOVES (move_word l.initial.monitor) l.initial.monitor l.row
