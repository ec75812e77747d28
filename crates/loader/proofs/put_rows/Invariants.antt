-- `loader::put_rows` meets its contract. The loop's invariant stands first. Assumes nothing.
use Rattle.loader.proofs.Puts.{Put}
use Rattle.memory.specs.Layout.{SIZE}
use lib.ListN.{length}
use mathlib.Core.Path.{◌≡◌}
use Rattle.loader.proofs.put_rows.Given as goal

abbrev pub invariant-loop-row : goal.invariant-loop-row
invariant-loop-row l = (length l.monitor ≡ SIZE) × Put l.given l.initial.monitor l.monitor l.row l.start l.slot l.width
