-- So many records are stored, and the others are as they were.
use mathlib.Core.Path.{◌≡◌}
use Rattle.lists.specs.Lists.{filled_to}
use Rattle.property_answers.proofs.record.list_into.Given as goal

abbrev pub invariant-loop-i : goal.invariant-loop-i
invariant-loop-i g l = l.out ≡ filled_to (g.T.Told.told l.monitor) l.initial.out l.i
