-- `planning::plan_call` meets its contract. The invariant: the rows passed have their new values, and their sets modes and room; and in a step with fresh
-- atoms those that are not below `changed` have the values that stood in the table. Assumes nothing.
use Prim.Native.Nat.{◌≤◌}
use mathlib.Core.Path.{◌≡◌}
use mathlib.Core.Bool.{true}
use Rattle.planning.specs.Plan.{atoms_for, unmade_in}
use Rattle.planning.proofs.Plans.{Going}
use Rattle.planning.proofs.Spared.{Spared, new_of}
use Rattle.planning.proofs.plan_call.Given as goal

abbrev pub invariant-loop-row : goal.invariant-loop-row
invariant-loop-row l =
    Going l.initial.monitor l.spans l.initial.modes l.clock (atoms_for l.initial.monitor l.fresh l.atoms) l.monitor l.modes l.row × (l.all ≡ unmade_in l.initial.monitor) × (l.all ≤ l.changed) × (l.fresh ≡ true → Spared l.initial.monitor (new_of l.initial.monitor l.clock l.initial.modes l.atoms) l.changed l.row)
