-- `loader::flat::is_flat` meets its contract. The loop's invariant stands first. Assumes nothing.
use Rattle.loader.proofs.Nested.{FlatTo}
use Rattle.loader.proofs.flat.is_flat.Given as goal

abbrev pub invariant-loop-row : goal.invariant-loop-row
invariant-loop-row l = FlatTo l.monitor l.row
