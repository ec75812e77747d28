-- What is kept of the line lies within the room for it.
use Rattle.std.proofs.Common.{◌≤◌, length}
use Rattle.kit_desk.proofs.read_line.Given as goal

abbrev pub invariant-loop : goal.invariant-loop
invariant-loop g l = l.held ≤ length l.line
