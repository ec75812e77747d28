-- The turns are counted down, so reading the rest ends.
use Rattle.console.proofs.drain.Given as goal

abbrev pub decreases-loop-turns : goal.decreases-loop-turns
decreases-loop-turns g l = l.turns
