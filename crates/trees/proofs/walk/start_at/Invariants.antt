use mathlib.Core.Path.{◌≡◌}
use Rattle.book.specs.Judging.{start_in}
use Rattle.trees.proofs.walk.start_at.Given as goal

abbrev pub invariant-loop-i : goal.invariant-loop-i
invariant-loop-i l = l.start ≡ start_in l.rows l.i
