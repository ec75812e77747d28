use Rattle.tidier.proofs.Made.{Owed}
use Rattle.tidier.proofs.tidy.tidy_all.Given as goal

abbrev pub invariant-loop-i : goal.invariant-loop-i
invariant-loop-i l = Owed l.initial.words l.end l.steps l.words l.length l.i
