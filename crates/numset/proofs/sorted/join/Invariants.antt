-- The invariant is `Joining`: the runs from `run` to `end` are joined, which makes the span.
use mathlib.Core.Path.{◌≡◌}
use Rattle.numset.proofs.Walk.{Joining}
use Rattle.numset.proofs.sorted.join.Given as goal

abbrev pub invariant-loop-run : goal.invariant-loop-run
invariant-loop-run g l =
    (l.span.start ≡ l.run) × (l.span.end ≡ l.end) × Joining (g.S.SortedRuns.words l.set) l.lower l.upper l.run l.end l.span.lower l.span.upper
