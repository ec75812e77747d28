-- `numset::sorted::find_span` meets its contract. Assumes nothing.
use native.Mathlib.Omega.{arith}
use Prim.Native.Nat.{◌+◌, ◌^◌}
use Rattle.numset.proofs.Words.{newest}
use Rattle.numset.proofs.Walk.{span_first, span_after}
use Rattle.numset.proofs.sorted.find_span.Goals as goal

pub returns-then-n-eq0 : goal.returns-then-n-eq0
returns-then-n-eq0 g c = span_first (g.met.S.SortedRuns.good c.args.set.now) c.requires _ c.count-n.ensures (omega arith)

pub returns-then-saturating_sub-gt-ADJACENT : goal.returns-then-saturating_sub-gt-ADJACENT
returns-then-saturating_sub-gt-ADJACENT g c =
    let good = g.met.S.SortedRuns.good c.args.set.now in
    let w = newest (2 ^ 64 + 1) (g.S.SortedRuns.words c.args.set.now) c.count-n.result (omega arith) (rw c.count-n.ensures good.apart) in
    span_after good c.requires _ c.count-n.ensures (omega arith) (omega (arith, w.order, c.saturating_sub.ensures, c.upper_at.ensures)) (omega (arith, c.saturating_sub.ensures, c.upper_at.ensures))
