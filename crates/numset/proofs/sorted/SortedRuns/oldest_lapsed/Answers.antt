-- `numset::sorted::SortedRuns::oldest_lapsed` meets its contract. Assumes nothing.
use native.Mathlib.Omega.{arith}
use Rattle.numset.proofs.Kept.{oldest_missing, oldest_is}
use Rattle.numset.proofs.sorted.SortedRuns.oldest_lapsed.Goals as goal

pub returns-then-count-eq0 : goal.returns-then-count-eq0
returns-then-count-eq0 g c = oldest_missing (g.Self.SortedRuns.words c.args.self.now) c.args.t (omega arith)

pub returns : goal.returns
returns g c = rw c.oldest_upper.ensures (oldest_is (g.Self.SortedRuns.words c.args.self.now) c.args.t (omega arith))
