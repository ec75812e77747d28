-- `numset::sorted::SortedRuns::covers` meets its contract. Assumes nothing.
use native.Mathlib.Omega.{arith}
use Rattle.numset.proofs.Last.{none_cover, late_cover, last_cover}
use Rattle.numset.proofs.sorted.SortedRuns.covers.Goals as goal

pub returns-then-n-eq0 : goal.returns-then-n-eq0
returns-then-n-eq0 g c = none_cover (g.met.Self.SortedRuns.good c.args.self.now) (omega arith) (omega arith)

pub returns-then-from-lower_at : goal.returns-then-from-lower_at
returns-then-from-lower_at g c = late_cover (g.met.Self.SortedRuns.good c.args.self.now) (omega arith) c.count-n.result c.count-n.ensures (omega arith) (omega arith)

pub returns : goal.returns
returns g c = last_cover (g.met.Self.SortedRuns.good c.args.self.now) (omega arith) c.count-n.result c.count-n.ensures (omega arith) c.upper_at.ensures (omega arith)
