-- `numset::sorted::SortedRuns::takes_in` meets its contract. Assumes nothing.
use native.Mathlib.Omega.{arith}
use Rattle.numset.proofs.Newest.{takes_none, takes_later, takes_is}
use Rattle.numset.proofs.sorted.SortedRuns.takes_in.Goals as goal

pub returns-then-n-eq0 : goal.returns-then-n-eq0
returns-then-n-eq0 g c = takes_none (g.Self.SortedRuns.words c.args.self.now) c.args.lower (omega arith)

pub returns-then-lower-lower_at : goal.returns-then-lower-lower_at
returns-then-lower-lower_at g c = takes_later (g.Self.SortedRuns.words c.args.self.now) c.args.lower (omega arith) (rw (← c.count-n.ensures) (omega arith))

pub returns : goal.returns
returns g c = rw (c.saturating_sub.ensures, c.upper_at.ensures, c.count-n.ensures) (takes_is (g.Self.SortedRuns.words c.args.self.now) c.args.lower (omega arith) (rw (← c.count-n.ensures) (omega arith)))
