use native.Mathlib.Omega.{arith}
use Rattle.numset.proofs.Kept.{lapsing_stop}
use Rattle.numset.proofs.lapsed.Goals as goal

pub returns-then-t-upper_at : goal.returns-then-t-upper_at
returns-then-t-upper_at c = lapsing_stop c.loop-run.invariant c.requires (omega arith)
