use mathlib.Core.Path.{ap, ◌∙◌}
use lib.Dec.{leb}
use native.Mathlib.Omega.{arith}
use Rattle.numset.proofs.Looking.{looking_older, looking_decides, looking_none}
use Rattle.numset.proofs.contains.Goals as goal

pub returns-then-lower_at-t : goal.returns-then-lower_at-t
returns-then-lower_at-t c = ap (leb _) c.upper_at.ensures ∙ looking_decides c.loop-run.invariant (omega arith) (omega arith)

pub loop-run-preserved : goal.loop-run-preserved
loop-run-preserved c = looking_older c.loop-run.invariant (omega arith) (omega arith)

pub returns : goal.returns
returns c = looking_none c.loop-run.invariant (omega arith)
