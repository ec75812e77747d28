use Rattle.tidier.proofs.Adding.{not_none}
use Rattle.tidier.proofs.lay.lay_not_if.Goals as goal

-- src/lay.rt:130:9
pub returns-then-over : goal.returns-then-over
returns-then-over c = rw c.if-over.true c.lay_not.ensures

-- src/lay.rt:119:1
pub returns : goal.returns
returns c = rw c.if-over.false (not_none c.requires)
