use Rattle.kit_desk.proofs.Keeps.{one_more, no_more}
use Rattle.kit_desk.proofs.keep.Goals as goal

pub returns-then-held-line : goal.returns-then-held-line
returns-then-held-line c = one_more _ _ _ c.if-held-line.true

pub returns-else-held-line : goal.returns-else-held-line
returns-else-held-line c = no_more _ _ _ c.requires c.if-held-line.false
