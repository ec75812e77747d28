use Rattle.tidier.proofs.Adding.{not_full, not_laid}
use Rattle.tidier.proofs.lay.lay_not.Goals as goal

pub returns-then-height-eq0 : goal.returns-then-height-eq0
returns-then-height-eq0 c = not_full c.full.ensures c.if-height-eq0.true

pub returns : goal.returns
returns c = not_laid (rw c.word.ensures at c.lay_row.ensures)
