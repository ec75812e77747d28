use native.Mathlib.Omega.{arith}
use Rattle.tidier.proofs.Adding.{adds_full, adds_absurd, adds_row}
use Rattle.tidier.proofs.lay.lay_row.Goals as goal

-- src/lay.rt:81:9
pub returns-then-row-ge-MOST_ROWS : goal.returns-then-row-ge-MOST_ROWS
returns-then-row-ge-MOST_ROWS c = adds_full c.full.ensures c.if-row-ge-MOST_ROWS.true

-- src/lay.rt:84:9
pub returns-then-height-base : goal.returns-then-height-base
returns-then-height-base c = adds_absurd c.full-then-height-base.ensures c.if-height-base.true

-- src/lay.rt:67:1
pub returns : goal.returns
returns c = adds_row _ _ _ c.requires (omega (arith, c.if-row-ge-MOST_ROWS.false)) (omega (arith, c.if-height-base.false)) c.emit.ensures
