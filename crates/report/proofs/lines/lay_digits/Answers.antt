-- `report::lines::lay_digits` meets its contract. Assumes nothing.
use Rattle.report.proofs.Lasting.{laid_from}
use Rattle.report.proofs.lines.lay_digits.Goals as goal

pub returns-then-first-eq-FOUR : goal.returns-then-first-eq-FOUR
returns-then-first-eq-FOUR c = laid_from _ c.if-first-eq-FOUR.true c.lay_last.ensures

pub returns-then-first-eq-THREE : goal.returns-then-first-eq-THREE
returns-then-first-eq-THREE c = laid_from _ c.if-first-eq-THREE.true c.lay_last-then-first-eq-THREE.ensures
