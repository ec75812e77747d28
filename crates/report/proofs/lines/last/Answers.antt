-- `report::lines::last` meets its contract. Assumes nothing.
use mathlib.Core.Path.{sym}
use Rattle.text_reader.proofs.Left.{bad_told}
use Rattle.report.proofs.Lasting.{ending}
use Rattle.report.proofs.Summing.{last_word, last_bad, last_end}
use Rattle.report.proofs.lines.last.Goals as goal

pub returns-in-Ok : goal.returns-in-Ok
returns-in-Ok c = ending _ _ (rw c.number.ensures at c.stopped.ensures) (last_word _ _ _ (sym c.in-Ok.ensures))

pub returns-in-Err : goal.returns-in-Err
returns-in-Err c = ending _ _ (rw c.number-in-Err.ensures at c.stopped-in-Err.ensures) (last_bad _ _ _ (sym c.in-Err.ensures) (bad_told _ c.eq.ensures c.if-eq.true))

pub returns-in-Err-2 : goal.returns-in-Err-2
returns-in-Err-2 c = ending _ _ c.ended.ensures (last_end _ _ _ (sym c.in-Err.ensures) (bad_told _ c.eq.ensures c.if-eq.false))
