use Rattle.text_reader.proofs.Left.{bad_told, left_word, left_bad, left_none}
use Rattle.std.proofs.Common.{sym}
use Rattle.text_reader.proofs.left_over.Goals as goal

pub returns-in-Ok : goal.returns-in-Ok
returns-in-Ok c = left_word _ _ (sym c.in-Ok.ensures)

pub returns-in-Err : goal.returns-in-Err
returns-in-Err c = left_bad _ _ (sym c.in-Err.ensures) (bad_told _ c.eq.ensures c.if-eq.true)

pub returns-in-Err-2 : goal.returns-in-Err-2
returns-in-Err-2 c = left_none _ _ (sym c.in-Err.ensures) (bad_told _ c.eq.ensures c.if-eq.false)
