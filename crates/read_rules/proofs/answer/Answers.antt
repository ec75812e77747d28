use Rattle.read_rules.proofs.Saying.{answers_long, answers_within}
use Rattle.std.proofs.Common.{arith}
use Rattle.read_rules.proofs.answer.Goals as goal

pub returns-then-input-gt-LONGEST_INPUT : goal.returns-then-input-gt-LONGEST_INPUT
returns-then-input-gt-LONGEST_INPUT c = answers_long _ c.if-input-gt-LONGEST_INPUT.true c.finished.ensures (rw c.number.ensures at c.put_line-end.ensures)

pub returns : goal.returns
returns c = answers_within _ (omega (arith, c.if-input-gt-LONGEST_INPUT.false)) c.finished-2.ensures c.put_answer-end.ensures
