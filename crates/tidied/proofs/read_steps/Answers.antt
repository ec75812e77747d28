use Rattle.std.proofs.Common.{sym, ◌∙◌, arith}
use Rattle.std.proofs.lemmas.Result.{err_from_is_err_and}
use Rattle.tidied.proofs.Reading.{steps_none, steps_read, steps_over}
use Rattle.tidied.proofs.read_steps.Goals as goal

pub returns-in_err-count : goal.returns-in_err-count
returns-in_err-count c =
    let p = err_from_is_err_and c.from_residual.result c.from_residual.ensures.1 in
    rw (p.1, p.2) (steps_none _ _ _ (sym c.in_err-count.ensures))

pub returns-then-count-gt-STEPS : goal.returns-then-count-gt-STEPS
returns-then-count-gt-STEPS c = steps_over _ _ (sym c.in_ok-count.ensures) _ _ _ c.requires.0 (omega (arith, c.if-count-gt-STEPS.true)) c.words_into.ensures

pub returns : goal.returns
returns c = steps_read _ _ (sym c.in_ok-count.ensures) _ _ _ (omega (arith, c.requires.1, c.if-count-gt-STEPS.false, c.words_into-2.auto.words)) c.words_into-2.ensures
