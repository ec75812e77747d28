use Rattle.std.proofs.Common.{refl}
use Rattle.std.proofs.lemmas.Result.{err_from_is_err_and}
use Rattle.numbers.proofs.Refused.{never_0}
use Rattle.tidied.proofs.Saying.{took_steps, steps_refused, steps_left, steps_last}
use Rattle.tidied.proofs.last_steps.Goals as goal

pub returns-in_err-read : goal.returns-in_err-read
returns-in_err-read c =
    let p = err_from_is_err_and c.from_residual.result c.from_residual.ensures.1 in
    rw (p.1, p.2) (steps_refused _ _ _ _ c.in_err-read.ensures)

pub returns-in_err-left_over : goal.returns-in_err-left_over
returns-in_err-left_over c =
    let p = err_from_is_err_and c.from_residual-in_err-left_over.result c.from_residual-in_err-left_over.ensures.1 in
    rw (p.1, p.2) (steps_left (took_steps c.in_ok-read.ensures) _ c.in_err-left_over.ensures (never_0 _))

pub returns : goal.returns
returns c = steps_last (took_steps c.in_ok-read.ensures) _ c.in_ok-left_over.ensures refl
