use Rattle.std.proofs.Common.{refl, ap, ◌≡◌}
use Rattle.std.proofs.lemmas.Result.{err_from_is_err_and}
use Rattle.numbers.specs.Refusals.{refused_with}
use Rattle.numbers.proofs.Refused.{never_0}
use Rattle.desk.proofs.Standing.{pulse_refused, pulse_taken}
use Rattle.desk.proofs.on_and_off.Goals as goal

pub returns-in_err-update_stamped : goal.returns-in_err-update_stamped
returns-in_err-update_stamped c =
    let s = c.args in
    let p = err_from_is_err_and c.from_residual.result c.from_residual.ensures.1 in
    let w : refused_with c.from_residual.result ≡ refused_with c.update_stamped.result.outcome = rw (p.1, p.2, c.in_err-update_stamped.was) in
    rw w (pulse_refused s.monitor.now s.time s.width s.place c.requires.ready c.requires.place_lt_width _ _ _ refl c.update_stamped.ensures.0 (λ z. never_0 _ (rw c.in_err-update_stamped.was at z)))

pub returns : goal.returns
returns c =
    let s = c.args in
    pulse_taken s.monitor.now s.time s.width s.place c.requires.ready c.requires.place_lt_width _ _ _ _ _ _ refl c.update_stamped.ensures.0 (ap refused_with c.in_ok-update_stamped.was) refl c.update_state.ensures.0
