-- `report::text_calls::kind_call` meets its contract. Assumes nothing.
use mathlib.Core.Path.{sym}
use Rattle.std.proofs.lemmas.Result.{err_from_is_err_and}
use Rattle.report.specs.Private.{Turned, time_word}
use Rattle.report.proofs.Turns.{no_time, timed, with_none, with_some}
use Rattle.report.proofs.text_calls.kind_call.Goals.{in-State, in-Stamped}
use Rattle.report.proofs.text_calls.kind_call.Goals as goal

pub returns-in_err-time : goal.returns-in_err-time
unfolding Turned
returns-in_err-time c =
    let p = err_from_is_err_and c.from_residual.result c.from_residual.ensures.1 in
    rw (p.1, p.2) (no_time _ _ c.args.kind (sym c.in_err-time.ensures))

pub returns-in-Time : goal.returns-in-Time
unfolding Turned time_word
returns-in-Time c = rw c.in-Time.is (timed _ _ (sym (rw c.in-Time.is at c.in_ok-time.ensures)) c.update_time-outcome.ensures.0)

pub returns : goal.returns
unfolding time_word
returns c = elim c.match-kind.branch [
  | in-State w ↦ rw w.in-State.is (with_none _ _ (sym (rw w.in-State.is at c.in_ok-time.ensures)) _ _ _ (rw w.stamp-is at c.state_call.ensures))
  | in-Stamped w ↦ rw w.in-Stamped.is (with_some _ _ (sym (rw w.in-Stamped.is at c.in_ok-time.ensures)) _ _ _ (rw w.stamp-is at c.state_call.ensures))
]
