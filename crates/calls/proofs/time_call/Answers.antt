-- `calls::time_call` meets its contract: refused for itself, quiet, or played. Assumes nothing.
use mathlib.Core.Path.{refl, sym, ap}
use mathlib.Core.Bool.{true≢false}
use lib.Dec.{eqb}
use Rattle.std.proofs.lemmas.Result.{err_from_is_err_and}
use Rattle.numbers.proofs.Refused.{never_0}
use Rattle.calls.proofs.Public.{time_wrong, in_range_lem, time_full, time_due, time_done}
use Rattle.calls.proofs.Quiet.{time_quiet}
use Rattle.calls.proofs.time_call.Goals as goal

pub returns-in_err-judge_time : goal.returns-in_err-judge_time
returns-in_err-judge_time c = let p = err_from_is_err_and c.from_residual.result c.from_residual.ensures.1 in rw (p.1, p.2) (time_wrong c.requires c.args.time c.in_err-judge_time.ensures (never_0 _))

pub returns-then-quiet_at : goal.returns-then-quiet_at
returns-then-quiet_at c = rw c.tick.ensures (time_quiet c.requires c.args.time (sym c.in_ok-judge_time.ensures) (c.quiet_at.ensures c.if-quiet_at.true))

pub advance-requires : goal.advance-requires
advance-requires c = record { kept = (c.requires, in_range_lem c.requires c.args.time c.in_ok-judge_time.ensures refl); monitor_in_bounds = λ e. absurd (true≢false (sym e)) }

pub returns-in_err-advance : goal.returns-in_err-advance
returns-in_err-advance c = let p = err_from_is_err_and c.from_residual-in_err-advance.result c.from_residual-in_err-advance.ensures.1 in rw (p.1, p.2) (time_full c.requires c.args.time c.in_ok-judge_time.ensures refl c.in_err-advance.ensures.0 (never_0 _))

pub renew-requires : goal.renew-requires
renew-requires c = time_due c.requires c.args.time c.in_ok-judge_time.ensures refl c.in_ok-advance.ensures.0 refl (ap (λ x. eqb x 0) c.begun-first.ensures)

pub returns : goal.returns
returns c = time_done c.requires c.args.time c.in_ok-judge_time.ensures refl c.in_ok-advance.ensures.0 refl c.renew.ensures
