-- `report::text_calls::state_call` meets its contract. Assumes nothing.
use native.Mathlib.Omega.{arith}
use Rattle.std.proofs.lemmas.Result.{err_from_is_err_and}
use Rattle.report.specs.Private.{Turned, with_stamp}
use Rattle.report.proofs.Turns.{no_state, state_there, stated, with_bytewise}
use Rattle.report.proofs.text_calls.state_call.Goals as goal

pub returns-in_err-state : goal.returns-in_err-state
unfolding Turned
returns-in_err-state c =
    let p = err_from_is_err_and c.from_residual.result c.from_residual.ensures.1 in
    rw (p.1, p.2) (no_state _ _ (with_stamp c.args.stamp) _ _ c.in_err-state.ensures)

pub shared_ref_as_front-made : goal.shared_ref_as_front-made
shared_ref_as_front-made c = omega (arith, (state_there _ _ _ c.in_ok-state.ensures).place)

pub returns : goal.returns
unfolding Turned
returns c = stated _ _ (with_stamp c.args.stamp) (with_bytewise _) (state_there _ _ _ c.in_ok-state.ensures) c.made-outcome.ensures
