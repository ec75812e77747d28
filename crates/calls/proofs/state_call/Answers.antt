-- `calls::state_call` meets its contract: refused for itself, or carried out. Assumes nothing.
use mathlib.Core.Path.{sym}
use Rattle.std.proofs.lemmas.Result.{err_from_is_err_and}
use Rattle.numbers.proofs.Refused.{never_0}
use Rattle.calls.proofs.Public.{state_wrong}
use Rattle.calls.proofs.state_call.Goals as goal

pub judge_state-requires : goal.judge_state-requires
judge_state-requires c = c.requires.sound.book

pub returns-in_err-judge_state : goal.returns-in_err-judge_state
returns-in_err-judge_state c = let p = err_from_is_err_and c.from_residual.result c.from_residual.ensures.1 in rw (p.1, p.2) (state_wrong c.requires c.args.state.now c.in_err-judge_state.ensures (never_0 _))

pub restate-requires : goal.restate-requires
restate-requires c = (c.requires, sym c.in_ok-judge_state.ensures)
