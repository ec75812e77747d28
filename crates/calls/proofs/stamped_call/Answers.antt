-- `calls::stamped_call` meets its contract: refused for itself, or carried out. Assumes nothing.
use mathlib.Core.Path.{refl, sym}
use Rattle.std.proofs.lemmas.Result.{err_from_is_err_and}
use Rattle.numbers.proofs.Refused.{never_0}
use Rattle.calls.proofs.Public.{stamped_late, stamped_wrong}
use Rattle.calls.proofs.stamped_call.Goals as goal

pub returns-in_err-judge_time : goal.returns-in_err-judge_time
returns-in_err-judge_time c = let p = err_from_is_err_and c.from_residual.result c.from_residual.ensures.1 in rw (p.1, p.2) (stamped_late c.requires c.args.time c.args.state.now c.in_err-judge_time.ensures (never_0 _))

pub judge_state-requires : goal.judge_state-requires
judge_state-requires c = c.requires.sound.book

pub returns-in_err-judge_state : goal.returns-in_err-judge_state
returns-in_err-judge_state c = let p = err_from_is_err_and c.from_residual-in_err-judge_state.result c.from_residual-in_err-judge_state.ensures.1 in rw (p.1, p.2) (stamped_wrong c.requires c.args.time c.args.state.now c.in_ok-judge_time.ensures refl c.in_err-judge_state.ensures (never_0 _))

pub restamp-requires : goal.restamp-requires
restamp-requires c = (c.requires, sym c.in_ok-judge_time.ensures, sym c.in_ok-judge_state.ensures)
