-- `calls::tick_and_restate` meets its contract: the state call is left, and refused it leaves the clock that was. Assumes nothing.
use mathlib.Core.Path.{refl}
use Rattle.numbers.proofs.Refused.{never_0}
use Rattle.calls.proofs.Quiet.{ticked_kept, still_right, stamped_quiet, stamped_back}
use Rattle.calls.proofs.tick_and_restate.Goals as goal

pub restate-requires : goal.restate-requires
restate-requires c = rw c.tick.ensures
    (ticked_kept c.requires.kept.0 c.args.time c.requires.time_value.0 c.requires.kept.1, still_right c.requires.kept.0 c.args.time c.requires.time_value.0 c.requires.kept.1 c.args.state.now c.requires.time_value.1)

pub returns-in-Err : goal.returns-in-Err
returns-in-Err c = stamped_back c.requires.kept.0 c.args.time c.requires.time_value.0 c.requires.kept.1 c.args.state.now c.requires.time_value.1 (rw c.tick.ensures at c.in-Err.ensures) (never_0 _) c.clock-clock.ensures c.tick-in-Err.ensures

pub returns : goal.returns
returns c = stamped_quiet c.requires.kept.0 c.args.time c.requires.time_value.0 c.requires.kept.1 c.args.state.now c.requires.time_value.1 (rw c.tick.ensures at c.in_default.ensures) refl
