-- `calls::judge_time` meets its contract. Assumes nothing.
use Rattle.calls.proofs.Public.{number_early, number_late, number_timely}
use Rattle.calls.proofs.judge_time.Goals as goal

pub returns-then-time-clock : goal.returns-then-time-clock
returns-then-time-clock c = number_early c.args.monitor.now c.clock.ensures c.if-time-clock.true

pub returns-then-time-gt-LAST_TIME : goal.returns-then-time-gt-LAST_TIME
returns-then-time-gt-LAST_TIME c = number_late c.args.monitor.now c.clock.ensures c.if-time-clock.false c.if-time-gt-LAST_TIME.true

pub returns : goal.returns
returns c = number_timely c.args.monitor.now c.clock.ensures c.if-time-clock.false c.if-time-gt-LAST_TIME.false
