-- `planning::put_value` meets its contract: a value that stays, and one that turns. Assumes nothing.
use Rattle.planning.proofs.Turns.{put_same, put_turned}
use Rattle.planning.proofs.put_value.Goals as goal

pub returns-then-value-old : goal.returns-then-value-old
returns-then-value-old c = put_same c.args.monitor.now c.args.row c.args.value c.holds-old.ensures c.requires.2 c.if-value-old.true

pub returns : goal.returns
returns c = put_turned c.args.monitor.now c.args.row c.args.value c.holds-old.ensures c.from.ensures c.if-value-old.false
