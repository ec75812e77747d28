-- `planning::unmade` meets its contract. Assumes nothing.
use Rattle.planning.proofs.Spared.{unmade_made, unmade_all}
use Rattle.planning.proofs.unmade.Goals as goal

pub returns-then-begun-eq1 : goal.returns-then-begun-eq1
returns-then-begun-eq1 c = unmade_made c.args.monitor.now c.begun.ensures c.if-begun-eq1.true

pub returns : goal.returns
returns c = unmade_all c.args.monitor.now c.begun.ensures c.if-begun-eq1.false
