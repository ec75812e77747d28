-- `planning::counts_stretch` meets its contract: not with fresh atoms, else by the way. Assumes nothing.
use Rattle.planning.proofs.Modes.{stretch_else}
use Rattle.planning.proofs.counts_stretch.Goals as goal

pub returns-else-fresh : goal.returns-else-fresh
returns-else-fresh c = stretch_else c.args.monitor.now c.if-fresh.false c.is_lasting.ensures
