-- `planning::visits` meets its contract. Assumes nothing.
use Rattle.planning.proofs.Spared.{visited_fresh, visited_moving}
use Rattle.planning.proofs.visits.Goals as goal

pub is_new-requires : goal.is_new-requires
is_new-requires c = (c.requires.0, c.requires.1 c.if-fresh.true)

pub returns-then-fresh : goal.returns-then-fresh
returns-then-fresh c = visited_fresh c.args.monitor.now c.args.atoms.now c.args.row c.args.changed c.if-fresh.true c.is_new.ensures

pub returns : goal.returns
returns c = visited_moving c.args.monitor.now c.args.atoms.now c.args.row c.args.changed c.if-fresh.false c.moves_at.ensures
