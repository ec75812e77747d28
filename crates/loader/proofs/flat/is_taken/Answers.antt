-- `loader::flat::is_taken` meets its contract. Assumes nothing.
use Rattle.loader.proofs.Nested.{taken_lasting, taken_ordinary}
use Rattle.loader.proofs.flat.is_taken.Goals as goal

pub returns-then-is_lasting : goal.returns-then-is_lasting
returns-then-is_lasting c = taken_lasting c.args.monitor.now c.is_lasting.ensures c.if-is_lasting.true c.is_flat.ensures

pub returns : goal.returns
returns c = taken_ordinary c.args.monitor.now c.is_lasting.ensures c.if-is_lasting.false
