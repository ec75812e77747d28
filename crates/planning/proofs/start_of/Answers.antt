-- `planning::start_of` meets its contract: a sum that does not wrap. Assumes nothing.
use native.Mathlib.Omega.{arith}
use Rattle.planning.proofs.Modes.{counts_small}
use Rattle.planning.proofs.start_of.Goals as goal

pub overflow_add-result : goal.overflow_add-result
overflow_add-result c = let e = c.counts_from.ensures in let l = c.lower_at.ensures in let k = counts_small c.args.monitor.now c.args.clock c.args.mode in omega (arith, c.requires.clock, c.requires.lower)
