-- `planning::stop_of` meets its contract: no end, or a sum that does not wrap. Assumes nothing.
use Rattle.planning.proofs.Modes.{stop_last, stop_sum}
use Rattle.memory.specs.Memory.{range_at}
use mathlib.Core.Path.{◌∙◌}
use native.Mathlib.Omega.{arith}
use Rattle.planning.proofs.stop_of.Goals as goal

pub returns-then-upper : goal.returns-then-upper
returns-then-upper c = stop_last (range_at c.args.monitor.now c.args.row) c.args.clock c.upper_at-upper.ensures c.if-upper.true

pub overflow_add-result : goal.overflow_add-result
overflow_add-result c = let e = c.upper_at-upper.ensures in let b = c.requires.upper (λ q. c.if-upper.false (e ∙ q)) in let k = c.requires.clock in omega arith

pub returns : goal.returns
returns c = stop_sum (range_at c.args.monitor.now c.args.row) c.args.clock c.upper_at-upper.ensures c.if-upper.false
