-- `planning::counts_from` meets its contract: by the mode, and by the clock that stands there. Assumes nothing.
use Rattle.planning.proofs.Modes.{counts_clock, counts_next, counts_still}
use Rattle.planning.proofs.counts_from.Goals as goal

pub returns-then-mode-lt-STAYS_AND_SPANS : goal.returns-then-mode-lt-STAYS_AND_SPANS
returns-then-mode-lt-STAYS_AND_SPANS c = counts_clock c.args.monitor.now c.args.clock c.args.mode c.if-mode-lt-STAYS_AND_SPANS.true

pub returns-then-before-clock : goal.returns-then-before-clock
returns-then-before-clock c = counts_next c.args.monitor.now c.args.clock c.args.mode c.if-mode-lt-STAYS_AND_SPANS.false c.clock-before.ensures c.if-before-clock.true

pub returns : goal.returns
returns c = counts_still c.args.monitor.now c.args.clock c.args.mode c.if-mode-lt-STAYS_AND_SPANS.false c.clock-before.ensures c.if-before-clock.false
