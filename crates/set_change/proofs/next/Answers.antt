-- `set_change::next` meets its contract: as one, and with the stretch where one is counted. Assumes nothing.
use Rattle.set_change.proofs.AsOne.{both_alone, next_spans, next_counts}
use Rattle.set_change.proofs.next.Goals as goal

pub returns-then-spans : goal.returns-then-spans
returns-then-spans c = next_spans (both_alone _ _ c.if-before-eq-STAYS.true c.if-mode-lt-STAYS_AND_SPANS.true) c.if-spans.true c.spanning.ensures

pub returns-then-mode-lt-STAYS_AND_SPANS : goal.returns-then-mode-lt-STAYS_AND_SPANS
returns-then-mode-lt-STAYS_AND_SPANS c = next_counts (both_alone _ _ c.if-before-eq-STAYS.true c.if-mode-lt-STAYS_AND_SPANS.true) c.if-spans.false

pub returns-then-spans-2 : goal.returns-then-spans-2
returns-then-spans-2 c = next_spans c.both-joined.ensures c.if-spans-2.true c.spanning-then-spans-2.ensures

pub returns : goal.returns
returns c = next_counts c.both-joined.ensures c.if-spans-2.false
