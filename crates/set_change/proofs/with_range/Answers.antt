-- `set_change::with_range` meets its contract. Assumes nothing.
use native.Mathlib.Omega.{arith}
use Rattle.set_change.proofs.AsOne.{adding_1, adding_3, adding_4}
use Rattle.set_change.proofs.with_range.Goals as goal

pub returns-then-mode-lt-DROPPED : goal.returns-then-mode-lt-DROPPED
returns-then-mode-lt-DROPPED c = adding_1 _ (let h = c.if-mode-lt-DROPPED.true in omega arith)

pub returns-then-mode-lt-STAYS_AND_SPANS : goal.returns-then-mode-lt-STAYS_AND_SPANS
returns-then-mode-lt-STAYS_AND_SPANS c = adding_3 _ (let h = c.if-mode-lt-DROPPED.false in omega arith) (let h = c.if-mode-lt-STAYS_AND_SPANS.true in omega arith)

pub returns : goal.returns
returns c = adding_4 _ (let h = c.if-mode-lt-STAYS_AND_SPANS.false in omega arith)
