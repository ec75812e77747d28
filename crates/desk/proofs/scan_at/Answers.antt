use native.Mathlib.Omega.{arith}
use Rattle.desk.proofs.Standing.{scanned_known, scanned_unknown}
use Rattle.desk.proofs.scan_at.Goals as goal

pub returns-then-place-width : goal.returns-then-place-width
returns-then-place-width c = scanned_known _ _ _ _ _ _ _ _ c.if-place-width.true c.on_and_off.ensures

pub returns-else-place-width : goal.returns-else-place-width
returns-else-place-width c = scanned_unknown _ _ _ _ (omega arith) c.requires.kept
