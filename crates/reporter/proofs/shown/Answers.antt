use Rattle.std.proofs.Common.{arith}
use Rattle.reporter.proofs.Rooms.{too_short, fits}
use Rattle.reporter.proofs.shown.Goals as goal

pub returns-then-out-length : goal.returns-then-out-length
returns-then-out-length g c = too_short _ _ _ _ _ c.report_by-length.ensures (omega (arith, c.if-out-length.true, c.report_by-length.auto.out))

pub returns : goal.returns
returns g c = fits _ _ _ _ _ c.report_by-length.ensures (omega arith) (omega (arith, c.if-out-length.false, c.report_by-length.auto.out))
