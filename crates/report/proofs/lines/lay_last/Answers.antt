-- `report::lines::lay_last` meets its contract. Assumes nothing.
use native.Mathlib.Omega.{arith}
use lib.ListN.{length-drop}
use lib.Seq.{take_all}
use Rattle.std.proofs.Common.{◌-◌}
use Rattle.buffer_writer.proofs.Writes.{laid_bytes}
use Rattle.report.proofs.lines.lay_last.Goals as goal

pub returns : goal.returns
returns g = λ c. laid_bytes c.lay_bytes.ensures (take_all _ _ (omega (arith, length-drop (20 - g.row.COUNT) c.args.digits.now, c.requires.0)))
