-- `report::lines::lay_some` meets its contract. Assumes nothing.
use Rattle.buffer_writer.proofs.Writes.{laid_bytes}
use Rattle.report.proofs.Lasting.{rest_whole}
use Rattle.report.proofs.lines.lay_some.Goals as goal

pub returns : goal.returns
returns c = let s = c.args in laid_bytes c.lay_bytes.ensures (rest_whole s.digits.now s.first)
