-- `report::lines::lay_end` meets its contract. Assumes nothing.
use Rattle.buffer_writer.proofs.Writes.{same_bytes}
use Rattle.report.proofs.Lasting.{end_at_once, end_laid}
use Rattle.report.proofs.lines.lay_end.Goals as goal

pub returns-then-count-lt-TEN : goal.returns-then-count-lt-TEN
returns-then-count-lt-TEN c = same_bytes c.lay_bytes.ensures.wrote (end_at_once _ c.if-count-lt-TEN.true)

pub returns : goal.returns
returns c =
    end_laid _ c.lay_bytes-a.ensures c.lay_number-b.ensures.0 c.lay_bytes-2.ensures
