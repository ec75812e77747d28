-- `report::lines::put_rest` meets its contract. Assumes nothing.
use Rattle.report.proofs.Lasting.{rest_written}
use Rattle.report.proofs.lines.put_rest.Goals as goal

pub returns : goal.returns
returns c =
    rest_written _ c.put_words-a.ensures c.put_bytes-b.ensures c.fullest.ensures c.put_number.ensures
