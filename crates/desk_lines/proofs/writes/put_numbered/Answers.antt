-- `desk_lines::writes::put_numbered` meets its contract. Assumes nothing.
use Rattle.desk_lines.proofs.Bytes.{numbered_wrote}
use Rattle.desk_lines.proofs.writes.put_numbered.Goals as goal

pub returns : goal.returns
returns c = numbered_wrote _ _ c.put_bytes-a.ensures c.put_number-b.ensures c.put_bytes.ensures
