-- `desk_lines::writes::last` meets its contract. Assumes nothing.
use Rattle.desk_lines.proofs.Bytes.{handed_whole}
use Rattle.desk_lines.proofs.writes.last.Goals as goal

pub returns : goal.returns
returns c = handed_whole c.put_last-end.ensures c.finished.ensures
