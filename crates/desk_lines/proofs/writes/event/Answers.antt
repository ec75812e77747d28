-- `desk_lines::writes::event` meets its contract. Assumes nothing.
use Rattle.desk_lines.proofs.Bytes.{handed_whole}
use Rattle.desk_lines.proofs.writes.event.Goals as goal

pub returns : goal.returns
returns c = handed_whole c.put_event-end.ensures c.finished.ensures
