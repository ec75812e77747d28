-- `buffer_writer::put_numbered` meets its contract. Assumes nothing.
use Rattle.buffer_writer.proofs.Writes.{and_then}
use Rattle.buffer_writer.proofs.put_numbered.Goals as goal

pub returns : goal.returns
returns c = and_then c.put_bytes-a.ensures c.put_number.ensures
