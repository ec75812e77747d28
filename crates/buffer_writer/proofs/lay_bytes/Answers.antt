-- `buffer_writer::lay_bytes` meets its contract. Assumes nothing.
use Rattle.buffer_writer.proofs.Writes.{it_lies}
use Rattle.buffer_writer.proofs.lay_bytes.Goals as goal

pub returns : goal.returns
returns c = it_lies _ _ _ _ c.copy_to.ensures
