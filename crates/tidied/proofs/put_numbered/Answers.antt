use Rattle.buffer_writer.proofs.Writes.{and_then}
use Rattle.tidied.specs.Answers.{number_line}
use Rattle.tidied.proofs.put_numbered.Goals as goal

pub returns : goal.returns
unfolding number_line
returns c = and_then c.put_bytes-next.ensures (and_then c.put_number-end.ensures c.put_bytes.ensures)
