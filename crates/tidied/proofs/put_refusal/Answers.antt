use Rattle.buffer_writer.proofs.Writes.{and_then}
use Rattle.tidied.specs.Answers.{refusal_line}
use Rattle.tidied.proofs.put_refusal.Goals as goal

pub returns : goal.returns
unfolding refusal_line
returns c = rw (← c.number.ensures) (and_then c.put_bytes-next.ensures (and_then c.put_number-middle.ensures (and_then c.put_bytes-last.ensures (and_then c.put_number-end.ensures c.put_bytes.ensures))))
