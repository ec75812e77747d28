use Rattle.buffer_writer.proofs.Writes.{same_bytes}
use Rattle.tidied.proofs.put_steps.Goals as goal

pub returns-in-Ok : goal.returns-in-Ok
returns-in-Ok c = same_bytes c.put_tidied.ensures (c.in-Ok.ensures.said _)

pub returns-in-Err : goal.returns-in-Err
returns-in-Err c = same_bytes (rw c.number.ensures at c.put_numbered.ensures) (c.in-Err.ensures _)
