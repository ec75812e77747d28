use Rattle.buffer_writer.proofs.Writes.{same_bytes}
use Rattle.tidied.proofs.put_answer.Goals as goal

pub put_steps-requires : goal.put_steps-requires
put_steps-requires c = (c.in-Ok.ensures.ok, c.requires)

pub returns-in-Ok : goal.returns-in-Ok
returns-in-Ok c = same_bytes c.put_steps.ensures c.in-Ok.ensures.said

pub returns-in-Err : goal.returns-in-Err
returns-in-Err c = same_bytes (rw c.number.ensures at c.put_numbered.ensures) c.in-Err.ensures
