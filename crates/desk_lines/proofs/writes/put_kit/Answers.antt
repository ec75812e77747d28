-- `desk_lines::writes::put_kit` meets its contract. Assumes nothing.
use Rattle.std.proofs.Common.{rules}
use Rattle.buffer_writer.proofs.Writes.{same_bytes}
use Rattle.desk_lines.proofs.Bytes.{kit_bytes}
use Rattle.desk_lines.proofs.writes.put_kit.Goals as goal

pub returns : goal.returns
returns c = same_bytes c.put_bytes.ensures (kit_bytes c.of_kit-v.ensures (search rules) (search rules) (search rules))
