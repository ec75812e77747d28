-- The answers of the kits passed are written.
use Rattle.memory.specs.Memory.{book_of, state_of}
use Rattle.desk_lines.proofs.Bytes.{Wording}
use Rattle.desk_lines.proofs.writes.put_kits.Given as goal

abbrev pub invariant-loop-kit : goal.invariant-loop-kit
invariant-loop-kit l = Wording (book_of l.monitor) (state_of l.monitor) l.initial.out l.at l.out l.p l.kit
