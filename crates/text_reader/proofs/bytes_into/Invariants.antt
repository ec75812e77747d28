-- `text_reader::bytes_into` meets its contract. The loop's invariant stands first. Assumes nothing.
use Rattle.text_reader.proofs.Taking.{Turning}
use Rattle.text_reader.proofs.bytes_into.Given as goal

abbrev pub invariant-loop-i : goal.invariant-loop-i
invariant-loop-i l = Turning l.input l.cursor l.count l.initial.bytes l.bytes l.i l.next
