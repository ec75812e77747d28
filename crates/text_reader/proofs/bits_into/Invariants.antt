-- `text_reader::bits_into` meets its contract. The loop's invariant stands first. Assumes nothing.
use Rattle.text_reader.proofs.Taking.{Telling_all}
use Rattle.text_reader.proofs.bits_into.Given as goal

abbrev pub invariant-loop-i : goal.invariant-loop-i
invariant-loop-i l = Telling_all l.input l.cursor l.count l.initial.bytes l.bytes l.most l.i
