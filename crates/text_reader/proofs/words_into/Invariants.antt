-- `text_reader::words_into` meets its contract. The loop's invariant stands first. Assumes nothing.
use Rattle.text_reader.proofs.Taking.{Standing}
use Rattle.text_reader.proofs.words_into.Given as goal

abbrev pub invariant-loop-i : goal.invariant-loop-i
invariant-loop-i l = Standing l.input l.cursor l.count l.initial.words l.at l.words l.i l.next
