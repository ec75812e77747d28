-- `text::words::number_here` meets its contract. The loop's invariant stands first. Assumes nothing.
use Rattle.text.proofs.Letters.{Counting}
use Rattle.text.proofs.words.number_here.Given as goal

abbrev pub invariant-loop-next : goal.invariant-loop-next
invariant-loop-next l = Counting l.input l.at l.next l.number
