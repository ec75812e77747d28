-- So many words are passed, up to the place.
use Rattle.line_words.proofs.Lines.{Seeking}
use Rattle.line_words.proofs.word_in.Given as goal

abbrev pub invariant-loop : goal.invariant-loop
invariant-loop l = Seeking l.input l.at l.counter
