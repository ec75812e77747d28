use Rattle.book_writer.specs.Layout.{word_line}
use Rattle.buffer_writer.specs.Finish.{Wrote}
use Rattle.book_writer.proofs.put_words.Given as goal

abbrev pub invariant-loop-word : goal.invariant-loop-word
invariant-loop-word l = Wrote l.initial.out l.at (word_line l.words l.word-index) l.out l.end
