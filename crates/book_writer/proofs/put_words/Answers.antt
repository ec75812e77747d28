use Rattle.book_writer.proofs.Writing.{words_start, words_more}
use Rattle.book_writer.proofs.put_words.Goals as goal

pub loop-word-init : goal.loop-word-init
loop-word-init c = words_start _ _ _

pub loop-word-preserved : goal.loop-word-preserved
loop-word-preserved c = words_more _ _ c.loop-word.invariant c.put_word-end.ensures
