-- `desk::book_words::put_operands` meets its contract. Assumes nothing.
use Rattle.desk_rules.specs.BookWords.{operands_from}
use mathlib.Core.Path.{◌≡◌}
use lib.Seq.{sets}
use Rattle.desk.proofs.book_words.put_operands.Given as goal

abbrev pub invariant-loop-k : goal.invariant-loop-k
invariant-loop-k l = l.words ≡ sets l.initial.words l.at (operands_from 0 l.k)
