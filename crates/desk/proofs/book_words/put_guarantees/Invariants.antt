-- `desk::book_words::put_guarantees` meets its contract. Assumes nothing.
use Rattle.desk_rules.specs.Rows.{guarantees_from}
use mathlib.Core.Path.{◌≡◌}
use lib.Seq.{sets}
use Rattle.desk.proofs.book_words.put_guarantees.Given as goal

abbrev pub invariant-loop-k : goal.invariant-loop-k
invariant-loop-k l = l.words ≡ sets l.initial.words l.at (guarantees_from 0 l.k)
