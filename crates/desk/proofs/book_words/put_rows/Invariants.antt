-- `desk::book_words::put_rows` meets its contract. Assumes nothing.
use Rattle.desk.proofs.Writing.{rows_of}
use mathlib.Core.Path.{◌≡◌}
use lib.Seq.{sets}
use Rattle.desk.proofs.book_words.put_rows.Given as goal

abbrev pub invariant-loop-k : goal.invariant-loop-k
invariant-loop-k l = l.words ≡ sets l.initial.words l.at (rows_of l.kits l.k)
