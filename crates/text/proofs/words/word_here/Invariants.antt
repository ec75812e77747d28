-- `text::words::word_here` meets its contract. The loop's invariant stands first. Assumes nothing.
use Rattle.text.proofs.Letters.{Going}
use Rattle.numbers.specs.Limits.{MAX}
use Rattle.std.proofs.Common.{◌≤◌}
use Rattle.text.proofs.words.word_here.Given as goal

abbrev pub invariant-loop-next : goal.invariant-loop-next
invariant-loop-next l = Going l.input l.at l.next l.number × (l.number ≤ MAX)
