-- `text::words::next_word` meets its contract. The loop's invariant stands first. Assumes nothing.
use Rattle.text.specs.Words.{next_word}
use Rattle.std.proofs.Common.{◌≡◌}
use Rattle.text.proofs.words.next_word.Given as goal

abbrev pub invariant-loop-i : goal.invariant-loop-i
invariant-loop-i l = next_word l.input l.i ≡ next_word l.input l.at
