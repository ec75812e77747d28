-- The words up to the place are counted, and what is left of the text gets less.
use Rattle.std.proofs.Common.{◌-◌, length}
use Rattle.line_words.proofs.Lines.{Counting}
use Rattle.line_words.proofs.count_words.Given as goal

abbrev pub invariant-loop-word : goal.invariant-loop-word
invariant-loop-word l = Counting l.input l.at l.count

abbrev pub decreases-loop-word : goal.decreases-loop-word
decreases-loop-word l = length l.input - l.at
