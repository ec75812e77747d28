-- The reading goes on to the end of the input.
use Rattle.std.proofs.Common.{◌≤◌, ◌-◌, length}
use Rattle.text_try.proofs.show_words.Given as goal

abbrev pub invariant-loop-word : goal.invariant-loop-word
invariant-loop-word g l = l.at ≤ length l.input

abbrev pub decreases-loop-word : goal.decreases-loop-word
decreases-loop-word g l = length l.input - l.at
