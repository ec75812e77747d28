-- `book::check::tally` meets its contract. The loop's invariant stands first. Assumes nothing.
use lib.ListN.{take}
use Rattle.book.specs.Private.{Tallied}
use Rattle.book.proofs.check.tally.Given as goal

abbrev pub invariant-loop-row : goal.invariant-loop-row
invariant-loop-row l = Tallied (take l.row-index l.uses) l.initial.times l.times
