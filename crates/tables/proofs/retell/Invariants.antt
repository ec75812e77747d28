-- `tables::retell` meets its contract. The invariant: the rows of the sets passed are told anew, it is known between which rows that is something new, and
-- the greatest of their counts is known. Assumes nothing.
use Rattle.tables.proofs.Puts.{Telling}
use Rattle.tables.proofs.retell.Given as goal

abbrev pub invariant-loop-slot : goal.invariant-loop-slot
invariant-loop-slot l = Telling l.initial.monitor l.slot l.monitor l.first l.end l.most
