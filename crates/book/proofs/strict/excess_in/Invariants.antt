-- `book::strict::excess_in` meets its contract. The loop's invariant stands first. Assumes nothing.
use Rattle.book.specs.Private.{NoneOver}
use Rattle.book.proofs.strict.excess_in.Given as goal

abbrev pub invariant-loop-row : goal.invariant-loop-row
invariant-loop-row l = NoneOver l.rows l.row
