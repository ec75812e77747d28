-- `book::strict::excess_at` meets its contract. Assumes nothing.
use mathlib.Core.Path.{sym, ◌∙◌}
use Rattle.book.proofs.Excess.{rows_in_order, excess_accepted}
use Rattle.book.proofs.strict.excess_at.Goals as goal

pub excess_in-requires : goal.excess_in-requires
excess_in-requires c = rw c.rows_part.ensures (rows_in_order c.requires.0 c.requires.1)

pub returns : goal.returns
returns c =
    excess_accepted c.requires.0 c.requires.1 _ _ (sym c.is_strict.ensures ∙ c.if-not-is_strict.false) (rw c.rows_part.ensures at c.excess_in.ensures)
