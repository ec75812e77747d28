-- `book::strict::needed_in` meets its contract. Assumes nothing.
use Rattle.book.proofs.Accepted.{first_each, row_range}
use Rattle.book.proofs.Excess.{plain_needs, temporal_needs}
use Rattle.book.proofs.strict.needed_in.Goals as goal

pub returns-then-not-is_temporal : goal.returns-then-not-is_temporal
returns-then-not-is_temporal c = plain_needs _ _ c.is_temporal.ensures c.if-not-is_temporal.true

pub needed-requires : goal.needed-requires
needed-requires c =
    rw (c.lower_in.ensures, c.upper_in.ensures) (row_range _ _ (first_each _ _ c.requires.1 _ c.requires.0))

pub returns : goal.returns
returns c = temporal_needs _ _ _ _ _ c.is_temporal.ensures c.if-not-is_temporal.false c.lower_in.ensures c.upper_in.ensures c.needed.ensures
