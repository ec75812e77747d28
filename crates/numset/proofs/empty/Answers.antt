-- `numset::empty` meets its contract. Assumes nothing.
use borrow.Author.Rules.{rules}
use Rattle.numset.proofs.Resets.{empties_none, empties}
use Rattle.numset.proofs.empty.Goals as goal

pub returns-then-is_empty : goal.returns-then-is_empty
returns-then-is_empty c = empties_none _ (search rules)

pub returns : goal.returns
returns c = empties _ (λ h. search rules) c.clear.ensures
