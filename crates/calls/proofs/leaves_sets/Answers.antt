-- `calls::leaves_sets` meets its contract. Assumes nothing.
use borrow.Author.Rules.{rules}
use Rattle.calls.proofs.Stays.{sets_stay}
use Rattle.calls.proofs.leaves_sets.Goals as goal

pub returns-then-fresh : goal.returns-then-fresh
returns-then-fresh c = sets_stay _ c.begun.ensures c.if-begun-ne1.false c.if-fresh.true (search rules) c.greatest.ensures
