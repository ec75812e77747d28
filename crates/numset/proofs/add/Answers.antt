-- `numset::add` meets its contract. Assumes nothing.
use Rattle.numset.proofs.Changes.{counted}
use Rattle.numset.proofs.add.Goals as goal

pub returns : goal.returns
returns c =
    let j = c.join_in-outcome.ensures in
    (j.0, counted _ _ _ _ j.1, j.1)
