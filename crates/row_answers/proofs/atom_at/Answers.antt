-- `row_answers::atom_at` meets its contract. Assumes nothing.
use mathlib.Core.Path.{ap}
use lib.Dec.{eqb}
use Rattle.row_answers.proofs.atom_at.Goals as goal

pub returns : goal.returns
returns c = ap (λ x. eqb x 1) c.word.ensures
