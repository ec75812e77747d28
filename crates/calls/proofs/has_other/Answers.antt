-- `calls::has_other` meets its contract. Assumes nothing.
use mathlib.Core.Path.{refl}
use Rattle.calls.proofs.Most.{greatest_tells}
use Rattle.calls.proofs.has_other.Goals as goal

pub returns : goal.returns
returns c = greatest_tells c.greatest.ensures refl
