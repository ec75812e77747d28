use Rattle.tidier.specs.Tidies.{step_at}
use mathlib.Core.Path.{refl}
use Rattle.tidier.proofs.tidy.step_at.Goals as goal

pub returns : goal.returns
unfolding step_at
returns c = rw c.of_word.ensures refl
