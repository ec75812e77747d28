use Rattle.tidier.specs.Laying.{words_at}
use mathlib.Core.Path.{refl}
use Rattle.tidier.proofs.lay.words_after.Goals as goal

-- src/lay.rt:175:1
pub returns : goal.returns
unfolding words_at
returns c = rw (c.kind_after.ensures, c.kind_in.ensures, c.arg_in.ensures, c.lower_in.ensures, c.upper_in.ensures) refl
