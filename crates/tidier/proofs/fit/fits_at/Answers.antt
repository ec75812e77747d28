use Rattle.tidying.specs.Steps.{fits_at}
use mathlib.Core.Path.{refl}
use Rattle.tidier.proofs.Fitness.{implies_is, history_is}
use Rattle.tidier.proofs.fit.fits_at.Goals as goal

-- src/fit.rt:64:23
pub is_not_not-requires : goal.is_not_not-requires
is_not_not-requires c = c.requires

-- src/fit.rt:65:25
pub is_single-requires : goal.is_single-requires
is_single-requires c = c.requires

-- src/fit.rt:66:30
pub begins-requires : goal.begins-requires
begins-requires c = c.requires.inside

-- src/fit.rt:67:26
pub begins-requires-in-History : goal.begins-requires-in-History
begins-requires-in-History c = c.requires.inside

-- src/fit.rt:59:1
pub returns-in-Nots : goal.returns-in-Nots
returns-in-Nots c = rw c.in-Nots.is c.is_not_not.ensures

-- src/fit.rt:59:1
pub returns-in-Single : goal.returns-in-Single
returns-in-Single c = rw c.in-Single.is c.is_single.ensures

-- src/fit.rt:59:1
pub returns-in-Implication : goal.returns-in-Implication
returns-in-Implication c = rw c.in-Implication.is (implies_is c.requires c.begins.ensures)

-- src/fit.rt:59:1
pub returns-in-History : goal.returns-in-History
returns-in-History c = rw c.in-History.is (history_is c.requires c.begins-in-History.ensures)

-- src/fit.rt:59:1
pub returns-in-Unknown : goal.returns-in-Unknown
unfolding fits_at
returns-in-Unknown c = rw c.in-Unknown.is refl
