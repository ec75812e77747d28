use mathlib.Core.Path.{refl}
use Rattle.tidier.proofs.Booked.{placed_as, assumes_many, guarantees_many}
use Rattle.tidier.proofs.tidy.counts_after.Goals as goal

pub returns : goal.returns
returns c = let p = placed_as c.requires c.place_accepted-places.ensures in record { rows = refl; operands = refl; assumes = assumes_many p refl; guarantees = guarantees_many p refl }
