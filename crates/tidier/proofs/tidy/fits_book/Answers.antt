use mathlib.Core.Path.{refl}
use Rattle.trees.proofs.Walking.{all_held}
use Rattle.tidier.proofs.Booked.{placed_as, fits_said}
use Rattle.tidier.proofs.tidy.fits_book.Goals as goal

pub fits-requires : goal.fits-requires
fits-requires c = all_held (placed_as c.requires c.place_accepted-places.ensures) refl c.rows_part.ensures c.operands_part.ensures

pub returns : goal.returns
returns c = fits_said (placed_as c.requires c.place_accepted-places.ensures) refl c.rows_part.ensures c.operands_part.ensures _ c.fits.ensures
