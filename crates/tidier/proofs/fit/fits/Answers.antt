use native.Mathlib.Omega.{arith}
use Rattle.tidier.proofs.Fitness.{fits_none, fits_there}
use Rattle.tidier.proofs.fit.fits.Goals as goal

-- src/fit.rt:80:9
pub returns-then-rows-step : goal.returns-then-rows-step
returns-then-rows-step c = fits_none c.requires _ (omega (arith, c.if-rows-step.true))

-- src/fit.rt:82:5
pub fits_at-requires : goal.fits_at-requires
fits_at-requires c = record { held = c.requires; inside = omega (arith, c.if-rows-step.false) }

-- src/fit.rt:73:1
pub returns : goal.returns
returns c = fits_there c.requires _ (omega (arith, c.if-rows-step.false)) c.fits_at.ensures
