use native.Mathlib.Omega.{arith}
use mathlib.Core.Path.{◌∙◌, sym}
use Rattle.tidier.proofs.Made.{makes_not, misfit}
use Rattle.tidier.proofs.tidy.make.Goals as goal

pub fits_book-requires : goal.fits_book-requires
fits_book-requires c = rw c.part_of.ensures c.requires.ok

pub remake-requires : goal.remake-requires
remake-requires c = record { standing = c.requires; fit = rw (← c.part_of.ensures) (sym c.fits_book.ensures ∙ c.if-fits_book.true) }

pub returns : goal.returns
returns c = makes_not (misfit c.args.words.now c.args.end c.args.step (rw (← c.part_of.ensures) (sym c.fits_book.ensures ∙ c.if-fits_book.false))) (λ z. omega arith)
