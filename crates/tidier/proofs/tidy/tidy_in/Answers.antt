use mathlib.Core.Path.{sym}
use native.Mathlib.Omega.{arith}
use Rattle.numbers.proofs.Refused.{never_0}
use Rattle.tidier.proofs.Made.{short_book, stands, all_made, not_made}
use Rattle.tidier.proofs.tidy.tidy_in.Goals as goal

pub copy-requires : goal.copy-requires
copy-requires c = omega (arith, c.requires, short_book c.in-Ok.ensures.counted (sym c.in-Ok.ensures.number))

pub tidy_all-requires : goal.tidy_all-requires
tidy_all-requires c = stands c.args.words.now c.args.book.now c.copy.ensures (omega (arith, c.requires, short_book c.in-Ok.ensures.counted (sym c.in-Ok.ensures.number))) (sym c.in-Ok.ensures.number) c.requires

pub returns-in-Ok : goal.returns-in-Ok
returns-in-Ok c = all_made c.args.words.now c.args.book.now c.copy.ensures (omega (arith, c.requires, short_book c.in-Ok.ensures.counted (sym c.in-Ok.ensures.number))) c.tidy_all.ensures

pub returns-in-Err : goal.returns-in-Err
returns-in-Err c = not_made _ _ _ c.in-Err.ensures.number (never_0 _)
