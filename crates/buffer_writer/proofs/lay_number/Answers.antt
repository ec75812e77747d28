-- What is laid is the number's digits: the one byte below ten, the last part of the scratch else.
use native.Mathlib.Omega.{arith}
use mathlib.Core.Path.{ap, ◌∙◌}
use lib.ListN.{length}
use Rattle.text.proofs.Digits.{all_shown, one_place, shown_fits}
use Rattle.buffer_writer.proofs.Writes.{laid_bytes}
use Rattle.buffer_writer.proofs.lay_number.Goals as goal

pub returns-then-n-lt-TEN : goal.returns-then-n-lt-TEN
returns-then-n-lt-TEN c = let l = c.lay_bytes.ensures in (laid_bytes l (one_place _ c.if-n-lt-TEN.true), omega (arith, l.after))

pub returns : goal.returns
returns c =
    let l = c.lay_bytes-2.ensures in
    let d = c.decimal-digits.ensures.0 in
    (laid_bytes l (d ∙ all_shown _ (omega arith)), omega (arith, l.after, ap length d, shown_fits c.args.n 20))
