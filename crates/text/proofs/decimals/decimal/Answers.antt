-- `text::decimals::decimal` meets its contract. Assumes nothing.
use Rattle.std.proofs.Common.{refl}
use Rattle.text.proofs.Digits.{part, ends_there}
use Rattle.text.proofs.decimals.decimal.Goals as goal

pub returns : goal.returns
returns c =
    let w = c.write_last-at.ensures in
    let p = part _ _ _ _ w.0 w.1 in
    (p, record { block = refl; ends = ends_there _ _ _ _ _ w.0 p })
