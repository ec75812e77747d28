use mathlib.Core.Path.{ap, ◌∙◌}
use lib.ListN.{length}
use Rattle.std.specs.Option.{unwrap_or}
use Rattle.desk.proofs.Kits.{place_is}
use Rattle.desk.proofs.given.place_of.Goals as goal

pub returns : goal.returns
returns c =
    let s = c.args in
    c.unwrap_or.ensures ∙ ap (λ o. unwrap_or o (length s.barcodes.now)) c.first_place.ensures ∙ place_is s.barcode s.barcodes.now
