-- The barcodes of the kits passed are put.
use Rattle.std.proofs.Common.{◌≡◌}
use Rattle.std.proofs.lemmas.List.Edits.{sets}
use Rattle.desk_rules.specs.Scans.{codes}
use Rattle.desk.specs.Kits.{kits_in}
use Rattle.desk.proofs.given.put_barcodes.Given as goal

abbrev pub invariant-loop-k : goal.invariant-loop-k
invariant-loop-k l = l.words ≡ sets l.initial.words l.at (codes (kits_in l.kits l.k))
