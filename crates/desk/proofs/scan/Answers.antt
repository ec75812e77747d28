-- `desk::scan` meets its contract. Assumes nothing.
use mathlib.Core.Path.{refl}
use native.Mathlib.Omega.{arith}
use Rattle.desk.proofs.Standing.{width_small, ready_scan, scan_made}
use Rattle.desk.proofs.scan.Goals as goal

pub part_of-requires : goal.part_of-requires
part_of-requires c = omega (arith, width_small _ _ c.requires)

pub scan_at-outcome-requires : goal.scan_at-outcome-requires
scan_at-outcome-requires c = ready_scan c.args.table.now c.args.monitor.now _ c.args.time c.args.barcode _ _ c.requires refl c.part_of.ensures c.place_of-place.ensures

pub returns : goal.returns
returns c =
    scan_made c.args.table.now c.args.monitor.now _ _ c.args.time c.args.barcode _ _ _ _ _ c.requires refl c.part_of.ensures c.place_of-place.ensures c.scan_at-outcome.ensures c.of_property-before.ensures c.of_property-after.ensures c.slip_for.ensures
