use native.Mathlib.Omega.{arith}
use Rattle.desk.proofs.Kits.{repeated_given}
use Rattle.desk.proofs.given.any_repeated.Goals as goal

pub returns : goal.returns
returns c = repeated_given c.args.kits.now _ c.args.count _ _ c.requires c.put_barcodes.ensures (omega arith) c.repeated.ensures
