use Rattle.desk.proofs.Kits.{barcodes_start, barcodes_more, barcodes_end}
use native.Mathlib.Omega.{arith}
use Rattle.desk.proofs.given.put_barcodes.Goals as goal

pub loop-k-init : goal.loop-k-init
loop-k-init c = barcodes_start _ _ _

pub loop-k-preserved : goal.loop-k-preserved
loop-k-preserved c = barcodes_more _ _ _ _ _ c.loop-k.k _ c.loop-k.invariant (omega arith) (omega arith) (omega arith) c.copy.ensures

pub returns : goal.returns
returns c = barcodes_end _ _ _ _ c.loop-k.k _ c.loop-k.invariant (omega arith)
