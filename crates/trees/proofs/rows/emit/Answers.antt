use mathlib.Core.Path.{refl}
use Rattle.trees.proofs.Built.{taken_fit, emitted}
use Rattle.trees.proofs.rows.emit.Goals as goal

-- src/rows.rt:49:5
pub copy-requires : goal.copy-requires
copy-requires c = taken_fit _ _ c.requires c.part_of-taken.ensures

-- src/rows.rt:41:1
pub returns : goal.returns
returns c = emitted _ _ c.requires c.put_row.ensures c.part_of-taken.ensures c.copy.ensures refl
