-- `tables::fill_values` meets its contract. Assumes nothing.
use native.Mathlib.Omega.{arith}
use Rattle.tables.proofs.Puts.{values_sound, values_count, values_more}
use Rattle.tables.proofs.fill_values.Goals as goal

pub output-value-requires : goal.output-value-requires
output-value-requires c = let l = c.loop-row in record { sound = values_sound c.requires l.row l.invariant; row_bound = let e = c.row_count-row-end.ensures in let k = values_count c.requires l.row l.invariant in omega arith }

pub loop-row-preserved : goal.loop-row-preserved
loop-row-preserved c = let l = c.loop-row in values_more c.requires l.row l.invariant c.output-value.ensures c.from.ensures
