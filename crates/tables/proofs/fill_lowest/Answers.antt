-- `tables::fill_lowest` meets its contract. Assumes nothing.
use native.Mathlib.Omega.{arith}
use Rattle.tables.proofs.Puts.{lowest_sound, lowest_count, lowest_more}
use Rattle.tables.proofs.fill_lowest.Goals as goal

pub lowest_here-lowest-requires : goal.lowest_here-lowest-requires
lowest_here-lowest-requires c = let l = c.loop-row in record { sound = lowest_sound c.requires l.row l.invariant; row_bound = let e = c.row_count-row-end.ensures in let k = lowest_count c.requires l.row l.invariant in omega arith }

pub loop-row-preserved : goal.loop-row-preserved
loop-row-preserved c = let l = c.loop-row in let e = c.row_count-row-end.ensures in lowest_more c.requires l.row l.invariant (omega arith) c.lowest_here-lowest.ensures
