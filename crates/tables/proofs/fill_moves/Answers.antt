-- `tables::fill_moves` meets its contract. Assumes nothing.
use native.Mathlib.Omega.{arith}
use Rattle.tables.proofs.Puts.{moves_sound, moves_count, moves_more}
use Rattle.tables.proofs.fill_moves.Goals as goal

pub moves_here-moves-requires : goal.moves_here-moves-requires
moves_here-moves-requires c = let l = c.loop-row in record { sound = moves_sound c.requires l.row l.invariant; row_bound = let e = c.row_count-row-end.ensures in let k = moves_count c.requires l.row l.invariant in omega arith }

pub loop-row-preserved : goal.loop-row-preserved
loop-row-preserved c = let l = c.loop-row in let e = c.row_count-row-end.ensures in moves_more c.requires l.row l.invariant (omega arith) c.moves_here-moves.ensures c.from.ensures
