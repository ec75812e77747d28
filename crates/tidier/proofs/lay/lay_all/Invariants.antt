use Rattle.trees.specs.Walking.{rows_said}
use Rattle.tidier.proofs.Booked.{Going}
use Rattle.tidier.proofs.lay.lay_all.Given as goal

abbrev pub invariant-loop-i : goal.invariant-loop-i
invariant-loop-i l =
    Going (rows_said l.source l.links) l.step l.assumes l.guarantees l.initial.rows l.initial.operands l.initial.tops l.i l.laid l.rows l.operands l.tops
