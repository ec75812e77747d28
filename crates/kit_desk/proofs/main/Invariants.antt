-- The desk stays good, line for line.
use Rattle.desk_lines.specs.Does.{Good}
use Rattle.kit_desk.proofs.main.Given as goal

abbrev pub invariant-loop : goal.invariant-loop
invariant-loop l = Good l.stage l.table l.monitor
