-- `report::sums::put_summaries` meets its contract. The invariant: the lines of the properties passed are written. Assumes nothing.
use mathlib.Core.Path.{◌≡◌}
use Rattle.memory.specs.Tables.{property_count}
use Rattle.report.proofs.Summing.{Summing}
use Rattle.report.proofs.sums.put_summaries.Given as goal

abbrev pub invariant-loop-i : goal.invariant-loop-i
invariant-loop-i l = (l.count ≡ property_count l.monitor) × Summing l.monitor l.count l.initial.out l.at l.out l.p l.i
