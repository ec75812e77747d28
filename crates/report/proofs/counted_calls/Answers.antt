-- `report::counted_calls` meets its contract. Assumes nothing.
use mathlib.Core.Path.{sym}
use Rattle.report.proofs.Going.{no_count, after_count}
use Rattle.report.proofs.counted_calls.Goals as goal

pub returns-in-Err : goal.returns-in-Err
returns-in-Err c = no_count _ _ _ _ _ _ (sym c.in-Err.ensures) (rw c.number.ensures at c.stopped.ensures)

pub returns-in-Ok : goal.returns-in-Ok
returns-in-Ok c = after_count _ _ _ _ _ _ (sym c.in-Ok.ensures) c.requires.1 c.requires.2 c.call_lines.ensures
