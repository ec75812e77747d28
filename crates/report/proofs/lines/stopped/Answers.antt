-- `report::lines::stopped` meets its contract. Assumes nothing.
use mathlib.Core.Path.{◌∙◌}
use Rattle.buffer_writer.proofs.Writes.{at_end}
use Rattle.report.proofs.lines.stopped.Goals as goal

pub returns : goal.returns
returns c = c.finished.ensures ∙ at_end c.put_stop-p.ensures
