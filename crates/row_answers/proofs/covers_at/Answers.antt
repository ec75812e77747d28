-- `row_answers::covers_at` meets its contract. Assumes nothing.
use mathlib.Core.Path.{ap, ◌∙◌}
use lib.Dec.{eqb}
use Rattle.memory.specs.Memory.{told_at}
use Rattle.memory.specs.Tables.{COVERS}
use Rattle.row_answers.proofs.covers_at.Goals as goal

pub returns : goal.returns
returns c = ap (λ x. eqb x COVERS) (c.told_at.ensures ∙ ap (told_at c.args.monitor.now) c.slot_at.ensures)
