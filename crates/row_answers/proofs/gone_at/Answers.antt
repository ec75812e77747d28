-- `row_answers::gone_at` meets its contract. Assumes nothing.
use mathlib.Core.Path.{ap, ◌∙◌}
use lib.Dec.{eqb}
use Rattle.memory.specs.Memory.{told_at}
use Rattle.memory.specs.Tables.{GONE}
use Rattle.row_answers.proofs.gone_at.Goals as goal

pub returns : goal.returns
returns c = ap (λ x. eqb x GONE) (c.told_at.ensures ∙ ap (told_at c.args.monitor.now) c.slot_at.ensures)
