use Rattle.trees.proofs.Walking.{held_arg}
use mathlib.Core.Path.{◌∙◌}
use Rattle.trees.proofs.walk.count_at.Goals as goal

-- src/walk.rt:33:5
pub taken_by-requires : goal.taken_by-requires
taken_by-requires c = held_arg c.requires _ _ c.kind_in.ensures c.arg_in.ensures

-- src/walk.rt:29:1
pub returns : goal.returns
returns c = c.taken_by.ensures ∙ rw (c.kind_in.ensures, c.arg_in.ensures)
