-- `row_answers::here_at` meets its contract. Assumes nothing.
use native.Mathlib.Omega.{arith}
use Rattle.row_answers.proofs.Values.{here_rolling, here_held}
use mathlib.Core.Path.{◌∙◌}
use Rattle.row_answers.proofs.here_at.Goals as goal

pub set_at-requires : goal.set_at-requires
set_at-requires c = let inside = (c.requires.sound.book.rows c.args.row c.requires.row_bound.0).slot c.requires.row_bound.1 in let few = c.requires.sound.book.temporal_few in omega (arith, c.slot_at-slot.ensures)

pub contains-requires : goal.contains-requires
contains-requires c = here_rolling c.requires.sound c.requires.row_bound.0 c.requires.row_bound.1 c.slot_at-slot.ensures c.set_at.ensures

pub returns : goal.returns
returns c = c.contains.ensures ∙ here_held c.requires.sound c.requires.row_bound.0 c.requires.row_bound.1 c.slot_at-slot.ensures c.set_at.ensures c.clock.ensures
