-- `tables::ask_all` meets its contract. Assumes nothing.
use mathlib.Core.Path.{◌∙◌}
use Rattle.tables.proofs.Reach.{all_asked}
use Rattle.tables.proofs.ask_all.Goals as goal

pub returns : goal.returns
returns c = c.ask.ensures ∙ all_asked c.requires.0 c.requires.1
