-- `oracle::property_count` meets its contract. Assumes nothing.
use mathlib.Core.Path.{sym, ◌∙◌}
use Rattle.memory.proofs.Properties.{properties_length}
use Rattle.oracle.proofs.property_count.Goals as goal

pub returns : goal.returns
returns c = c.property_count.ensures ∙ sym (properties_length _ c.requires.sound.book)
