-- `numset::drop_before` meets its contract. Assumes nothing.
use mathlib.Core.Path.{refl, sym, ◌∙◌}
use Rattle.numset.proofs.Kept.{none_lapses, none_lapsed}
use Rattle.numset.proofs.drop_before.Goals as goal

pub returns-else-oldest_lapsed : goal.returns-else-oldest_lapsed
returns-else-oldest_lapsed c = none_lapsed (none_lapses c.requires (sym c.oldest_lapsed.ensures ∙ c.if-oldest_lapsed.false)) c.requires refl
