-- `ring::contains` meets its contract. Assumes nothing.
use mathlib.Core.Path.{sym, ◌∙◌}
use Rattle.ring.proofs.contains.Goals as goal

pub newer_has-requires : goal.newer_has-requires
newer_has-requires c = record { rolling = c.requires; t_value = sym c.oldest_lapsed.ensures ∙ c.if-oldest_lapsed.true }

pub oldest_has-requires : goal.oldest_has-requires
oldest_has-requires c = record { rolling = c.requires; t_value = sym c.oldest_lapsed.ensures ∙ c.if-oldest_lapsed.false }
