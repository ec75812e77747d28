use mathlib.Core.Path.{◌∙◌}
use mathlib.Core.Logic.{⊎_elim}
use Rattle.desk_lines.proofs.Steps.{no_kits, too_many_kits, kits_counted}
use Rattle.desk_lines.proofs.count_heard.Goals as goal

pub returns-then-count-gt-MOST_KITS : goal.returns-then-count-gt-MOST_KITS
returns-then-count-gt-MOST_KITS c = c.closed_by.ensures ∙ ⊎_elim (λ e. no_kits _ e) (λ p. too_many_kits _ p.1) c.if-count-gt-MOST_KITS.either

pub returns-else-count-gt-MOST_KITS : goal.returns-else-count-gt-MOST_KITS
returns-else-count-gt-MOST_KITS c = let h = c.if-count-gt-MOST_KITS.false in kits_counted _ h.0 h.1
