use mathlib.Core.Logic.{⊎_elim}
use Rattle.desk.proofs.Kits.{no_kit_lem, too_many_kits}
use Rattle.desk.proofs.given.judge.Goals as goal

pub returns-then-count-gt-MOST_KITS : goal.returns-then-count-gt-MOST_KITS
returns-then-count-gt-MOST_KITS c = ⊎_elim (λ e. no_kit_lem _ _ e) (λ p. too_many_kits _ _ p.1) c.if-count-gt-MOST_KITS.either
