-- `book::strict::first_excess` meets its contract. Assumes nothing.
use mathlib.Core.Path.{◌∙◌}
use Rattle.numbers.proofs.Refused.{never_0}
use Rattle.book.proofs.Excess.{excess_refused}
use Rattle.book.proofs.strict.first_excess.Goals as goal

pub returns-in_default : goal.returns-in_default
returns-in_default c = excess_refused _ _ (λ z. never_0 _ (c.in_default.ensures.number ∙ z))
