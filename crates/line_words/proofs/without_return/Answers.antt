use mathlib.Core.Path.{refl}
use Rattle.line_words.proofs.Lines.{stripped}
use Rattle.line_words.proofs.without_return.Goals as goal

pub returns : goal.returns
returns c = stripped _ _ _ _ c.strip_suffix.ensures.cases c.unwrap_or.ensures refl
