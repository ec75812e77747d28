-- `book::kind::Kind::of_word` meets its contract. Assumes nothing.
use mathlib.Core.Path.{◌∙◌}
use Rattle.book.proofs.KindWords.{said_kind}
use Rattle.book.proofs.kind.Kind.of_word.Goals as goal

pub returns : goal.returns
returns c = c.unwrap_or.ensures ∙ said_kind _ _ c.try_from.ensures
