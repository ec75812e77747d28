-- `memory::row_kind` meets its contract. Assumes nothing.
use mathlib.Core.Path.{ap, ◌∙◌}
use Rattle.book.specs.Kinds.{word_of_kind, kind_of_word}
use Rattle.memory.proofs.KindWords.{word_back}
use Rattle.memory.proofs.row_kind.Goals as goal

pub returns : goal.returns
returns c =
    let e = c.of_word.ensures ∙ ap kind_of_word c.kind_at.ensures in
    (e, λ h. ap word_of_kind e ∙ word_back _ h)
