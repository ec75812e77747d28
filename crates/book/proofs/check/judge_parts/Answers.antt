-- `book::check::judge_parts` meets its contract. Assumes nothing.
use mathlib.Core.Path.{sym, ap, subst, ◌∙◌}
use Rattle.book.specs.Private.{Few}
use Rattle.book.specs.Judging.{judged}
use Rattle.book.proofs.Sections.{sections_are}
use Rattle.book.proofs.Placing.{parts_few}
use Rattle.book.proofs.check.judge_parts.Goals as goal

pub judge-requires : goal.judge-requires
judge-requires c =
    subst Few
    (sym (sections_are c.rows_part.ensures c.operands_part.ensures c.assumes_part.ensures c.guarantees_part.ensures))
    (parts_few _ _ _ _ _ c.requires)

pub returns : goal.returns
returns c =
    c.judge.ensures
    ∙ ap judged (sections_are c.rows_part.ensures c.operands_part.ensures c.assumes_part.ensures c.guarantees_part.ensures)
