-- `book::check::judge` meets its contract. Assumes nothing.
use mathlib.Core.Path.{sym, ◌∙◌}
use Rattle.std.proofs.lemmas.Result.{err_from_is_err_and}
use Rattle.book.proofs.Judges.{wrong_rows, wrong_links, wrong_uses, nothing_wrong}
use Rattle.book.proofs.check.judge.Goals as goal

pub returns-in_err-judge_rows : goal.returns-in_err-judge_rows
returns-in_err-judge_rows c =
    let p = err_from_is_err_and c.from_residual.result c.from_residual.ensures.1 in
    rw (p.1, p.2) (wrong_rows _ _ c.in_err-judge_rows.ensures)

pub returns-then-not-are_linked : goal.returns-then-not-are_linked
returns-then-not-are_linked c = wrong_links _ c.in_ok-judge_rows.ensures (sym c.are_linked.ensures ∙ c.if-not-are_linked.true)

pub are_used_once-requires : goal.are_used_once-requires
are_used_once-requires c = record { few = c.requires; links = sym c.are_linked.ensures ∙ c.if-not-are_linked.false }

pub returns-then-not-are_used_once : goal.returns-then-not-are_used_once
returns-then-not-are_used_once c =
    wrong_uses _ c.in_ok-judge_rows.ensures (sym c.are_linked.ensures ∙ c.if-not-are_linked.false) (sym c.are_used_once.ensures ∙ c.if-not-are_used_once.true)

pub returns : goal.returns
returns c =
    nothing_wrong _ c.in_ok-judge_rows.ensures (sym c.are_linked.ensures ∙ c.if-not-are_linked.false) (sym c.are_used_once.ensures ∙ c.if-not-are_used_once.false)
