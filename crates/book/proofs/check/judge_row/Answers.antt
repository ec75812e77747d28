-- `book::check::judge_row` meets its contract. Assumes nothing.
use mathlib.Core.Path.{sym, ◌∙◌}
use native.Mathlib.Omega.{arith}
use Rattle.std.proofs.lemmas.Result.{err_from_is_err_and}
use Rattle.book.proofs.Forms.{in_form, in_range_lem, no_room, in_room, no_kind}
use Rattle.book.proofs.check.judge_row.Goals as goal

pub returns-in_err-kind : goal.returns-in_err-kind
returns-in_err-kind c =
    let p = err_from_is_err_and c.from_residual.result c.from_residual.ensures.1 in
    rw (p.1, p.2, c.in_err-kind.ensures.0) (no_kind _ _ _ c.kind_in.ensures c.in_err-kind.ensures.1)

pub returns-then-not-has_form : goal.returns-then-not-has_form
returns-then-not-has_form c =
    in_form _ _ _ _ _ _ (c.in_ok-kind.ensures ∙ c.kind_in.ensures) c.arg_in.ensures c.lower_in-lower.ensures c.upper_in-upper.ensures (sym c.has_form.ensures ∙ c.if-not-has_form.true)

pub returns-then-not-is_range : goal.returns-then-not-is_range
returns-then-not-is_range c =
    in_range_lem _ _ _ _ _ _ (c.in_ok-kind.ensures ∙ c.kind_in.ensures) c.arg_in.ensures c.lower_in-lower.ensures c.upper_in-upper.ensures (sym c.has_form.ensures ∙ c.if-not-has_form.false)
    (sym c.is_range.ensures ∙ c.if-not-is_range.true)

pub returns-then-temporals-ge-MOST_TEMPORALS : goal.returns-then-temporals-ge-MOST_TEMPORALS
returns-then-temporals-ge-MOST_TEMPORALS c =
    no_room _ _ _ _ _ _ (c.in_ok-kind.ensures ∙ c.kind_in.ensures) c.arg_in.ensures c.lower_in-lower.ensures c.upper_in-upper.ensures (sym c.has_form.ensures ∙ c.if-not-has_form.false)
    (sym c.is_range.ensures ∙ c.if-not-is_range.false) c.requires.1 c.is_temporal.ensures c.if-is_temporal.true (omega arith)

pub returns : goal.returns
returns c =
    in_room _ _ _ _ _ _ (c.in_ok-kind.ensures ∙ c.kind_in.ensures) c.arg_in.ensures c.lower_in-lower.ensures c.upper_in-upper.ensures (sym c.has_form.ensures ∙ c.if-not-has_form.false)
    (sym c.is_range.ensures ∙ c.if-not-is_range.false) c.requires.1 c.is_temporal.ensures c.else-is_temporal.either
