-- `report::text_calls::call` meets its contract. Assumes nothing.
use mathlib.Core.Path.{sym}
use Rattle.std.proofs.lemmas.Result.{err_from_is_err_and}
use Rattle.report.specs.Private.{Turned}
use Rattle.report.proofs.Turns.{no_kind, other_kind, turned_kind}
use Rattle.report.proofs.text_calls.call.Goals as goal

pub returns-in_err-word : goal.returns-in_err-word
unfolding Turned
returns-in_err-word c =
    let p = err_from_is_err_and c.from_residual.result c.from_residual.ensures.1 in
    rw (p.1, p.2) (no_kind _ _ (sym c.in_err-word.ensures))

pub returns-in_err-kind : goal.returns-in_err-kind
unfolding Turned
returns-in_err-kind c =
    let p = err_from_is_err_and c.from_residual-in_err-kind.result c.from_residual-in_err-kind.ensures.1 in
    let none = c.in_err-kind.ensures in
    rw (p.1, p.2, none.0) (other_kind _ _ (sym c.in_ok-word.ensures) none.1)

pub returns : goal.returns
returns c = turned_kind _ _ (sym c.in_ok-word.ensures) c.in_ok-kind.ensures _ _ _ c.kind_call.ensures
