use mathlib.Core.Path.{refl}
use native.Mathlib.Omega.{arith}
use Rattle.std.proofs.lemmas.Result.{err_from_is_err_and}
use Rattle.numbers.proofs.Refused.{never_0}
use Rattle.book.proofs.Rows.{first_start, first_more, first_at, temporals_start, temporals_more}
use Rattle.book.proofs.Accepted.{temporals_few}
use Rattle.book.proofs.check.judge_rows.Goals as goal

pub loop-row-init : goal.loop-row-init
loop-row-init c = (temporals_start _, first_start _)

pub returns-in_err-judge_row : goal.returns-in_err-judge_row
returns-in_err-judge_row c =
    let p = err_from_is_err_and c.from_residual.result c.from_residual.ensures.1 in
    rw (p.1, p.2) (first_at _ _ _ _ c.loop-row.invariant.1 c.in_err-judge_row.ensures (never_0 _) (omega arith))

pub overflow_add-temporals : goal.overflow_add-temporals
overflow_add-temporals c = record {
  fits = omega (arith, temporals_more _ _ _ _ c.loop-row.invariant.0 c.from-temporals.ensures c.is_temporal.ensures, temporals_few _ _ (first_more _ _ _ c.loop-row.invariant.1 c.in_ok-judge_row.ensures refl));
}

pub loop-row-preserved : goal.loop-row-preserved
loop-row-preserved c =
    (temporals_more _ _ _ _ c.loop-row.invariant.0 c.from-temporals.ensures c.is_temporal.ensures, first_more _ _ _ c.loop-row.invariant.1 c.in_ok-judge_row.ensures refl)
