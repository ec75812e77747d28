-- `planning::note_mode` meets its contract: with room and without. Assumes nothing.
use mathlib.Core.Path.{refl}
use Rattle.std.proofs.lemmas.Result.{err_from_is_err_and}
use Rattle.planning.proofs.Tries.{noted_temporal, noted_none}
use Rattle.planning.proofs.note_mode.Goals as goal

pub returns-in_err-plan : goal.returns-in_err-plan
returns-in_err-plan c =
    let r = c.requires in
    let p = err_from_is_err_and c.from_residual.result c.from_residual.ensures.1 in
    rw (p.1, p.2) (noted_none r.timely r.row_bound.3 r.row_bound.0 r.row_bound.1 c.slot_at-slot.ensures refl c.plan_row.ensures c.in_err-plan.was)

pub returns : goal.returns
returns c =
    let r = c.requires in
    noted_temporal r.timely r.row_bound.3 r.row_bound.0 r.row_bound.1 c.slot_at-slot.ensures refl c.plan_row.ensures c.in_ok-plan.was
