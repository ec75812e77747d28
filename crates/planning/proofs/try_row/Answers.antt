-- `planning::try_row` meets its contract: a row that is not temporal, and one that is. Assumes nothing.
use native.Mathlib.Omega.{arith}
use Rattle.planning.proofs.Tries.{tried_plain, tried_temporal}
use Rattle.planning.proofs.try_row.Goals as goal

pub returns-then-kind-word : goal.returns-then-kind-word
returns-then-kind-word c =
    let r = c.requires in
    let k = c.kind_at-kind.ensures in
    let w = c.word.ensures in
    let low = c.if-kind-word.true in
    tried_plain r.timely r.row_bound.3 r.row_bound.0 (omega arith) c.args.atoms.now c.plain_value-value.ensures c.put_value.ensures

pub returns : goal.returns
returns c =
    let r = c.requires in
    let k = c.kind_at-kind.ensures in
    let w = c.word.ensures in
    let high = c.if-kind-word.false in
    tried_temporal r.timely r.row_bound.3 r.row_bound.0 (omega arith) (omega (arith, (r.timely.sound.book.rows _ r.row_bound.0).kind)) c.args.atoms.now (rw (← c.in_ok-here.was) c.note_mode.ensures) k c.temporal_value-value.ensures c.put_value-2.ensures
