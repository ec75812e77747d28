use native.Mathlib.Omega.{arith}
use Rattle.loader.proofs.Nested.{flat_start, flat_more, flat_stop, flat_done}
use Rattle.loader.proofs.flat.is_flat.Goals as goal

pub loop-row-init : goal.loop-row-init
loop-row-init c = flat_start _

pub returns-then-is_nested : goal.returns-then-is_nested
returns-then-is_nested c =
    let t = c.loop-row-test.true in
    flat_stop c.args.monitor.now _ (omega (arith, c.row_count-row-end.ensures)) c.is_nested.ensures c.if-is_nested.true

pub loop-row-preserved : goal.loop-row-preserved
loop-row-preserved c =
    let t = c.loop-row-test.true in
    flat_more c.args.monitor.now _ (omega (arith, c.row_count-row-end.ensures)) c.is_nested.ensures c.if-is_nested.false c.loop-row.invariant

pub returns : goal.returns
returns c = let t = c.loop-row-test.false in flat_done c.args.monitor.now (omega (arith, c.row_count-row-end.ensures)) c.loop-row.invariant
