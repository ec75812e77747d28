use Rattle.loader.proofs.Puts.{put_none, put_more, arg_good_lem, start_fits}
use Rattle.loader.proofs.Forms.{reach_small}
use mathlib.Core.Path.{◌∙◌}
use native.Mathlib.Omega.{arith}
use Rattle.loader.proofs.put_rows.Goals as goal

pub loop-row-init : goal.loop-row-init
loop-row-init c = (c.requires.monitor_len, put_none c.args.given.now c.args.monitor.now)

pub overflow_add-start : goal.overflow_add-start
overflow_add-start c =
    let f = start_fits _ _ c.requires.rowed c.loop-row.invariant.1 c.loop-row-test.true c.kind_in-kind.ensures c.arg_in-arg.ensures _ c.taken_by-start.ensures in
    omega arith

pub wider-width-requires : goal.wider-width-requires
wider-width-requires c =
    reach_small _ _ (arg_good_lem _ _ c.requires.rowed c.loop-row.invariant.1 c.loop-row-test.true c.kind_in-kind.ensures c.arg_in-arg.ensures)

pub loop-row-preserved : goal.loop-row-preserved
loop-row-preserved c =
    let l = c.loop-row in
    let n = c.put_row-slot in
    (n.auto.monitor ∙ l.invariant.0, put_more _ _ _ _ l.invariant.1 c.kind_in-kind.ensures c.arg_in-arg.ensures n.ensures.0 n.ensures.1 c.taken_by-start.ensures c.wider-width.ensures)
