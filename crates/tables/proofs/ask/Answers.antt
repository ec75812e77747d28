-- `tables::ask` meets its contract. Assumes nothing.
use native.Mathlib.Omega.{arith}
use mathlib.Core.Path.{ap, ◌∙◌}
use Rattle.tables.proofs.Asks.{asked_to, asked_none, asked_sound, asked_inside, asked_few, asked_more, asked_kept, asked_all}
use Rattle.tables.proofs.ask.Goals.{then-reached, else-reached}
use Rattle.tables.proofs.ask.Goals as goal

pub loop-i-init : goal.loop-i-init
loop-i-init c = asked_none c.requires c.args.news.first c.args.news.end

pub reached-requires : goal.reached-requires
reached-requires c = let l = c.loop-i in let e = c.property_count-i-end.ensures in asked_few c.requires c.args.news.first c.args.news.end l.i l.invariant (omega arith) c.property_row-row.ensures

pub valuation-early-requires : goal.valuation-early-requires
valuation-early-requires c =
    let l = c.loop-i in
    let e = c.property_count-i-end.ensures in
    record { book_kept = (asked_sound c.requires c.args.news.first c.args.news.end l.i l.invariant).book; row_bound = asked_inside c.requires c.args.news.first c.args.news.end l.i l.invariant (omega arith) c.property_row-row.ensures }

pub settled_now-settled-requires : goal.settled_now-settled-requires
settled_now-settled-requires c =
    let l = c.loop-i in
    let e = c.property_count-i-end.ensures in
    record { book_kept = (asked_sound c.requires c.args.news.first c.args.news.end l.i l.invariant).book; row_bound = asked_inside c.requires c.args.news.first c.args.news.end l.i l.invariant (omega arith) c.property_row-row.ensures }

pub loop-i-preserved : goal.loop-i-preserved
loop-i-preserved c =
    let l = c.loop-i in
    let e = c.property_count-i-end.ensures in
    elim c.if-reached.branch [
      | then-reached w ↦ w.monitor-is ∙ asked_more c.requires c.args.news.first c.args.news.end l.i l.invariant (omega arith) c.property_row-row.ensures c.reached.ensures w.if-reached.true w.valuation-early.ensures w.settled_now-settled.ensures (w.from.ensures ∙ w.digit.ensures) (w.from-then-reached.ensures ∙ w.digit-then-reached.ensures)
      | else-reached w ↦ w.monitor-is ∙ asked_kept c.requires c.args.news.first c.args.news.end l.i l.invariant (omega arith) c.property_row-row.ensures c.reached.ensures w.if-reached.false
    ]

pub returns : goal.returns
returns c = c.loop-i.invariant ∙ ap (asked_to c.args.monitor.now c.args.news.first c.args.news.end) (let e = c.property_count-i-end.ensures in omega arith) ∙ asked_all c.requires c.args.news.first c.args.news.end
