-- `tables::retell` meets its contract. Assumes nothing.
use Prim.Native.Nat.{max}
use mathlib.Core.Path.{◌≡◌, refl, ap, ◌∙◌}
use native.Mathlib.Omega.{arith}
use Rattle.memory.specs.Memory.{temporals}
use Rattle.tables.proofs.Fullest.{max_is}
use Rattle.tables.proofs.Puts.{few_sets, telling_start, telling_sound, telling_owner, telling_same, telling_new, telling_counted, telling_news, telling_some}
use Rattle.tables.proofs.retell.Goals.{then-told_at-new, else-told_at-new}
use Rattle.tables.proofs.retell.Goals as goal

pub loop-slot-init : goal.loop-slot-init
loop-slot-init c = telling_start c.args.monitor.now

pub standing-requires : goal.standing-requires
standing-requires c = let l = c.loop-slot in let e = c.temporal_count-count.ensures in let f = few_sets c.requires in rw c.set_at-set.ensures ((telling_sound c.requires l.invariant).sets l.slot (omega arith))

pub count-requires : goal.count-requires
count-requires c = let l = c.loop-slot in let e = c.temporal_count-count.ensures in let f = few_sets c.requires in rw c.set_at-set.ensures ((telling_sound c.requires l.invariant).sets l.slot (omega arith))

pub overflow_add-end : goal.overflow_add-end
overflow_add-end c = let l = c.loop-slot in let e = c.temporal_count-count.ensures in let f = telling_owner c.requires l.invariant (omega arith) c.owner_at-row.ensures in omega arith

pub loop-slot-preserved : goal.loop-slot-preserved
loop-slot-preserved c =
    let l = c.loop-slot in
    let n = c.temporal_count-count.ensures in
    let new = c.word-new.ensures ∙ c.standing.ensures in
    let most = c.max-most.ensures ∙ max_is l.most c.count.result ∙ ap (max l.most) c.count.ensures in
    elim c.if-told_at-new.branch [
      | then-told_at-new w ↦ rw (w.monitor-is, w.first-is, w.end-is) (telling_new c.requires l.invariant (omega arith) c.clock-clock.ensures c.set_at-set.ensures new most c.told_at.ensures w.if-told_at-new.true w.owner_at-row.ensures w.min-first.ensures refl)
      | else-told_at-new w ↦ rw (w.monitor-is, w.first-is, w.end-is) (telling_same c.requires l.invariant (omega arith) c.clock-clock.ensures c.set_at-set.ensures new most c.told_at.ensures w.if-told_at-new.false)
    ]

pub returns-then-end-eq0 : goal.returns-then-end-eq0
returns-then-end-eq0 c =
    let e : c.loop-slot.slot ≡ temporals c.args.monitor.now = let n = c.temporal_count-count.ensures in omega arith in
    (telling_counted c.requires c.loop-slot.invariant e, telling_news c.requires c.loop-slot.invariant e c.if-end-eq0.true)

pub returns : goal.returns
returns c =
    let e : c.loop-slot.slot ≡ temporals c.args.monitor.now = let n = c.temporal_count-count.ensures in omega arith in
    (telling_counted c.requires c.loop-slot.invariant e, telling_some c.requires c.loop-slot.invariant e c.if-end-eq0.false)
