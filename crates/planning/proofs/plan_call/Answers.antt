use mathlib.Core.Path.{refl, sym, ◌∙◌}
use Prim.Native.Nat.{◌<◌}
use native.Mathlib.Omega.{arith}
use Rattle.std.proofs.lemmas.Result.{err_from_is_err_and}
use Rattle.memory.specs.Memory.{row_count}
use Rattle.planning.proofs.Plans.{going_sound, going_count, going_leads, going_more, going_full, going_done, leads_in, planned_over}
use Rattle.planning.proofs.Looks.{fresh_named, visited_named, visited_same}
use Rattle.planning.proofs.Spared.{spared_turned, going_on, going_bit, spared_on}
use Rattle.planning.proofs.plan_call.Goals.{In-loop-row, then-visits+in_ok-try_row+then-branch, then-visits+in_ok-try_row+else-branch, else-visits}
use Rattle.planning.proofs.plan_call.Goals as goal

pub visits-requires : goal.visits-requires
visits-requires c =
    let l = c.loop-row in
    let e = c.row_count-row-end.ensures in
    let h = c.loop-row-test.true in
    let f = c.requires.sound.0.book.few in
    (omega arith, λ z. fresh_named c.requires.sound.0 l.invariant.0 (omega arith) c.args.atoms.now (c.requires.modes_len.1 z))

pub try_row-requires-clause-timely : goal.try_row-requires-clause-timely
try_row-requires-clause-timely c =
    let leads = leads_in c.args.fresh c.counts_stretch-spans.ensures c.requires.sound.2 in
    record { sound = going_sound c.requires.sound.0 c.requires.sound.1 leads c.loop-row.invariant.0; clock = c.requires.sound.1 }

pub try_row-requires-clause-row_bound : goal.try_row-requires-clause-row_bound
try_row-requires-clause-row_bound c =
    let l = c.loop-row in
    let g = l.invariant.0 in
    let s = c.requires.sound in
    let e = c.row_count-row-end.ensures in
    let h = c.loop-row-test.true in
    let leads = leads_in c.args.fresh c.counts_stretch-spans.ensures s.2 in
    (let n = going_count s.0 s.1 leads g in omega arith, g.modes_long, visited_named s.0 g (omega arith) l.changed c.args.fresh c.args.atoms.now (λ z. (s.2 z).0) c.requires.modes_len.1 (sym c.visits.ensures ∙ c.if-visits.true), going_leads s.0 s.1 leads g (omega arith))

pub try_row-requires-clause-bit : goal.try_row-requires-clause-bit
try_row-requires-clause-bit c =
    let l = c.loop-row in
    let e = c.row_count-row-end.ensures in
    let h = c.loop-row-test.true in
    going_bit c.requires.sound.0 (omega arith) c.args.fresh l.invariant.0 c.requires.sound.2 c.requires.founded

pub returns-in_err-try_row-clause-planned : goal.returns-in_err-try_row-clause-planned
returns-in_err-try_row-clause-planned c =
    let l = c.loop-row in
    let g = l.invariant.0 in
    let s = c.requires.sound in
    let e = c.row_count-row-end.ensures in
    let h = c.loop-row-test.true in
    let k = c.counts_stretch-spans.ensures in
    let p = err_from_is_err_and c.from_residual.result c.from_residual.ensures.1 in
    rw p.1 (planned_over k (going_full s.0 s.1 (leads_in c.args.fresh k s.2) g (omega arith) (visited_same s.0 g (omega arith) l.changed c.args.fresh c.args.atoms.now (λ z. (s.2 z).0) refl (sym c.visits.ensures ∙ c.if-visits.true)) c.in_err-try_row.ensures refl))

pub loop-row-preserved : goal.loop-row-preserved
loop-row-preserved c =
    let l = c.loop-row in
    let g = l.invariant.0 in
    let u = l.invariant.1 in
    let low = l.invariant.2 in
    let spared = l.invariant.3 in
    let s = c.requires.sound in
    let e = c.row_count-row-end.ensures in
    let h = c.loop-row-test.true in
    let k = c.counts_stretch-spans.ensures in
    let leads = leads_in c.args.fresh k s.2 in
    let inside : l.row < row_count c.args.monitor.now = omega arith in
    elim c.if-visits.branch [
      | then-visits+in_ok-try_row+then-branch w ↦
          rw (w.monitor-is, w.modes-is, w.changed-is)
          (going_more s.0 s.1 leads g inside (visited_same s.0 g inside l.changed c.args.fresh c.args.atoms.now (λ z. (s.2 z).0) refl (sym c.visits.ensures ∙ w.if-visits.true)) w.in_ok-try_row.ensures refl, u, omega arith, λ z. spared_turned _ _ _ _)
      | then-visits+in_ok-try_row+else-branch w ↦
          rw (w.monitor-is, w.modes-is, w.changed-is)
          (going_more s.0 s.1 leads g inside (visited_same s.0 g inside l.changed c.args.fresh c.args.atoms.now (λ z. (s.2 z).0) refl (sym c.visits.ensures ∙ w.if-visits.true)) w.in_ok-try_row.ensures refl, u, low, spared_on s.0 inside c.args.fresh k c.args.atoms.now g s.1 s.2 w.in_ok-try_row.ensures w.if-branch.false spared)
      | else-visits w ↦
          let on = going_on s.0 inside c.args.fresh k c.args.atoms.now g s.2 c.requires.founded l.changed (omega (arith, low, u)) spared (sym c.visits.ensures ∙ w.if-visits.false) in
          rw (w.monitor-is, w.modes-is, w.changed-is) (on.0, u, low, on.1)
    ]

pub returns-clause-planned : goal.returns-clause-planned
returns-clause-planned c =
    let l = c.loop-row in
    let s = c.requires.sound in
    let e = c.row_count-row-end.ensures in
    let k = c.counts_stretch-spans.ensures in
    planned_over k (going_done s.0 s.1 (leads_in c.args.fresh k s.2) l.invariant.0 (let t = c.loop-row-test.false in let b = l.auto.row-end in omega arith))
