-- `tables::least_until` meets its contract. Assumes nothing.
use Prim.Native.Nat.{ℕ, min, ◌+◌}
use mathlib.Core.Path.{◌≡◌, sym, ap, ap₂, ◌∙◌}
use native.Mathlib.Omega.{arith}
use Rattle.memory.specs.Memory.{temporals}
use Rattle.tables.proofs.Until.{least_to, least_none, least_more, until_all, until_now}
use Rattle.tables.proofs.least_until.Goals as goal

pub loop-slot-init : goal.loop-slot-init
loop-slot-init c = let small = c.requires.clock in let e = c.clock-clock.ensures in (sym (least_none c.args.monitor.now), omega arith)

pub returns-then-least-clock : goal.returns-then-least-clock
returns-then-least-clock c =
    let l = c.loop-slot in
    let n = c.temporal_count-count.ensures in
    let at = c.clock-clock.ensures in
    let is = c.min-least.ensures ∙ ap₂ (λ (a u : ℕ). min a u) l.invariant.0 c.until_at.ensures ∙ sym (least_more c.args.monitor.now l.slot) in
    at ∙ until_now c.requires (l.slot + 1) (omega arith) (omega (arith, is, c.if-least-clock.true))

pub loop-slot-preserved : goal.loop-slot-preserved
loop-slot-preserved c =
    let l = c.loop-slot in
    let is = c.min-least.ensures ∙ ap₂ (λ (a u : ℕ). min a u) l.invariant.0 c.until_at.ensures ∙ sym (least_more c.args.monitor.now l.slot) in
    (is, omega arith)

pub returns : goal.returns
returns c =
    let l = c.loop-slot in
    let e : l.slot ≡ temporals c.args.monitor.now = let n = c.temporal_count-count.ensures in omega arith in
    let at = c.clock-clock.ensures in
    until_all c.requires (l.invariant.0 ∙ ap (least_to c.args.monitor.now) e) (omega (arith, l.invariant.1))
