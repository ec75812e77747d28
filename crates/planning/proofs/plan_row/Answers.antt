-- `planning::plan_row` meets its contract: the set stays, or what becomes of it is found. Assumes nothing.
use Rattle.planning.proofs.Plans.{slot_small, slot_row, slot_kind, slot_bounded, slot_good, plan_made, plan_stays}
use mathlib.Core.Path.{ap, ◌∙◌}
use Prim.Native.Nat.{ℕ}
use Rattle.set_change.specs.Change.{spanned_if, both_of}
use Rattle.planning.proofs.plan_row.Goals as goal

pub mode_of-requires : goal.mode_of-requires
mode_of-requires c = let p = c.requires in record { book_kept = p.timely.sound.book; row_bound = (slot_row p, slot_kind p) }

pub set_at-set-requires : goal.set_at-set-requires
set_at-set-requires c = slot_small c.requires

pub contains-here-requires : goal.contains-here-requires
contains-here-requires c = slot_good c.requires c.set_at-set.ensures

pub returns-then-mode-eq-STAYS : goal.returns-then-mode-eq-STAYS
returns-then-mode-eq-STAYS c = plan_stays c.requires c.set_at-set.ensures c.if-mode-eq-STAYS.true c.contains-here.ensures (c.next-mode.ensures ∙ ap (λ (k : ℕ). spanned_if c.args.spans (both_of c.args.before k)) c.mode_of.ensures)

pub start_of-start-requires : goal.start_of-start-requires
start_of-start-requires c = slot_bounded c.requires

pub stop_of-stop-requires : goal.stop_of-stop-requires
stop_of-stop-requires c = slot_bounded c.requires

pub look_ahead-ahead-requires : goal.look_ahead-ahead-requires
look_ahead-ahead-requires c = let p = c.requires in slot_good p c.set_at-set.ensures

pub returns-then-ahead : goal.returns-then-ahead
returns-then-ahead c = rw c.if-ahead.true at (plan_made c.requires c.set_at-set.ensures c.start_of-start.ensures c.stop_of-stop.ensures c.look_ahead-ahead.ensures.1 c.look_ahead-ahead.ensures.0 (c.next-mode.ensures ∙ ap (λ (k : ℕ). spanned_if c.args.spans (both_of c.args.before k)) c.mode_of.ensures))

pub returns : goal.returns
returns c = rw c.if-ahead.false at (plan_made c.requires c.set_at-set.ensures c.start_of-start.ensures c.stop_of-stop.ensures c.look_ahead-ahead.ensures.1 c.look_ahead-ahead.ensures.0 (c.next-mode.ensures ∙ ap (λ (k : ℕ). spanned_if c.args.spans (both_of c.args.before k)) c.mode_of.ensures))
