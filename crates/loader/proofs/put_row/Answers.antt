-- `loader::put_row` meets its contract. Assumes nothing.
use Rattle.loader.proofs.Puts.{temporals_same, temporals_more, slot_fits, row_plain, row_temporal}
use mathlib.Core.Path.{sym, ap, ◌∙◌}
use Prim.Native.Nat.{ℕ, ◌+◌}
use native.Mathlib.Omega.{arith}
use Rattle.loader.proofs.put_row.Goals as goal

pub returns-then-kind_in-word : goal.returns-then-kind_in-word
returns-then-kind_in-word c =
    let ws = c.args.given.now in
    let q = rw (c.kind_in.ensures, c.word.ensures) at c.if-kind_in-word.true in
    (c.requires.start_value.1 ∙ sym (temporals_same ws c.args.row q), row_plain ws c.args.monitor.now _ c.args.row c.args.start c.requires.start_value.0 q c.put_words.ensures)

pub overflow_add-monitor : goal.overflow_add-monitor
overflow_add-monitor c =
    let q = rw (c.kind_in.ensures, c.word.ensures) at c.if-kind_in-word.false in
    let b = slot_fits c.args.given.now c.args.row _ c.requires.row_in_bounds.0 q in
    let f = c.requires.rowed.temporals_few in
    let e = c.requires.start_value.1 in
    omega arith

pub offset_bounds-monitor-slot : goal.offset_bounds-monitor-slot
offset_bounds-monitor-slot c =
    let q = rw (c.kind_in.ensures, c.word.ensures) at c.if-kind_in-word.false in
    let b = slot_fits c.args.given.now c.args.row _ c.requires.row_in_bounds.0 q in
    let f = c.requires.rowed.temporals_few in
    let e = c.requires.start_value.1 in
    omega arith

pub bounds-monitor-slot : goal.bounds-monitor-slot
bounds-monitor-slot c =
    let q = rw (c.kind_in.ensures, c.word.ensures) at c.if-kind_in-word.false in
    let b = slot_fits c.args.given.now c.args.row _ c.requires.row_in_bounds.0 q in
    let f = c.requires.rowed.temporals_few in
    let e = c.requires.start_value.1 in
    let k = c.put_words-2.auto in
    let size = c.requires.row_in_bounds.1 in
    omega arith

pub overflow_add-result : goal.overflow_add-result
overflow_add-result c =
    let q = rw (c.kind_in.ensures, c.word.ensures) at c.if-kind_in-word.false in
    let b = slot_fits c.args.given.now c.args.row _ c.requires.row_in_bounds.0 q in
    let f = c.requires.rowed.temporals_few in
    let e = c.requires.start_value.1 in
    omega arith

pub returns : goal.returns
returns c =
    let ws = c.args.given.now in
    let q = rw (c.kind_in.ensures, c.word.ensures) at c.if-kind_in-word.false in
    (ap (λ (x : ℕ). x + 1) c.requires.start_value.1 ∙ sym (temporals_more ws c.args.row q), row_temporal ws c.args.monitor.now _ c.args.row c.args.start c.requires.start_value.0 c.args.slot c.requires.start_value.1 q c.put_words-2.ensures)
