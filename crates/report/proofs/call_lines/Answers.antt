use native.Mathlib.Omega.{arith}
use Rattle.text.proofs.Digits.{from_zero, inside}
use Rattle.buffer_writer.proofs.Writes.{same_bytes}
use Rattle.report.proofs.Lasting.{line_said}
use Rattle.report.proofs.Going.{go_start, go_called, go_more, go_stop, go_end}
use Rattle.report.proofs.call_lines.Goals as goal

pub loop-done-init : goal.loop-done-init
loop-done-init c = (go_start _ _ _ _ _ _ c.requires, from_zero)

pub call-requires : goal.call-requires
call-requires c = c.loop-done.invariant.0.kept

pub returns-in-Err : goal.returns-in-Err
returns-in-Err c = go_stop c.loop-done.invariant.0 _ _ c.in-Err.ensures c.loop-done-test.true (rw c.number.ensures at c.stopped.ensures)

pub count_up-first-requires : goal.count_up-first-requires
count_up-first-requires c = (c.loop-done.invariant.1, let h = c.loop-done-test.true in let few = c.ranges.count.fits in omega (arith, h, few))

pub put_call-at-requires : goal.put_call-at-requires
put_call-at-requires c = ((go_called c.loop-done.invariant.0 _ _ c.in-Ok.ensures).called.kept, inside c.count_up-first.ensures, c.count_up-first.ensures.size)

pub loop-done-preserved : goal.loop-done-preserved
loop-done-preserved c =
    let l = c.loop-done in
    let counted = c.count_up-first.ensures in
    let made = go_called l.invariant.0 _ _ c.in-Ok.ensures in
    let line = same_bytes (rw c.refused_with.ensures at c.put_call-at.ensures) (line_said made.called.kept _ _ counted.digits) in
    (go_more l.invariant.0 made c.loop-done-test.true line c.put_call-at.auto.out, counted)

pub last-requires : goal.last-requires
last-requires c = c.loop-done.invariant.0.kept

pub returns : goal.returns
returns c = go_end c.loop-done.invariant.0 c.loop-done-test.false c.last.ensures
