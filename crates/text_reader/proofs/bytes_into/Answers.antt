use Rattle.std.proofs.Common.{sym, arith}
use Rattle.std.proofs.lemmas.Result.{err_from_is_err_and}
use Rattle.text_reader.specs.Reads.{BytesRead}
use Rattle.text_reader.proofs.Taking.{turn_told, room_kept, turn_more, turn_stop, turn_done}
use Rattle.text_reader.proofs.bytes_into.Goals as goal

pub overflow_mul-next : goal.overflow_mul-next
overflow_mul-next c = let b = c.bits-told.ensures in omega (arith, b.within)

pub overflow_add-next : goal.overflow_add-next
overflow_add-next c = let b = c.bits-told.ensures in omega (arith, b.within)

pub loop-i-init : goal.loop-i-init
loop-i-init c = turn_told c.bits-told.ensures

pub returns-in_err-word : goal.returns-in_err-word
unfolding BytesRead
returns-in_err-word c =
    let p = err_from_is_err_and c.from_residual.result c.from_residual.ensures.1 in
    rw (p.1, p.2) (turn_stop c.loop-i.invariant (sym c.in_err-word.ensures) c.loop-i-test.true)

pub loop-i-preserved : goal.loop-i-preserved
loop-i-preserved c = turn_more c.loop-i.invariant (sym c.in_ok-word.ensures) c.byte_of.ensures c.loop-i-test.true (room_kept c.requires c.bits-told.auto.bytes)

pub returns : goal.returns
unfolding BytesRead
returns c = turn_done c.loop-i.invariant c.loop-i-test.false
