use Rattle.std.proofs.Common.{arith}
use Rattle.text.proofs.Digits.{count_start, count_more, count_done}
use Rattle.text.proofs.decimals.places.Goals as goal

pub loop-rest-init : goal.loop-rest-init
loop-rest-init c = count_start _

pub overflow_add-count : goal.overflow_add-count
overflow_add-count c = omega (arith, c.loop-rest.invariant.low)

pub loop-rest-preserved : goal.loop-rest-preserved
loop-rest-preserved c = count_more c.loop-rest.invariant c.loop-rest-test.true

pub returns : goal.returns
returns c = count_done c.loop-rest.invariant c.loop-rest-test.false
