use Rattle.std.proofs.Common.{arith}
use Rattle.text_reader.proofs.Taking.{all_start, all_more, all_done, tell_none}
use Rattle.text_reader.proofs.bits_into.Goals as goal

pub loop-i-init : goal.loop-i-init
loop-i-init c = all_start _ _ _ _ c.requires.1

pub loop-i-preserved : goal.loop-i-preserved
loop-i-preserved c =
    let asked = c.requires in
    let bit = c.bit_in-bit.ensures.told _ _ (omega arith) c.pair.ensures in
    all_more c.loop-i.invariant c.loop-i-test.true asked.2 asked.0 bit c.low_byte.ensures c.max-most.ensures

pub returns-then-most-lt-NO_BIT : goal.returns-then-most-lt-NO_BIT
returns-then-most-lt-NO_BIT c = all_done c.loop-i.invariant c.if-most-lt-NO_BIT.true (omega arith) c.requires.0

pub returns : goal.returns
returns c = tell_none _ _ _ _
