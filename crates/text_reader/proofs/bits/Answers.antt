-- `text_reader::bits` meets its contract. Assumes nothing.
use Rattle.std.proofs.Common.{sym, ◌∙◌, arith}
use Rattle.text_reader.proofs.Taking.{tell_none}
use Rattle.text_reader.proofs.bits.Goals as goal

pub returns-then-count-lt-NARROW : goal.returns-then-count-lt-NARROW
returns-then-count-lt-NARROW c = tell_none _ _ _ _

pub bits_into-requires : goal.bits_into-requires
bits_into-requires c = (omega (arith, c.if-count-input.true), sym c.parts.ensures ∙ c.if-parts.true, c.requires)

pub returns-else-parts : goal.returns-else-parts
returns-else-parts c = tell_none _ _ _ _

pub returns-else-count-input : goal.returns-else-count-input
returns-else-count-input c = tell_none _ _ _ _

pub returns-else-cursor-input : goal.returns-else-cursor-input
returns-else-cursor-input c = tell_none _ _ _ _
