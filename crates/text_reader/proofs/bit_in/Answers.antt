-- `text_reader::bit_in` meets its contract. Assumes nothing.
use Rattle.text_reader.proofs.Taking.{bit_in}
use Rattle.text_reader.proofs.bit_in.Goals as goal

pub returns : goal.returns
returns c = bit_in _ _ _ _ _ _ c.wrapping_sub_u16.ensures.value c.min-near.ensures c.wrapping_sub_u16-2.ensures.value c.wrapping_sub_u16-3.ensures.value c.min.ensures
