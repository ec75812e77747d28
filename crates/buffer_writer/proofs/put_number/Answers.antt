-- What is written is the number's digits, by one test of room where the most that a number has fit. Assumes nothing.
use native.Mathlib.Omega.{arith}
use mathlib.Core.Path.{sym, ◌∙◌}
use borrow.Author.Tests.{leb-true}
use Rattle.text.proofs.Digits.{all_shown}
use Rattle.buffer_writer.proofs.Writes.{same_bytes}
use Rattle.buffer_writer.proofs.put_number.Goals as goal

pub lay_number-requires : goal.lay_number-requires
lay_number-requires c = leb-true _ _ (sym c.has_room.ensures ∙ c.if-has_room.true)

pub returns : goal.returns
returns c = same_bytes c.put_bytes.ensures (c.decimal-digits.ensures.0 ∙ all_shown _ (omega arith))
