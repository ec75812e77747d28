-- `buffer_writer::put_bytes` meets its contract. Assumes nothing.
use mathlib.Core.Path.{sym, ◌∙◌}
use native.Mathlib.Omega.{arith}
use borrow.Author.Tests.{leb-true, leb-false}
use Rattle.buffer_writer.proofs.Writes.{too_much}
use Rattle.buffer_writer.proofs.put_bytes.Goals as goal

pub lay_bytes-requires : goal.lay_bytes-requires
lay_bytes-requires c = leb-true _ _ (sym c.has_room.ensures ∙ c.if-has_room.true)

pub returns : goal.returns
returns c = too_much _ _ _ (omega arith) (leb-false _ _ (sym c.has_room.ensures ∙ c.if-has_room.false))
