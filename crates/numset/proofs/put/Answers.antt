-- `numset::put` meets its contract. Assumes nothing.
use native.Mathlib.Omega.{arith}
use Rattle.numset.proofs.Place.{added_full, added, placed_eq}
use Rattle.numset.proofs.put.Goals as goal

pub returns-then-start-end : goal.returns-then-start-end
returns-then-start-end c = added c.find_span-joined.ensures c.requires.lower_le_upper c.requires.good c.put_over.ensures c.put_over.auto.set (omega arith) (omega (arith, c.requires.good.room))

pub returns-then-set-n : goal.returns-then-set-n
returns-then-set-n c = added_full c.find_span-joined.ensures c.requires.lower_le_upper (omega arith)

pub returns : goal.returns
returns c = added c.find_span-joined.ensures c.requires.lower_le_upper c.requires.good (placed_eq c.put_new.ensures (omega arith)) c.put_new.auto.set (omega arith) (omega arith)
