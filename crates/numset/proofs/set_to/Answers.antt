-- `numset::set_to` meets its contract. Assumes nothing.
use Rattle.numset.proofs.Resets.{sets_none, sets_full, sets_added}
use Rattle.numset.proofs.Packs.{good_none}
use native.Mathlib.Omega.{arith}
use Rattle.numset.proofs.set_to.Goals as goal

pub returns-then-upper-lower : goal.returns-then-upper-lower
returns-then-upper-lower c = sets_none _ (let g = c.requires.room in omega arith) c.if-upper-lower.true c.clear.ensures

pub returns-then-set-lt-ONE_RUN : goal.returns-then-set-lt-ONE_RUN
returns-then-set-lt-ONE_RUN c = sets_full _ c.if-upper-lower.false c.if-set-lt-ONE_RUN.true

pub put-requires : goal.put-requires
put-requires c = record { good = rw c.clear-2.ensures (good_none _ (let g = c.requires.room in omega arith)); lower_le_upper = c.if-upper-lower.false }

pub returns : goal.returns
returns c = sets_added _ _ _ c.if-set-lt-ONE_RUN.false c.clear-2.ensures c.put.ensures.0 c.put.ensures.1
