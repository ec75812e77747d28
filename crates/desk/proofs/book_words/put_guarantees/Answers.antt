use Rattle.desk.proofs.Writing.{guarantees_start, guarantees_more, guarantees_end}
use native.Mathlib.Omega.{arith}
use Rattle.desk.proofs.book_words.put_guarantees.Goals as goal

pub loop-k-init : goal.loop-k-init
loop-k-init c = guarantees_start _ _

pub loop-k-preserved : goal.loop-k-preserved
loop-k-preserved c = let l = c.loop-k in guarantees_more _ _ _ l.k l.invariant

pub returns : goal.returns
returns c = let l = c.loop-k in guarantees_end _ _ _ l.k _ l.invariant (omega arith)
