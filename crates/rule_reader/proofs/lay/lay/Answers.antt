use Rattle.rule_scanner.proofs.Passing.{close_some}
use Rattle.rule_reader.specs.Laying.{need}
use Rattle.rule_reader.proofs.Frames.{lays_open, lays_go, lays_part, lays_counted, lays_refused, lays_ended}
use mathlib.Core.Path.{refl, ap}
use mathlib.Core.Logic.{⊎_elim}
use native.Mathlib.Omega.{arith}
use Rattle.rule_reader.proofs.lay.lay.Goals as goal

-- src/lay.rt:114:35
pub lay_leaf-requires : goal.lay_leaf-requires
lay_leaf-requires c = let p = c.requires in let n = ap need c.in-Leaf.is in record { few = omega (arith, p.few); balance = p.balance; rooms = p.rooms }

-- src/lay.rt:122:13
pub put_row-requires : goal.put_row-requires
put_row-requires c = let p = c.requires in let n = ap need c.in-Open.is in omega (arith, p.few, p.frames_long)

-- src/lay.rt:125:24
pub close-requires : goal.close-requires
close-requires c = let p = c.requires in let s = close_some _ _ p.stands c.in-Close.is in record { makable = record { few = omega (arith, p.few, s); balance = p.balance; rooms = p.rooms }; some_open = omega (arith, s); few_open = omega (arith, p.few); frames_long = p.frames_long }

-- src/lay.rt:108:1
pub returns-in-Leaf : goal.returns-in-Leaf
returns-in-Leaf c = rw c.in-Leaf.is (c.lay_leaf.ensures.over _)

-- src/lay.rt:108:1
pub returns-in-Open : goal.returns-in-Open
returns-in-Open c = let p = c.requires in let n = ap need c.in-Open.is in rw c.in-Open.is (lays_open _ _ _ _ _ _ _ _ (omega (arith, p.few, p.frames_long)) c.word.ensures refl c.put_row.ensures)

-- src/lay.rt:108:1
pub returns-in-Close : goal.returns-in-Close
returns-in-Close c = rw c.in-Close.is c.close.ensures

pub returns-in-Go : goal.returns-in-Go
returns-in-Go c =
    ⊎_elim
    (λ h. rw h.1 (lays_go _ _ _ _))
    (⊎_elim
    (λ h. rw h (lays_part _ _ _))
    (⊎_elim
    (λ h. rw h.1 (lays_counted _ _ _ _))
    (⊎_elim
    (λ h. rw h (lays_refused _ _ _))
    (λ h. rw h (lays_ended _ _ _)))))
    c.in-Go.is
