use mathlib.Core.Path.{refl}
use mathlib.Core.Logic.{⊎_elim}
use native.Mathlib.Omega.{arith}
use Rattle.tidier.proofs.Fitness.{nots_walk, nots_inner, nots_target, single_walk, single_target, other_target}
use Rattle.tidier.proofs.fit.stand_in.Goals as goal

pub operand_at-requires : goal.operand_at-requires
operand_at-requires c = (nots_walk c.requires _ c.form_here.ensures c.in-Nots.is, omega arith)

pub operand_at-requires-in-Nots : goal.operand_at-requires-in-Nots
operand_at-requires-in-Nots c = (nots_inner c.requires _ c.form_here.ensures c.in-Nots.is _ c.operand_at.ensures, omega arith)

pub operand_at-requires-in-Single : goal.operand_at-requires-in-Single
operand_at-requires-in-Single c = (single_walk c.requires _ c.form_here.ensures c.in-Single.is, omega arith)

pub returns-in-Nots : goal.returns-in-Nots
returns-in-Nots c = nots_target c.requires _ c.form_here.ensures c.in-Nots.is _ c.operand_at.ensures _ c.operand_at-in-Nots.ensures

pub returns-in-Single : goal.returns-in-Single
returns-in-Single c = single_target c.requires _ c.form_here.ensures c.in-Single.is _ c.operand_at-in-Single.ensures

pub returns-in-Implication : goal.returns-in-Implication
returns-in-Implication c =
    ⊎_elim
    (λ e. other_target _ _ _ _ _ c.form_here.ensures e refl)
    (⊎_elim
    (λ e. other_target _ _ _ _ _ c.form_here.ensures e refl)
    (λ e. other_target _ _ _ _ _ c.form_here.ensures e refl))
    c.in-Implication.is
