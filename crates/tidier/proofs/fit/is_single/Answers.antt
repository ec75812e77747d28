use mathlib.Core.Path.{refl, sym, ◌∙◌}
use native.Mathlib.Omega.{arith}
use borrow.Author.Tests.{eqb-true, eqb-false}
use Rattle.tidier.proofs.Fitness.{held_row, single_no, single_and, single_or}
use Rattle.tidier.proofs.fit.is_single.Goals as goal

pub count_at-requires : goal.count_at-requires
count_at-requires c = held_row c.requires

pub returns-then-count_at-ne1 : goal.returns-then-count_at-ne1
returns-then-count_at-ne1 c = single_no c.requires c.count_at.ensures (λ z. omega (arith, z, c.if-count_at-ne1.true))

pub begins-requires : goal.begins-requires
begins-requires c = c.requires.inside

pub returns-then-begins : goal.returns-then-begins
returns-then-begins c = c.if-begins.true ∙ single_and c.requires c.count_at.ensures (omega (arith, c.if-count_at-ne1.false)) refl (eqb-true _ _ (sym c.begins.ensures ∙ c.if-begins.true))

pub returns-else-begins : goal.returns-else-begins
returns-else-begins c = single_or c.requires c.count_at.ensures (omega (arith, c.if-count_at-ne1.false)) refl (eqb-false _ _ (sym c.begins.ensures ∙ c.if-begins.false)) c.begins-else-begins.ensures
