use mathlib.Core.Path.{refl, sym, ◌∙◌}
use native.Mathlib.Omega.{arith}
use borrow.Author.Tests.{eqb-true, eqb-false}
use Rattle.tidier.proofs.Fitness.{not_no, not_walk, not_there, not_second}
use Rattle.tidier.proofs.fit.is_not_not.Goals as goal

pub begins-requires : goal.begins-requires
begins-requires c = c.requires.inside

pub returns-then-not-begins : goal.returns-then-not-begins
returns-then-not-begins c = not_no c.requires refl (eqb-false _ _ (sym c.begins.ensures ∙ c.if-not-begins.true))

pub operand_at-below-requires : goal.operand_at-below-requires
operand_at-below-requires c = (not_walk c.requires refl (eqb-true _ _ (sym c.begins.ensures ∙ c.if-not-begins.false)), omega arith)

pub begins-requires-2 : goal.begins-requires-2
begins-requires-2 c = not_there c.requires _ refl (eqb-true _ _ (sym c.begins.ensures ∙ c.if-not-begins.false)) c.operand_at-below.ensures

pub returns : goal.returns
returns c = not_second c.requires _ refl (eqb-true _ _ (sym c.begins.ensures ∙ c.if-not-begins.false)) c.operand_at-below.ensures c.begins-2.ensures
