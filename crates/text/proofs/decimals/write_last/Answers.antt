use Rattle.text.proofs.Digits.{spell_start, spell_room, spell_more, spell_done, no_room}
use Rattle.std.proofs.Common.{sym, refl, ◌∙◌, arith, length-set, ltb-false, ltb-true}
use Rattle.text.proofs.decimals.write_last.Goals as goal

pub returns-then-too_few : goal.returns-then-too_few
returns-then-too_few c = no_room _ _ (ltb-true _ _ (sym c.too_few.ensures ∙ c.if-too_few.true))

pub loop-rest-init : goal.loop-rest-init
loop-rest-init c = spell_start _ _ (ltb-false _ _ (sym c.too_few.ensures ∙ c.if-too_few.false))

pub overflow_sub-i : goal.overflow_sub-i
overflow_sub-i c = omega (arith, spell_room c.loop-rest.invariant)

pub bounds-scratch-i : goal.bounds-scratch-i
bounds-scratch-i c = let g = c.loop-rest.invariant in omega (arith, spell_room g, g.low, g.size)

pub shape_of-scratch-then-rest-eq0 : goal.shape_of-scratch-then-rest-eq0
shape_of-scratch-then-rest-eq0 c = simp length-set c.loop-rest.invariant.size

pub returns-then-rest-eq0 : goal.returns-then-rest-eq0
returns-then-rest-eq0 c = spell_done c.loop-rest.invariant _ _ refl c.glyph.ensures c.if-rest-eq0.true

pub loop-rest-smaller : goal.loop-rest-smaller
loop-rest-smaller c = let h = c.if-rest-eq0.false in omega arith

pub loop-rest-preserved : goal.loop-rest-preserved
loop-rest-preserved c = spell_more c.loop-rest.invariant _ _ refl c.glyph.ensures c.if-rest-eq0.false
