use Rattle.trees.proofs.Walking.{start_few, walk_row}
use Rattle.tidier.proofs.Adding.{layable_after}
use Rattle.tidier.proofs.Walked.{can_end, lays_done, part_fitted, aim_low, aim_held, inner_visit, lays_more}
use Prim.Native.Nat.{ℕ, ◌+◌, ◌-◌, ◌*◌, ◌^◌, ◌≤◌, ◌<◌}
use mathlib.Core.Path.{◌≡◌, ◌∙◌}
use native.Mathlib.Omega.{arith}
use Rattle.tidier.proofs.lay.+lay_rest.Goals as goal

-- each call falls: into a part, and to the parts after it
part_falls : {row o inner t : ℕ} (left : ℕ) → row * 2 ^ 64 + left ≡ t → o < row → inner ≤ 128 → o * 2 ^ 64 + inner < t
part_falls left e h l = omega arith

rest_falls : {t : ℕ} (row left : ℕ) → row * 2 ^ 64 + left ≡ t → 0 < left → row * 2 ^ 64 + (left - 1) < t
rest_falls row left e h = omega arith

pub lay_end-requires : goal.lay_end-requires
lay_end-requires t c = can_end c.requires

pub returns-then-left-eq0 : goal.returns-then-left-eq0
returns-then-left-eq0 t c = lays_done c.requires c.if-left-eq0.true c.lay_end.ensures

pub operand_at-requires : goal.operand_at-requires
operand_at-requires t c = (c.requires.walk, (omega (arith, c.if-left-eq0.false)))

pub stand_in-part-requires : goal.stand_in-part-requires
stand_in-part-requires t c = part_fitted c.requires (omega (arith, c.if-left-eq0.false)) _ c.operand_at.ensures

pub count_at-requires : goal.count_at-requires
count_at-requires t c = aim_held c.requires (omega (arith, c.if-left-eq0.false)) _ c.operand_at.ensures _ c.stand_in-part.ensures

pub lay_rest-below-requires : goal.lay_rest-below-requires
lay_rest-below-requires t c = let h = aim_held c.requires (omega (arith, c.if-left-eq0.false)) _ c.operand_at.ensures _ c.stand_in-part.ensures in (part_falls _ c.decreases (aim_low c.requires (omega (arith, c.if-left-eq0.false)) _ c.operand_at.ensures _ c.stand_in-part.ensures) (omega (arith, start_few h, c.count_at.ensures)), inner_visit c.requires (omega (arith, c.if-left-eq0.false)) _ c.operand_at.ensures _ c.stand_in-part.ensures _ c.count_at.ensures)

pub count_at-requires-2 : goal.count_at-requires-2
count_at-requires-2 t c = walk_row c.requires.walk

pub lay_not_if-next-requires : goal.lay_not_if-next-requires
lay_not_if-next-requires t c = layable_after c.requires.layable.rooms c.lay_rest-below.ensures.kept

pub overflow_sub-rest : goal.overflow_sub-rest
overflow_sub-rest t c = omega (arith, c.if-left-eq0.false)

pub lay_rest-requires : goal.lay_rest-requires
lay_rest-requires t c = let x = c.requires in let a = layable_after x.layable.rooms c.lay_rest-below.ensures.kept in (rest_falls _ _ c.decreases (omega (arith, c.if-left-eq0.false)), record { walk = record { held = x.walk.held; inside = x.walk.inside; some = omega (arith, x.walk.some) }; fit = x.fit; stays = x.stays; layable = layable_after a.rooms c.lay_not_if-next.ensures.kept })

pub shape_of-rows : goal.shape_of-rows
shape_of-rows t c = c.lay_rest.ensures.kept.rows_size ∙ c.lay_not_if-next.ensures.kept.rows_size ∙ c.lay_rest-below.ensures.kept.rows_size

pub shape_of-operands : goal.shape_of-operands
shape_of-operands t c = c.lay_rest.ensures.kept.operands_size ∙ c.lay_not_if-next.ensures.kept.operands_size ∙ c.lay_rest-below.ensures.kept.operands_size

pub shape_of-tops : goal.shape_of-tops
shape_of-tops t c = c.lay_rest.ensures.kept.tops_size ∙ c.lay_not_if-next.ensures.kept.tops_size ∙ c.lay_rest-below.ensures.kept.tops_size

pub returns : goal.returns
returns t c = lays_more c.requires (omega (arith, c.if-left-eq0.false)) _ c.operand_at.ensures _ c.stand_in-part.ensures _ c.count_at.ensures c.form_here.ensures c.count_at-2.ensures c.over_part-over.ensures c.lay_rest-below.ensures c.lay_not_if-next.ensures c.lay_rest.ensures
