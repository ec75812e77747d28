use Prim.Native.Nat.{ℕ, ◌+◌, ◌-◌, ◌*◌, ◌^◌, ◌≤◌, ◌<◌}
use mathlib.Core.Path.{◌≡◌}
use native.Mathlib.Omega.{arith}
use Rattle.trees.proofs.Walking.{start_few, walk_row, part_row, part_walk}
use Rattle.rule_printer.proofs.Walking.{rest_done, rest_more}
use Rattle.rule_printer.proofs.walk.+put_rest.Goals as goal

-- each call falls: into a part, and to the parts after it
part_falls : {row o inner t : ℕ} (left : ℕ) → row * 2 ^ 64 + left ≡ t → o < row → inner ≤ 128 → o * 2 ^ 64 + inner < t
part_falls left e h l = omega arith

rest_falls : {t : ℕ} (row left : ℕ) → row * 2 ^ 64 + left ≡ t → 0 < left → row * 2 ^ 64 + (left - 1) < t
rest_falls row left e h = omega arith

pub kind_in-requires : goal.kind_in-requires
kind_in-requires t c = c.requires.inside

pub returns-then-left-eq0 : goal.returns-then-left-eq0
returns-then-left-eq0 t c = rest_done c.requires c.if-left-eq0.true c.of_word.ensures c.kind_in.ensures c.put_shut.ensures

pub operand_at-part-requires : goal.operand_at-part-requires
operand_at-part-requires t c = (c.requires, omega (arith, c.if-left-eq0.false))

pub count_at-requires : goal.count_at-requires
count_at-requires t c = walk_row c.requires

pub put_begin-inner-requires : goal.put_begin-inner-requires
put_begin-inner-requires t c = (part_walk c.requires (omega (arith, c.if-left-eq0.false)) _ c.operand_at-part.ensures).inside

pub count_at-requires-2 : goal.count_at-requires-2
count_at-requires-2 t c = part_walk c.requires (omega (arith, c.if-left-eq0.false)) _ c.operand_at-part.ensures

pub put_rest-next-requires : goal.put_rest-next-requires
put_rest-next-requires t c = let h = part_walk c.requires (omega (arith, c.if-left-eq0.false)) _ c.operand_at-part.ensures in (part_falls _ c.decreases (part_row c.requires (omega (arith, c.if-left-eq0.false)) _ c.operand_at-part.ensures) (omega (arith, start_few h, c.count_at-2.ensures)), record { held = c.requires.held; inside = h.inside; some = omega (arith, c.count_at-2.ensures) })

pub overflow_sub-left : goal.overflow_sub-left
overflow_sub-left t c = omega (arith, c.if-left-eq0.false)

pub put_rest-requires : goal.put_rest-requires
put_rest-requires t c = let x = c.requires in (rest_falls _ _ c.decreases (omega (arith, c.if-left-eq0.false)), record { held = x.held; inside = x.inside; some = omega (arith, x.some) })

pub returns : goal.returns
returns t c = rest_more c.requires (omega (arith, c.if-left-eq0.false)) c.operand_at-part.ensures c.count_at.ensures c.count_at-2.ensures c.put_comma-begin.ensures c.put_begin-inner.ensures c.put_rest-next.ensures c.put_rest.ensures
