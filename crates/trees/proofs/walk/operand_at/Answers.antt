use Rattle.trees.proofs.Walking.{start_few, walk_row, part_inside}
use native.Mathlib.Omega.{arith}
use Rattle.trees.proofs.walk.operand_at.Goals as goal

-- src/walk.rt:55:17
pub start_at-requires : goal.start_at-requires
start_at-requires c = walk_row c.requires.0

-- src/walk.rt:55:40
pub count_at-requires : goal.count_at-requires
count_at-requires c = walk_row c.requires.0

-- src/walk.rt:55:40
pub overflow_sub-place : goal.overflow_sub-place
overflow_sub-place c = omega (arith, c.count_at.ensures, c.requires.0.some)

-- src/walk.rt:55:17
pub overflow_add-place : goal.overflow_add-place
overflow_add-place c = omega (arith, start_few (walk_row c.requires.0), c.count_at.ensures, c.start_at.ensures)

-- src/walk.rt:56:5
pub offset_bounds-operands-place : goal.offset_bounds-operands-place
offset_bounds-operands-place c = omega (arith, part_inside c.requires.0 c.requires.1, c.count_at.ensures, c.start_at.ensures)

-- src/walk.rt:56:5
pub bounds-operands-place : goal.bounds-operands-place
bounds-operands-place c = omega (arith, part_inside c.requires.0 c.requires.1, c.count_at.ensures, c.start_at.ensures)

-- src/walk.rt:51:1
pub returns : goal.returns
returns c = rw (c.count_at.ensures, c.start_at.ensures)
