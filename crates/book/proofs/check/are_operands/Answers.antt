use native.Mathlib.Omega.{arith}
use Rattle.book.proofs.Links.{row_arg, start_none, start_more, too_few, not_below, below, all_met}
use Rattle.book.proofs.All.{all_start, all_more}
use Rattle.book.proofs.check.are_operands.Goals as goal

pub loop-row-init : goal.loop-row-init
loop-row-init c = (start_none _, omega arith, all_start _)

pub taken_by-count-requires : goal.taken_by-count-requires
taken_by-count-requires c = row_arg _ _ _ _ _ c.requires c.loop-row-test.true c.kind_in.ensures c.arg_in.ensures

pub returns-then-operands-start : goal.returns-then-operands-start
returns-then-operands-start c = too_few _ _ _ _ _ _ c.kind_in.ensures c.arg_in.ensures c.loop-row.invariant.0 c.taken_by-count.ensures _ c.loop-row-test.true (omega arith)

pub returns-then-not-are_below : goal.returns-then-not-are_below
returns-then-not-are_below c =
    not_below _ _ _ _ _ _ c.kind_in.ensures c.arg_in.ensures c.loop-row.invariant.0 c.taken_by-count.ensures _ (omega arith) c.are_below.ensures c.if-not-are_below.true c.loop-row-test.true

pub loop-row-preserved : goal.loop-row-preserved
loop-row-preserved c = (
  start_more _ _ _ _ _ _ c.kind_in.ensures c.arg_in.ensures c.loop-row.invariant.0 c.taken_by-count.ensures,
  omega arith,
  all_more _ _ c.loop-row.invariant.2
      (below _ _ _ _ _ _ c.kind_in.ensures c.arg_in.ensures c.loop-row.invariant.0 c.taken_by-count.ensures _ (omega arith) c.are_below.ensures c.if-not-are_below.false),
)

pub returns : goal.returns
returns c = all_met _ _ _ _ (omega arith) c.loop-row.invariant.0 c.loop-row.invariant.2
