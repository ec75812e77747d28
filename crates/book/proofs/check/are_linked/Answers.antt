-- `book::check::are_linked` meets its contract. Assumes nothing.
use mathlib.Core.Bool.{true≢false}
use mathlib.Core.Path.{sym, ◌∙◌}
use Rattle.book.proofs.Links.{no_operands, no_assumes, by_guarantees}
use Rattle.book.proofs.check.are_linked.Goals as goal
use Rattle.book.proofs.check.are_linked.Goals.{then-are_operands, else-are_operands}

pub returns-then-are_below : goal.returns-then-are_below
returns-then-are_below c =
    elim c.if-are_operands.branch [
      | then-are_operands w ↦ by_guarantees _ _ _ _ c.are_operands.ensures w.if-are_operands.true w.are_below.ensures (sym w.value-is ∙ c.if-are_below.true) c.are_below-then-are_below.ensures
      | else-are_operands w ↦ absurd (true≢false (sym c.if-are_below.true ∙ w.value-is ∙ w.if-are_operands.false))
    ]

pub returns-else-are_below : goal.returns-else-are_below
returns-else-are_below c =
    c.if-are_below.false
    ∙ elim c.if-are_operands.branch [
      | then-are_operands w ↦ no_assumes _ _ _ _ c.are_operands.ensures w.if-are_operands.true w.are_below.ensures (sym w.value-is ∙ c.if-are_below.false)
      | else-are_operands w ↦ no_operands _ _ _ _ c.are_operands.ensures w.if-are_operands.false
    ]
