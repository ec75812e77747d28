-- `book::check::operands_part` meets its contract. Assumes nothing.
use Prim.Native.Nat.{◌+◌, ◌*◌}
use native.Mathlib.Omega.{arith}
use Rattle.book.proofs.Sections.{operands_at_lem}
use Rattle.book.proofs.check.operands_part.Goals as goal

pub returns : goal.returns
returns c =
    let a = c.args.places in
    operands_at_lem _ _ _ _ _ (1 + 4 * a.rows + 1) c.part_of.ensures (omega (arith, c.requires.long))
