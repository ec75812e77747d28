-- `book::check::assumes_part` meets its contract. Assumes nothing.
use Prim.Native.Nat.{◌+◌, ◌*◌}
use native.Mathlib.Omega.{arith}
use Rattle.book.proofs.Sections.{assumes_at}
use Rattle.book.proofs.check.assumes_part.Goals as goal

pub returns : goal.returns
returns c =
    let a = c.args.places in
    assumes_at _ _ _ _ _ (1 + 4 * a.rows + 1 + a.operands + 1) c.part_of.ensures (omega (arith, c.requires.long))
