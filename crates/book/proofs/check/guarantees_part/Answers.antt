-- `book::check::guarantees_part` meets its contract. Assumes nothing.
use Prim.Native.Nat.{◌-◌}
use native.Mathlib.Omega.{arith}
use lib.ListN.{length}
use Rattle.book.proofs.Sections.{guarantees_at}
use Rattle.book.proofs.check.guarantees_part.Goals as goal

pub returns : goal.returns
returns c =
    let a = c.args.places in
    guarantees_at _ _ _ _ _ (length c.args.words.now - a.guarantees) c.part_of.ensures (omega (arith, c.requires.long))
