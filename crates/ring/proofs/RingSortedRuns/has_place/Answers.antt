-- `has_place` of a ring meets its contract. Assumes nothing.
use native.Mathlib.Omega.{arith}
use borrow.Author.Tests.{lt-ltb, ltb-true}
use Rattle.ring.proofs.Rolls.{unrolled_count, unrolled_length}
use Rattle.ring.proofs.RingSortedRuns.has_place.Goals as goal

pub returns : goal.returns
returns c =
    let m = c.args.self.now.set.now in
    let n = unrolled_count m in
    let k = unrolled_length m in
    (λ h. let p = ltb-true _ _ h in omega arith, λ h. lt-ltb _ _ (omega arith))
