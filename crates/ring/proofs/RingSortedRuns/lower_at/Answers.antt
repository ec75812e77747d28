-- `lower_at` of a ring meets its contract. Assumes nothing.
use mathlib.Core.Path.{◌∙◌}
use native.Mathlib.Omega.{arith}
use Rattle.ring.proofs.Rolls.{few, unrolled_count, lower_placed}
use Rattle.lists.proofs.Parts.{word_at}
use Rattle.ring.proofs.RingSortedRuns.lower_at.Goals as goal

pub place-requires : goal.place-requires
place-requires c = let s = c.args.self.now in let n = unrolled_count s.set.now in let h = few s.set.now s.is in (s.is, omega arith)

pub returns : goal.returns
returns c = let s = c.args.self.now in let n = unrolled_count s.set.now in let h = few s.set.now s.is in word_at s.set.now _ _ c.place.ensures ∙ lower_placed s.set.now c.args.j (omega arith)
