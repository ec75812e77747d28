-- `oldest_upper` of a ring meets its contract. Assumes nothing.
use mathlib.Core.Path.{◌∙◌}
use native.Mathlib.Omega.{arith}
use Rattle.ring.proofs.Rolls.{upper_placed}
use Rattle.lists.proofs.Parts.{word_at}
use Rattle.ring.proofs.RingSortedRuns.oldest_upper.Goals as goal

pub returns : goal.returns
returns c = let s = c.args.self.now in let h = s.is.turn in word_at s.set.now _ _ (omega arith) ∙ upper_placed s.set.now 0 (omega arith)
