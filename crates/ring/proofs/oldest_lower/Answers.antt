-- `ring::oldest_lower` meets its contract. Assumes nothing.
use mathlib.Core.Path.{◌∙◌}
use native.Mathlib.Omega.{arith}
use Rattle.ring.proofs.Rolls.{lower_placed}
use Rattle.lists.proofs.Parts.{word_at}
use Rattle.ring.proofs.oldest_lower.Goals as goal

pub returns : goal.returns
returns c = let h = c.requires.turn in word_at c.args.set.now _ _ (omega arith) ∙ lower_placed c.args.set.now 0 (omega arith)
