-- `ring::put` meets its contract. Assumes nothing.
use Prim.Native.Nat.{ℕ}
use mathlib.Core.List.{List}
use mathlib.Core.Path.{ap, ◌∙◌}
use Rattle.numset.specs.Runs.{add_words}
use Rattle.ring.proofs.Adds.{added_laid}
use Rattle.ring.proofs.put.Goals as goal

pub add-requires : goal.add-requires
add-requires c = rw c.unroll-flat.ensures c.requires.rolling.good

pub returns : goal.returns
returns c = let l = c.lay in let a = c.add in added_laid c.args.set.now _ _ c.args.lower c.args.upper c.requires.rolling (l.auto.set ∙ c.requires.rolling.long) l.ensures.1 c.requires.set_value l.ensures.0 (a.ensures.2 ∙ ap (λ (w : List ℕ). add_words w c.args.lower c.args.upper) c.unroll-flat.ensures)
