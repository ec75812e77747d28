use Rattle.rule_reader.proofs.Frames.{lays_leaf}
use mathlib.Core.Path.{refl}
use Rattle.rule_reader.proofs.lay.lay_leaf.Goals as goal

-- src/lay.rt:82:1
pub returns : goal.returns
returns c = lays_leaf _ _ _ _ _ _ _ _ c.word.ensures c.leaf_arg.ensures refl refl c.emit.ensures
