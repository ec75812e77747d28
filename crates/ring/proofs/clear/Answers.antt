-- `ring::clear` meets its contract. Assumes nothing.
use mathlib.Core.Path.{refl, ◌∙◌}
use Rattle.ring.proofs.Drops.{cleared_none, cleared_some}
use Rattle.ring.proofs.clear.Goals as goal

pub returns-then-set-eq0 : goal.returns-then-set-eq0
returns-then-set-eq0 c = cleared_none c.args.set.now c.requires c.if-set-eq0.true

pub returns : goal.returns
returns c = let w = c.wipe in cleared_some c.requires w.ensures (w.auto.set ∙ c.requires.long) refl
