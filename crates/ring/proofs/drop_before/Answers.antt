use mathlib.Core.Path.{sym, ◌∙◌}
use native.Mathlib.Omega.{arith}
use Rattle.ring.proofs.Drops.{dropping_start, dropping_more, dropping_stop, some_there, fewer_left}
use Rattle.ring.proofs.drop_before.Goals as goal

pub loop-set-init : goal.loop-set-init
loop-set-init c = dropping_start _ _ c.requires

pub oldest_lapsed-requires : goal.oldest_lapsed-requires
oldest_lapsed-requires c = c.loop-set.invariant.ring

pub drop_oldest-requires : goal.drop_oldest-requires
drop_oldest-requires c = let w = c.loop-set.invariant in (w.ring, some_there _ _ (sym c.oldest_lapsed.ensures ∙ c.loop-set-test.true))

pub loop-set-smaller : goal.loop-set-smaller
loop-set-smaller c = let w = c.loop-set.invariant in let d = c.drop_oldest in fewer_left _ w (sym c.oldest_lapsed.ensures ∙ c.loop-set-test.true) d.ensures.0 d.ensures.1 (d.auto.set ∙ w.ring.long)

pub loop-set-preserved : goal.loop-set-preserved
loop-set-preserved c = let w = c.loop-set.invariant in let d = c.drop_oldest in dropping_more _ w (sym c.oldest_lapsed.ensures ∙ c.loop-set-test.true) d.ensures.0 d.ensures.1 (d.auto.set ∙ w.ring.long)

pub shape_of-set : goal.shape_of-set
shape_of-set c = let g = c.loop-set.invariant.ring.long in let h = c.requires.long in omega arith

pub returns : goal.returns
returns c = dropping_stop c.loop-set.invariant (sym c.oldest_lapsed.ensures ∙ c.loop-set-test.false)
