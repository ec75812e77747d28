-- That a ring came from calls made here is a fact with one proof at most, so that a struct may keep it.
use Rattle.std.specs.Prelude.{ℕ, List}
use Rattle.std.specs.Coded.{le_prop, Coded-set, coded_ℕ}
use Rattle.numset.specs.Props.{Good-prop}
use Rattle.ring.specs.Ring.{Rolling}

pub Rolling-prop : (m : List ℕ) → IsProp (Rolling m)
Rolling-prop m = Prim.hlevel (le_prop, Coded-set coded_ℕ, Good-prop)
