-- That words are good is a fact with one proof at most, so that a struct may keep it.
use Rattle.std.specs.Prelude.{ℕ, List, [], ◌∷◌}
use Rattle.std.specs.Coded.{le_prop, Coded-set, coded_ℕ}
use Rattle.numset.specs.Runs.{Runs, run, Under, Good}

pub Under-prop : (top : ℕ) (rs : Runs) → IsProp (Under top rs)
unfolding Under
Under-prop top [] = Prim.hlevel
Under-prop top (run l u ∷ rs) = Prim.hlevel (le_prop, Under-prop l rs)

pub Good-prop : (m : List ℕ) → IsProp (Good m)
Good-prop m = Prim.hlevel (le_prop, Coded-set coded_ℕ, Under-prop)
