-- Up to when a set neither begins nor ends. Definitions only.
use Rattle.std.specs.Prelude.{ℕ, ◌-◌, cond, [], ◌∷◌, ltb}
use Rattle.numbers.specs.Limits.{MAX}
use Rattle.numset.specs.Runs.{Runs, run}

-- from c on, where no run ended before c: up to before the oldest run begins, where that is later than c, else up to where it ends; with no run for ever
unfoldable pub rests_until : ℕ → Runs → ℕ
rests_until c [] = MAX
rests_until c (run l u ∷ []) = cond (ltb c l) (l - 1) u
rests_until c (run l u ∷ r ∷ rs) = rests_until c (r ∷ rs)
