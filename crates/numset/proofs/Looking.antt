-- What the look of `contains` from the newest run backwards knows at each turn. Assumes nothing.
use Prim.Native.Nat.{ℕ, ◌+◌, ◌-◌, ◌^◌, ◌≤◌, ◌<◌}
use mathlib.Core.Path.{◌≡◌, refl, sym, ap, ◌∙◌}
use mathlib.Core.Bool.{false, or-false}
use mathlib.Core.List.{List}
use native.Mathlib.Omega.{arith}
use lib.ListN.{get_or}
use lib.Dec.{leb}
use borrow.Author.Tests.{le-leb}
use Rattle.numset.specs.Runs.{Runs, lo, hi, runs_to, runs, Under, Good, has}
use Rattle.numset.proofs.Laws.{under_has, older_same}
use Rattle.numset.proofs.Words.{runs_pos, runs_none, newest}

-- the runs from i on begin after t: it is in the set exactly where it is in the i oldest
pub record Looking (m : List ℕ) (t i : ℕ) : Type 0 where
  pub few : i ≤ get_or m 0 0
  pub apart : Under (2 ^ 64 + 1) (runs_to m i)
  pub same : has (runs m) t ≡ has (runs_to m i) t

pub looking_start : {m : List ℕ} (t : ℕ) → Good m → Looking m t (get_or m 0 0)
looking_start t g = record { few = omega arith; apart = g.apart; same = refl }

module _ {m : List ℕ} {t i : ℕ} (w : Looking m t i) where
  pub looking_none : i ≡ 0 → false ≡ has (runs m) t
  unfolding has
  looking_none z = sym (w.same ∙ rw (runs_none m i z))

  module _ (h : 0 < i) where
    pub looking_older : t < lo m (i - 1) → Looking m t (i - 1)
    looking_older p =
        record {
          few = omega arith;
          apart = (newest _ m i h w.apart).older_too;
          same = w.same ∙ ap (λ (rs : Runs). has rs t) (runs_pos m i h) ∙ older_same (lo m (i - 1)) (hi m (i - 1)) (runs_to m (i - 1)) t p;
        }

    -- the run that begins at or before t decides: the older ones end before it begins
    pub looking_decides : lo m (i - 1) ≤ t → leb t (hi m (i - 1)) ≡ has (runs m) t
    unfolding has
    looking_decides p =
        let n = newest _ m i h w.apart in
        sym (w.same
        ∙ rw (runs_pos m i h, le-leb (lo m (i - 1)) t p, under_has (lo m (i - 1)) (runs_to m (i - 1)) t n.older (omega arith), or-false))
