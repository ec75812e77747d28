-- The test `covers` says of a canonical set that every instant from the given one to MAX is in it. Assumes nothing.
use Prim.Native.Nat.{ℕ, ◌+◌, ◌-◌, ◌≤◌, ◌<◌, max}
use mathlib.Core.Path.{◌≡◌, sym, ◌∙◌}
use mathlib.Core.Logic.{⊎_elim, ◌↔◌}
use mathlib.Core.Bool.{Bool, true, and-false, or-true, false≢true}
use mathlib.Core.List.{[], ◌∷◌}
use native.Mathlib.Omega.{arith}
use borrow.Author.Tests.{le-leb, lt-leb}
use Rattle.numbers.specs.Limits.{MAX}
use Rattle.numset.specs.Runs.{run, Runs, Canonical, has, Covers, covers}
use Rattle.lists.proofs.Tests.{lt_or_ge, clash, same_test}
use Rattle.numset.proofs.Laws.{canonical_older, newest_in, older_same, above_out, gap_out}

module _ (from l u : ℕ) (rs : Runs) where
  -- the newest run holds all of them
  pub covers_here : l ≤ from → MAX ≤ u → covers from (run l u ∷ rs) ≡ true
  unfolding covers
  covers_here h k = rw (le-leb l from h, le-leb MAX u k)

  pub covers_late : from < l → covers from (run l u ∷ rs) ≡ covers from rs
  unfolding covers
  covers_late h = rw (lt-leb l from h)

  pub covers_short : u < MAX → covers from (run l u ∷ rs) ≡ covers from rs
  unfolding covers
  covers_short h = rw (lt-leb MAX u h, and-false)

  -- by cases, which run decides
  by_newest : (P : Type 0) → (l ≤ from → MAX ≤ u → P) → (covers from (run l u ∷ rs) ≡ covers from rs → P) → P
  by_newest P f g =
      ⊎_elim (λ p. g (covers_late p)) (λ p. ⊎_elim (λ q. g (covers_short q)) (λ q. f p q) (lt_or_ge u MAX)) (lt_or_ge from l)

has_older : (l u : ℕ) (rs : Runs) (t : ℕ) → has rs t ≡ true → has (run l u ∷ rs) t ≡ true
unfolding has
has_older l u rs t h = rw (h, or-true)

pub covers_all : (from : ℕ) (rs : Runs) → covers from rs ≡ true → Covers from rs
unfolding covers
covers_all from [] h = absurd (false≢true h)
covers_all from (run l u ∷ rs) h =
    by_newest from l u rs _
    (λ p q t x y. newest_in l u rs t (omega arith) (omega arith))
    (λ e t x y. has_older l u rs t (covers_all from rs (sym e ∙ h) t x y))

pub all_covers : (from : ℕ) (rs : Runs) → Canonical rs → from ≤ MAX → Covers from rs → covers from rs ≡ true
unfolding has Canonical
all_covers from [] w m k = absurd (false≢true (k from (omega arith) m))
all_covers from (run l u ∷ rs) w m k =
    ⊎_elim
    (λ p. ⊎_elim
    (λ q. covers_late from l u rs p ∙ all_covers from rs (canonical_older l u rs w) m (λ t x y. sym (older_same l u rs t (omega arith)) ∙ k t x y))
    (λ q. absurd (clash (k (l - 1) (omega arith) (omega arith)) (gap_out l u rs w (l - 1) (omega arith))))
    (lt_or_ge MAX l))
    (λ p. ⊎_elim
    (λ q. absurd (clash (k (max from (u + 1)) (omega arith) (omega arith)) (above_out l u rs w (max from (u + 1)) (omega arith))))
    (λ q. covers_here from l u rs p q)
    (lt_or_ge u MAX))
    (lt_or_ge from l)

pub covers_iff : (from : ℕ) (rs : Runs) → Canonical rs → from ≤ MAX → (covers from rs ≡ true) ↔ Covers from rs
covers_iff from rs w m = (covers_all from rs, all_covers from rs w m)

-- an answer that says so is the test
pub covers_test : (from : ℕ) (rs : Runs) (b : Bool) → Canonical rs → from ≤ MAX → ((b ≡ true) ↔ Covers from rs) → b ≡ covers from rs
covers_test from rs b w m i = same_test b (covers from rs) (λ e. all_covers from rs w m (i.0 e)) (λ e. i.1 (covers_all from rs e))
