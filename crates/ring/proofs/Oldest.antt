-- What the oldest run decides, and the look from it on: of an instant the first run that does not end before it. Assumes nothing.
use Prim.Native.Nat.{ℕ, zero, suc, ◌+◌, ◌-◌, ◌≤◌, ◌<◌}
use mathlib.Core.Path.{◌≡◌, refl, sym, ap, ◌∙◌, subst}
use mathlib.Core.Logic.{⊎_elim}
use mathlib.Core.Bool.{true, false, cond}
use mathlib.Core.List.{List}
use native.Mathlib.Omega.{arith}
use lib.ListN.{get_or}
use lib.Dec.{leb, ltb}
use borrow.Author.Tests.{le-leb, lt-leb, lt-ltb, le-ltb, ltb-true}
use Rattle.numbers.specs.Limits.{MAX}
use Rattle.lists.proofs.Tests.{lt_or_ge, and_left, and_right}
use Rattle.numset.specs.Runs.{Runs, lo, hi, runs_to, runs, Good, has}
use Rattle.numset.specs.Until.{rests_until}
use Rattle.numset.specs.Private.{oldest_lapsed, Lapsed}
use Rattle.numset.proofs.Words.{newest}
use Rattle.numset.proofs.Kept.{kept_has, oldest_out, upper_below, Lapsing, lapsing_start, lapsing_more}
use Rattle.numset.proofs.Looking.{Looking, looking_start, looking_older, looking_decides}

-- ---- where it ends before t
module _ (m : List ℕ) (t : ℕ) (e : oldest_lapsed m t ≡ true) where
  pub lapsed_there : 0 < get_or m 0 0
  unfolding oldest_lapsed
  lapsed_there = ltb-true 0 (get_or m 0 0) (and_left _ (ltb (hi m 0) t) e)

  pub lapsed_ends : hi m 0 < t
  unfolding oldest_lapsed
  lapsed_ends = ltb-true (hi m 0) t (and_right (ltb 0 (get_or m 0 0)) _ e)

  -- the look goes on behind it
  pub lapsing_first : Lapsing m t 1
  lapsing_first = lapsing_more (lapsing_start m t) lapsed_there lapsed_ends

-- ---- the look, which came to run k
module _ {m : List ℕ} {t k : ℕ} (w : Lapsed m t k) where
  -- it is in none of the runs that ended before it
  none_older : has (runs_to m k) t ≡ false
  unfolding has
  none_older = sym (kept_has t t (runs_to m k) (omega arith)) ∙ ap (λ (rs : Runs). has rs t) (oldest_out w k (omega arith))

  -- every run after the first that did not begins later than that one ends
  looking_down : k < get_or m 0 0 → (d i : ℕ) → i ≡ k + 1 + d → Looking m t i → Looking m t (k + 1)
  looking_down h zero i e l = subst (Looking m t) (omega arith) l
  looking_down h (suc d) i e l =
      let b = upper_below (lo m (i - 1)) m (i - 1) k (newest _ m i (omega arith) l.apart).older (omega arith) in
      looking_down h d (i - 1) (omega arith) (looking_older l (omega arith) (omega (arith, b, w.after k (omega arith) h)))

  pub oldest_none : get_or m 0 0 ≤ k → false ≡ has (runs m) t
  oldest_none h = let e : get_or m 0 0 ≡ k = omega (arith, w.few) in sym (ap (λ (n : ℕ). has (runs_to m n) t) e ∙ none_older)

  pub oldest_decides : Good m → k < get_or m 0 0 → leb (lo m k) t ≡ has (runs m) t
  oldest_decides g h =
      let l = looking_down h (get_or m 0 0 - (k + 1)) (get_or m 0 0) (omega arith) (looking_start t g) in
      let e : k + 1 - 1 ≡ k = omega arith in
      let older : t < lo m k → Looking m t k = rw e at (looking_older l (omega arith)) in
      let decides : lo m k ≤ t → leb t (hi m k) ≡ has (runs m) t = rw e at (looking_decides l (omega arith)) in
      ⊎_elim
      (λ p. lt-leb (lo m k) t p ∙ sym ((older p).same ∙ none_older))
      (λ p. le-leb (lo m k) t p ∙ sym (le-leb t (hi m k) (w.after k (omega arith) h)) ∙ decides p)
      (lt_or_ge t (lo m k))

-- ---- up to when no run begins or ends
pub until_none : (m : List ℕ) (c n : ℕ) → n ≡ 0 → MAX ≡ rests_until c (runs_to m n)
unfolding runs_to rests_until
until_none m c n e = rw e refl

until_oldest : (m : List ℕ) (c n : ℕ) → 0 < n → cond (ltb c (lo m 0)) (lo m 0 - 1) (hi m 0) ≡ rests_until c (runs_to m n)
unfolding runs_to rests_until
until_oldest m c zero h = absurd (omega arith)
until_oldest m c (suc zero) h = refl
until_oldest m c (suc (suc j)) h = until_oldest m c (suc j) (omega arith)

module _ (m : List ℕ) (c n : ℕ) (h : 0 < n) where
  pub until_begins : c < lo m 0 → lo m 0 - 1 ≡ rests_until c (runs_to m n)
  until_begins p = rw (lt-ltb c (lo m 0) p) at (until_oldest m c n h)

  pub until_ends : lo m 0 ≤ c → hi m 0 ≡ rests_until c (runs_to m n)
  until_ends p = rw (le-ltb c (lo m 0) p) at (until_oldest m c n h)
