-- Ranges of accepted books, counted from clocks up to LAST-TIME: never empty, their starts below MAX, neither end ever falling. Assumes nothing.
use Prim.Native.Nat.{ℕ, ◌+◌, ◌≤◌, ◌<◌}
use native.Mathlib.Omega.{arith}
use mathlib.Core.Path.{◌≡◌}
use mathlib.Core.Logic.{⊎_elim}
use borrow.Author.Tests.{eq-eqb, ne_eqb}
use Rattle.numbers.specs.Limits.{MAX, LAST_TIME}
use Rattle.pmtl.specs.Book.{Range, start, stop}
use Rattle.original.specs.Proper.{Fit}

module _ (g : Range) where
  stop_finite : (c : ℕ) → g.upper ≤ LAST_TIME → stop g c ≡ c + g.upper
  unfolding stop
  stop_finite c h = rw (ne_eqb g.upper MAX (λ e. omega arith))

  stop_unbounded : (c : ℕ) → g.upper ≡ MAX → stop g c ≡ MAX
  unfolding stop
  stop_unbounded c e = rw (eq-eqb g.upper MAX e)

  module _ (fit : Fit g) where
    pub start_small : (c : ℕ) → c ≤ LAST_TIME → start g c < MAX
    start_small c h = let k : g.lower ≤ LAST_TIME = fit.low in omega arith

    pub start_stop : (c : ℕ) → c ≤ LAST_TIME → start g c ≤ stop g c
    start_stop c h =
        let k : g.lower ≤ g.upper = fit.ordered in
        let l : start g c < MAX = start_small c h in
        ⊎_elim (λ p. rw (stop_finite c p) (omega arith)) (λ p. rw (stop_unbounded c p) (omega arith)) fit.high

    pub stop_max : (c : ℕ) → c ≤ LAST_TIME → stop g c ≤ MAX
    stop_max c h = ⊎_elim (λ p. rw (stop_finite c p) (omega arith)) (λ p. rw (stop_unbounded c p) (omega arith)) fit.high

    pub stop_later : (c d : ℕ) → c ≤ d → stop g c ≤ stop g d
    stop_later c d h =
        ⊎_elim (λ p. rw (stop_finite c p, stop_finite d p) (omega arith)) (λ p. rw (stop_unbounded c p, stop_unbounded d p) (omega arith)) fit.high
