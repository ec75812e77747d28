-- A canonical set is determined by its members. Assumes nothing.
use Prim.Native.Nat.{ℕ, ◌-◌, ◌≤◌}
use mathlib.Core.Path.{◌≡◌, refl, sym, ◌∙◌}
use mathlib.Core.Logic.{⊎_elim}
use mathlib.Core.List.{[], ◌∷◌}
use native.Mathlib.Omega.{arith}
use Rattle.numset.specs.Runs.{run, Runs, Canonical, has}
use Rattle.lists.proofs.Tests.{lt_or_ge, clash}
use Rattle.numset.proofs.Laws.{under_has, canonical_older, newest_in, older_same, above_out, gap_out}

module _ (l u : ℕ) (rs : Runs) (w : Canonical (run l u ∷ rs)) (a b : ℕ) (qs : Runs) (v : Canonical (run a b ∷ qs)) (e : (t : ℕ) → has (run l u ∷ rs) t ≡ has (run a b ∷ qs) t) where
  uppers : b ≤ u
  unfolding Canonical
  uppers = ⊎_elim (λ p. absurd (clash (e b ∙ newest_in a b qs b v.0 (omega arith)) (above_out l u rs w b p))) (λ p. p) (lt_or_ge u b)

  lowers : u ≡ b → a ≤ l
  unfolding Canonical
  lowers q =
      ⊎_elim
      (λ p. absurd (clash (newest_in l u rs (a - 1) (omega arith) (omega arith)) (e (a - 1) ∙ gap_out a b qs v (a - 1) (omega arith))))
      (λ p. p)
      (lt_or_ge l a)

  olders : l ≡ a → (t : ℕ) → has rs t ≡ has qs t
  unfolding Canonical
  olders q t =
      ⊎_elim
      (λ p. sym (older_same l u rs t p) ∙ e t ∙ older_same a b qs t (omega arith))
      (λ p. under_has l rs t w.1 (omega arith) ∙ sym (under_has a qs t v.1 (omega arith)))
      (lt_or_ge t l)

-- two canonical sets with the same members are equal
pub unique : (rs qs : Runs) → Canonical rs → Canonical qs → ((t : ℕ) → has rs t ≡ has qs t) → rs ≡ qs
unfolding Canonical has
unique [] [] w v e = refl
unique [] (run a b ∷ qs) w v e = absurd (clash (e b ∙ newest_in a b qs b v.0 (omega arith)) refl)
unique (run l u ∷ rs) [] w v e = absurd (clash (newest_in l u rs u w.0 (omega arith)) (e u))
unique (run l u ∷ rs) (run a b ∷ qs) w v e =
    let p = uppers l u rs w a b qs v e in
    let p' = uppers a b qs v l u rs w (λ t. sym (e t)) in
    let eu : u ≡ b = omega arith in
    let q = lowers l u rs w a b qs v e eu in
    let q' = lowers a b qs v l u rs w (λ t. sym (e t)) (sym eu) in
    let el : l ≡ a = omega arith in
    let et = unique rs qs (canonical_older l u rs w) (canonical_older a b qs v) (olders l u rs w a b qs v e el) in
    cc
