-- The last run decides `covers`. Assumes nothing.
use Prim.Native.Nat.{ℕ, ◌+◌, ◌-◌, ◌^◌, ◌≤◌, ◌<◌}
use mathlib.Core.Path.{◌≡◌, refl, sym, ap, ◌∙◌}
use mathlib.Core.Logic.{⊎_elim, ◌↔◌}
use mathlib.Core.Bool.{Bool, true, false}
use mathlib.Core.List.{List, [], ◌∷◌}
use native.Mathlib.Omega.{arith}
use lib.ListN.{get_or}
use lib.Dec.{eqb}
use borrow.Author.Tests.{eq-eqb, ne_eqb}
use Rattle.numbers.specs.Limits.{MAX}
use Rattle.numset.specs.Runs.{run, Runs, Good, lo, hi, runs_to, runs, Under, Covers, covers}
use Rattle.lists.proofs.Tests.{lt_or_ge}
use Rattle.numset.proofs.Laws.{good_canonical}
use Rattle.numset.proofs.Covering.{covers_here, covers_late, covers_short, covers_iff}
use Rattle.numset.proofs.Words.{runs_pos, runs_none, newest}

-- runs that end before MAX do not cover
under_covers : (from top : ℕ) (rs : Runs) → Under top rs → top ≤ MAX + 1 → covers from rs ≡ false
unfolding Under covers
under_covers from top [] w h = refl
under_covers from top (run l u ∷ rs) w h = covers_short from l u rs (omega arith) ∙ under_covers from l rs w.2 (omega arith)

one_covers : (from l u : ℕ) (rs : Runs) → Under l rs → l ≤ from → l ≤ u → u ≤ MAX → covers from (run l u ∷ rs) ≡ eqb u MAX
one_covers from l u rs w p q r =
    ⊎_elim
    (λ x. covers_short from l u rs x ∙ under_covers from l rs w (omega arith) ∙ sym (ne_eqb u MAX (omega arith)))
    (λ x. covers_here from l u rs p x ∙ sym (eq-eqb u MAX (omega arith)))
    (lt_or_ge u MAX)

below_max : (u : ℕ) → u + 1 < 2 ^ 64 + 1 → u ≤ MAX
below_max u h = omega arith

module _ {m : List ℕ} {from : ℕ} (g : Good m) (f : from < 2 ^ 64) where
  asked : {b : Bool} → b ≡ covers from (runs m) → (b ≡ true) ↔ Covers from (runs m)
  asked e = rw e (covers_iff from (runs m) (good_canonical g) (omega arith))

  pub none_cover : get_or m 0 0 ≡ 0 → (◌≡◌ {A = Bool} false true) ↔ Covers from (runs m)
  unfolding covers
  none_cover z = asked (rw (runs_none m (get_or m 0 0) z))

  module _ (n : ℕ) (c : n ≡ get_or m 0 0) (h : 0 < n) where
    by_last : {b : Bool} → covers from (run (lo m (n - 1)) (hi m (n - 1)) ∷ runs_to m (n - 1)) ≡ b → (b ≡ true) ↔ Covers from (runs m)
    by_last e = asked (sym (ap (covers from) (ap (runs_to m) (sym c) ∙ runs_pos m n h) ∙ e))

    pub late_cover : from < lo m (n - 1) → (◌≡◌ {A = Bool} false true) ↔ Covers from (runs m)
    late_cover p =
        let w = newest (2 ^ 64 + 1) m n h (rw c g.apart) in
        let b = below_max (hi m (n - 1)) w.below in
        by_last (covers_late from (lo m (n - 1)) (hi m (n - 1)) (runs_to m (n - 1)) p ∙ under_covers from (lo m (n - 1)) (runs_to m (n - 1)) w.older (omega arith))

    pub last_cover : {x : ℕ} → x ≡ hi m (n - 1) → lo m (n - 1) ≤ from → (eqb x MAX ≡ true) ↔ Covers from (runs m)
    last_cover e p =
        let w = newest (2 ^ 64 + 1) m n h (rw c g.apart) in
        rw e (by_last (one_covers from (lo m (n - 1)) (hi m (n - 1)) (runs_to m (n - 1)) w.older p w.order (below_max (hi m (n - 1)) w.below)))
