-- What the theorems need of `gone`: all else is proved from these laws, whatever the definition says. Assumes nothing.
use Prim.Native.Nat.{ℕ, ◌≤◌}
use native.Mathlib.Omega.{arith}
use mathlib.Core.Path.{◌≡◌, refl, ◌∙◌}
use mathlib.Core.Logic.{◌↔◌, ⊎_elim}
use mathlib.Core.Bool.{true, false}
use mathlib.Core.List.{[], ◌∷◌}
use lib.Dec.{ltb}
use borrow.Author.Tests.{ltb-true, lt-ltb}
use Rattle.lists.proofs.Tests.{lt_or_ge, clash}
use Rattle.numset.specs.Runs.{run, Runs, has, kept, Canonical}
use Rattle.numset.proofs.Laws.{newest_in, above_out}
use Rattle.numset.proofs.Kept.{kept_canonical, kept_has}
use Rattle.pmtl.specs.Sets.{Gone, gone}

-- gone: not one instant from the clock on is in the set, and it stays so
pub gone_none : (c : ℕ) → gone c [] ≡ true
unfolding gone
gone_none c = refl

pub gone_has : (c t : ℕ) (s : Runs) → Canonical s → c ≤ t → gone c s ≡ true → has s t ≡ false
unfolding gone has
gone_has c t [] w l h = refl
gone_has c t (run a b ∷ rs) w l h = above_out a b rs w t (omega (arith, ltb-true b c h))

pub has_gone : (c : ℕ) (s : Runs) → Canonical s → Gone c s → gone c s ≡ true
unfolding gone Canonical
has_gone c [] w h = refl
has_gone c (run a b ∷ rs) w h =
    ⊎_elim
    (λ p. lt-ltb b c p)
    (λ p. absurd (clash (newest_in a b rs b w.0 (omega arith)) (h b p)))
    (lt_or_ge b c)

-- the test says it of a canonical set
pub gone_iff : (c : ℕ) (s : Runs) → Canonical s → (gone c s ≡ true) ↔ Gone c s
gone_iff c s w = (λ h t l. gone_has c t s w l h, has_gone c s w)

pub gone_later : (c d : ℕ) (s : Runs) → c ≤ d → gone c s ≡ true → gone d s ≡ true
unfolding gone
gone_later c d [] l h = refl
gone_later c d (run a b ∷ rs) l h = lt-ltb b d (omega (arith, ltb-true b c h))

-- as the code finds it: there is no run, or the newest ends before
pub gone_newest : (c l u : ℕ) (rs : Runs) → ltb u c ≡ gone c (run l u ∷ rs)
unfolding gone
gone_newest c l u rs = refl

-- what is kept of a set that is gone is gone
pub kept_gone : (c : ℕ) (s : Runs) → Canonical s → gone c s ≡ true → gone c (kept c s) ≡ true
kept_gone c s w h = has_gone c (kept c s) (kept_canonical c s w) (λ t l. kept_has c t s l ∙ gone_has c t s w l h)
