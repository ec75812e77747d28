-- Up to when a set neither begins nor ends: until then the clock meets the same of it, and it keeps what it has. Assumes nothing.
use Prim.Native.Nat.{ℕ, ◌-◌, ◌≤◌, ◌<◌}
use native.Mathlib.Omega.{arith}
use mathlib.Core.Path.{◌≡◌, refl, sym, ap, ◌∙◌}
use mathlib.Core.Logic.{⊎_elim}
use mathlib.Core.List.{[], ◌∷◌}
use borrow.Author.Tests.{lt-ltb, le-ltb, le-leb}
use Rattle.lists.proofs.Tests.{lt_or_ge}
use Rattle.numset.specs.Runs.{Run, run, Runs, has, covers, kept, Under, Canonical}
use Rattle.numset.specs.Until.{rests_until}
use Rattle.numset.proofs.Laws.{canonical_older, newest_in, older_same}
use Rattle.numset.proofs.Covering.{covers_late}
use Rattle.numset.proofs.Kept.{kept_in}

-- ---- one run
module _ (c l u : ℕ) where
  before : c < l → rests_until c (run l u ∷ []) ≡ l - 1
  unfolding rests_until
  before h = rw (lt-ltb c l h)

  begun : l ≤ c → rests_until c (run l u ∷ []) ≡ u
  unfolding rests_until
  begun h = rw (le-ltb c l h)

-- ---- several: all but the oldest lie ahead
ahead : (c t l u : ℕ) (r : Run) (rs : Runs) → Canonical (run l u ∷ r ∷ rs) → t ≤ rests_until c (r ∷ rs) → t < l
unfolding rests_until Canonical Under
ahead c t l u (run a b) [] ok h =
    ⊎_elim (λ p. let e = before c a b p in omega arith) (λ p. let e = begun c a b p in omega arith) (lt_or_ge c a)
ahead c t l u (run a b) (q ∷ qs) ok h = let k = ahead c t a b q qs (ok.1.0, ok.1.2) h in omega arith

-- the newest has not ended
pub not_ended : (c t l u : ℕ) (rs : Runs) → Canonical (run l u ∷ rs) → t ≤ rests_until c (run l u ∷ rs) → t ≤ u
unfolding rests_until Canonical
not_ended c t l u [] ok h =
    ⊎_elim (λ p. let e = before c l u p in omega arith) (λ p. let e = begun c l u p in omega arith) (lt_or_ge c l)
not_ended c t l u (r ∷ rs) ok h = let k = ahead c t l u r rs ok h in omega arith

-- ---- what the clock meets
module _ (c t : ℕ) (up : c ≤ t) where
  pub until_kept : (s : Runs) → Canonical s → t ≤ rests_until c s → kept t s ≡ s
  unfolding rests_until kept
  until_kept [] ok h = refl
  until_kept (run l u ∷ []) ok h = kept_in t l u [] (not_ended c t l u [] ok h)
  until_kept (run l u ∷ r ∷ rs) ok h =
      kept_in t l u (r ∷ rs) (not_ended c t l u (r ∷ rs) ok h) ∙ ap (λ (q : Runs). run l u ∷ q) (until_kept (r ∷ rs) (canonical_older l u (r ∷ rs) ok) h)

  pub until_has : (s : Runs) → Canonical s → t ≤ rests_until c s → has s t ≡ has s c
  unfolding rests_until has
  until_has [] ok h = refl
  until_has (run l u ∷ []) ok h =
      ⊎_elim
      (λ p. let e = before c l u p in older_same l u [] t (omega arith) ∙ sym (older_same l u [] c p))
      (λ p. let e = begun c l u p in newest_in l u [] t (omega arith) (omega arith) ∙ sym (newest_in l u [] c p (omega arith)))
      (lt_or_ge c l)
  until_has (run l u ∷ r ∷ rs) ok h =
      let k = ahead c t l u r rs ok h in
      older_same l u (r ∷ rs) t k ∙ until_has (r ∷ rs) (canonical_older l u (r ∷ rs) ok) h ∙ sym (older_same l u (r ∷ rs) c (omega arith))

  pub until_covers : (s : Runs) → Canonical s → t ≤ rests_until c s → covers t s ≡ covers c s
  unfolding rests_until covers
  until_covers [] ok h = refl
  until_covers (run l u ∷ []) ok h =
      ⊎_elim
      (λ p. let e = before c l u p in covers_late t l u [] (omega arith) ∙ sym (covers_late c l u [] p))
      (λ p. rw (le-leb l t (omega arith), le-leb l c p))
      (lt_or_ge c l)
  until_covers (run l u ∷ r ∷ rs) ok h =
      let k = ahead c t l u r rs ok h in
      covers_late t l u (r ∷ rs) k ∙ until_covers (r ∷ rs) (canonical_older l u (r ∷ rs) ok) h ∙ sym (covers_late c l u (r ∷ rs) (omega arith))

  pub until_again : (s : Runs) → t ≤ rests_until c s → rests_until t s ≡ rests_until c s
  unfolding rests_until
  until_again [] h = refl
  until_again (run l u ∷ []) h =
      ⊎_elim
      (λ p. let e = before c l u p in before t l u (omega arith) ∙ sym e)
      (λ p. begun t l u (omega arith) ∙ sym (begun c l u p))
      (lt_or_ge c l)
  until_again (run l u ∷ r ∷ rs) h = until_again (r ∷ rs) h
