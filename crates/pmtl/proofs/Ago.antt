-- Demand 2 in words. With h the history of the accepted calls, drop k h is the history as it was k calls ago. Assumes nothing.
use Prim.Native.Nat.{ℕ, zero, suc, ◌<◌}
use native.Mathlib.Omega.{arith}
use native.Mathlib.Nat.{not-suc-le-zero, le_of_suc-le-suc}
use mathlib.Core.Path.{◌≡◌, refl, ap, ◌∙◌}
use mathlib.Core.Logic.{◌↔◌}
use mathlib.Core.Bool.{Bool, true, not, ◌&&◌, false≢true}
use mathlib.Core.List.{[], ◌∷◌}
use lib.ListN.{drop}
use borrow.Author.Tests.{not-true}
use Rattle.lists.proofs.Tests.{clash, and_left, and_right, and_intro, or_left, or_right, or_elim, not_yes, fails_by}
use Rattle.pmtl.specs.Book.{Range, in_range, Row, map_row, Rows, row_at, Ordered}
use Rattle.pmtl.specs.Book.Row.{historically, once, since}
use Rattle.pmtl.specs.Calls.{History, now_of}
use Rattle.pmtl.specs.Meaning.{Fact, since_some, instants, meaning_rule}
use Rattle.pmtl.specs.Past.{held, HeldAfter, SomeCall, EveryLater, SinceCall}
use Rattle.pmtl.proofs.History.{Legal}
use Rattle.pmtl.proofs.Values.{value_held}

module _ (b : Rows) (g : Range) (f q : Fact) where
  some_ago : (h : History) (t : ℕ) → since_some g f q h t ≡ true → SinceCall b g f q h t
  unfolding since_some
  some_ago [] t x = absurd (false≢true x)
  some_ago (s ∷ h) t x = or_elim (q (s ∷ h) && in_range g s.clock t) _
      (λ y. (0, record { so_far = omega arith; held_then = and_left _ _ y; in_range_then = and_right (q (s ∷ h)) _ y }, λ j l. absurd (not-suc-le-zero l)))
      (λ y. one_more (and_left _ _ y) (some_ago h t (and_right (f (s ∷ h)) _ y))) x
    where
      one_more : f (s ∷ h) ≡ true → SinceCall b g f q h t → SinceCall b g f q (s ∷ h) t
      one_more y a = (suc a.0, record { so_far = omega (arith, a.1.so_far); held_then = a.1.held_then; in_range_then = a.1.in_range_then }, lefts)
        where
          lefts : (j : ℕ) → j < suc a.0 → f (drop j (s ∷ h)) ≡ true
          lefts zero l = y
          lefts (suc j) l = a.2 j (le_of_suc-le-suc l)

  ago_some : (h : History) (t k : ℕ) → HeldAfter b g q h t k → EveryLater f h k → since_some g f q h t ≡ true
  unfolding since_some
  ago_some [] t k a l = absurd (not-suc-le-zero a.so_far)
  ago_some (s ∷ h) t zero a l = or_left _ _ (and_intro _ _ a.held_then a.in_range_then)
  ago_some (s ∷ h) t (suc k) a l = or_right (q (s ∷ h) && in_range g s.clock t) _ (and_intro _ _ (l 0 (omega arith))
      (ago_some h t k (record { so_far = le_of_suc-le-suc a.so_far; held_then = a.held_then; in_range_then = a.in_range_then }) (λ j m. l (suc j) (omega arith))))

  since_iff : (h : History) (t : ℕ) → (since_some g f q h t ≡ true) ↔ SinceCall b g f q h t
  since_iff h t = (some_ago h t, λ a. ago_some h t a.0 a.1 a.2)

some_iff : (b : Rows) (g : Range) (q : Fact) (h : History) (t : ℕ) → (since_some g (λ k. true) q h t ≡ true) ↔ SomeCall b g q h t
some_iff b g q h t =
    (λ x. let a = some_ago b g (λ k. true) q h t x in (a.0, a.1), λ a. ago_some b g (λ k. true) q h t a.0 a.1 (λ j l. refl))

not_iff : {a : Bool} {P : Type 0} → ((a ≡ true) ↔ P) → (not a ≡ true) ↔ ¬ P
not_iff e = (λ h p. clash (e.1 p) (not-true _ h), λ n. not_yes _ (fails_by _ (λ h. n (e.0 h))))

-- t is the clock now
module _ (b : Rows) (w : Ordered b) (r : ℕ) (h : History) (l : Legal b h) (t : ℕ) (now : t ≡ (now_of b h).clock) where
  by_row : (row : Row ℕ) → row_at b r ≡ row → held b r h ≡ meaning_rule b r (map_row (held b) row) h
  by_row row e = value_held b w r h l ∙ ap (λ x. meaning_rule b r (map_row (held b) x) h) e

  pub once_held : (g : Range) (o : ℕ) → row_at b r ≡ once g o → (held b r h ≡ true) ↔ SomeCall b g (held b o) h t
  unfolding meaning_rule instants
  once_held g o e = rw (by_row (once g o) e, now) (some_iff b g _ h _)

  pub historically_held : (g : Range) (o : ℕ) → row_at b r ≡ historically g o → (held b r h ≡ true) ↔ ¬ (SomeCall b g (λ k. not (held b o k)) h t)
  unfolding meaning_rule instants
  historically_held g o e = rw (by_row (historically g o) e, now) (not_iff (some_iff b g _ h _))

  pub since_held : (g : Range) (x y : ℕ) → row_at b r ≡ since g x y → (held b r h ≡ true) ↔ SinceCall b g (held b x) (held b y) h t
  unfolding meaning_rule instants
  since_held g x y e = rw (by_row (since g x y) e, now) (since_iff b g _ _ h _)
