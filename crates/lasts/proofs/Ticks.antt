-- Ranges counted from consecutive instants are one interval; what calls at such instants leave. Assumes nothing.
use Prim.Native.Nat.{ℕ, zero, suc, ◌+◌, ◌≤◌}
use native.Mathlib.Omega.{arith}
use mathlib.Core.Path.{◌≡◌, refl, ap, ap₂, ◌∙◌}
use mathlib.Core.Logic.{⊎_elim}
use mathlib.Core.Bool.{Bool, true, false, ◌&&◌, ◌||◌}
use mathlib.Core.List.{◌++◌}
use lib.Dec.{eqb}
use Rattle.lists.proofs.Tests.{either, lt_or_ge}
use Rattle.numbers.specs.Limits.{MAX}
use Rattle.numset.specs.Runs.{within}
use Rattle.numset.proofs.Laws.{in_or_out, inside, outside_above, outside_below}
use Rattle.pmtl.specs.Book.{Range, start, stop, in_range, Rows}
use Rattle.pmtl.specs.Monitor.{Snap}
use Rattle.pmtl.specs.Calls.{History, now_of}
use Rattle.pmtl.specs.Meaning.{Fact, since_some}
use Rattle.pmtl.proofs.History.{Legal}
use Rattle.pmtl.proofs.Twice.{within_longer}
use Rattle.lasts.specs.Lasting.{ticks}

-- an interval, and one that begins and ends before it does and reaches up to it, are one
within_over : (l u x y t : ℕ) → x ≤ l → y ≤ u → l ≤ y + 1 → (within l u t || within x y t) ≡ within x u t
within_over l u x y t p q m =
    in_or_out x u t _
    (λ i j. ⊎_elim
    (λ k. rw (outside_above l u t k, inside x y t i (omega arith), inside x u t i j))
    (λ k. rw (inside l u t k j, inside x u t i j))
    (lt_or_ge t l))
    (λ i. rw (outside_above l u t (omega arith), outside_above x y t i, outside_above x u t i))
    (λ i. rw (outside_below l u t i, outside_below x y t (omega arith), outside_below x u t i))

-- the range counted from d + 1, and those counted from x to d
module _ (g : Range) (le : g.lower ≤ g.upper) (x d t : ℕ) (m : x ≤ d) where
  endless : eqb g.upper MAX ≡ true → (c : ℕ) → stop g c ≡ MAX
  unfolding stop
  endless z c = rw z

  finite : eqb g.upper MAX ≡ false → (c : ℕ) → stop g c ≡ c + g.upper
  unfolding stop
  finite z c = rw z

  next_range : (in_range g (suc d) t || within (start g x) (stop g d) t) ≡ within (start g x) (stop g (suc d)) t
  next_range = ⊎_elim
      (λ z. rw (endless z d, endless z (suc d)) (within_longer (start g (suc d)) MAX (start g x) t (omega arith)))
      (λ z. let e = finite z d in let e' = finite z (suc d) in
      within_over (start g (suc d)) (stop g (suc d)) (start g x) (stop g d) t (omega arith) (omega arith) (omega arith))
      (either (eqb g.upper MAX))

or_more : (x p q s : Bool) → (x && p || (x && q || s)) ≡ (x && (p || q) || s)
or_more true true q s = refl
or_more true false q s = refl
or_more false p q s = refl

-- left holds, and right is x, after each of the calls at the instants after now: together they add one interval, if x
module _ (g : Range) (le : g.lower ≤ g.upper) (now : Snap) (h : History) (f q : Fact) (x : Bool) (t : ℕ) where
  abbrev c₀ : ℕ
  c₀ = now.clock

  pub ticks_since : (i : ℕ) → ((j : ℕ) → j ≤ i → (f (ticks now (suc j) ++ h) ≡ true) × (q (ticks now (suc j) ++ h) ≡ x))
      → since_some g f q (ticks now (suc i) ++ h) t ≡ (x && within (start g (c₀ + 1)) (stop g (c₀ + suc i)) t || since_some g f q h t)
  unfolding ticks since_some
  ticks_since zero e = rw ((e 0 (omega arith)).0, (e 0 (omega arith)).1)
  ticks_since (suc i) e =
      ap₂ (λ y z. y && in_range g (c₀ + suc (suc i)) t || z && since_some g f q (ticks now (suc i) ++ h) t) (e (suc i) (omega arith)).1 (e (suc i) (omega arith)).0
      ∙ ap (λ z. x && in_range g (c₀ + suc (suc i)) t || z) (ticks_since i (λ j l. e j (omega arith)))
      ∙ or_more x _ _ _
      ∙ ap (λ z. x && z || since_some g f q h t) one_more
    where
      one : c₀ + suc (suc i) ≡ suc (c₀ + suc i)
      one = omega arith

      one_more : (in_range g (c₀ + suc (suc i)) t || within (start g (c₀ + 1)) (stop g (c₀ + suc i)) t) ≡ within (start g (c₀ + 1)) (stop g (c₀ + suc (suc i))) t
      one_more = rw one (next_range g le (c₀ + 1) (c₀ + suc i) t (omega arith))

-- the clock and the atoms after calls at the i instants after a history
pub ticks_now : (b : Rows) (h : History) (i : ℕ)
    → ((now_of b (ticks (now_of b h) i ++ h)).clock ≡ (now_of b h).clock + i) × ((now_of b (ticks (now_of b h) i ++ h)).atoms ≡ (now_of b h).atoms)
unfolding ticks
ticks_now b h zero = (omega arith, refl)
ticks_now b h (suc i) = (refl, refl)

-- such calls are legal
pub ticks_legal : (b : Rows) (h : History) → Legal b h → (i : ℕ) → (now_of b h).clock + i ≤ MAX → Legal b (ticks (now_of b h) i ++ h)
unfolding ticks
ticks_legal b h l zero m = l
ticks_legal b h l (suc i) m = (omega (arith, (ticks_now b h i).0), m, ticks_legal b h l i (omega arith))
