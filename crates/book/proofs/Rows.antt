-- The rows in their order: what the loop over them keeps. Assumes nothing.
use mathlib.Core.Path.{◌≡◌, refl, sym, ◌∙◌}
use mathlib.Core.Bool.{Bool, true, false}
use mathlib.Core.Logic.{⊎_elim}
use mathlib.Core.List.{List}
use Prim.Native.Nat.{ℕ, zero, suc, ◌+◌, ◌<◌}
use native.Mathlib.Nat.{le_of_suc-le-suc, not-suc-le-zero, eq-or-lt_of_le}
use native.Mathlib.Numerals.{add-one}
use Rattle.std.specs.Int.{from_bool}
use Rattle.pmtl.specs.Answer.{bit_of}
use Rattle.book.specs.Rows.{temporal}
use Rattle.book.specs.Judging.{kind_in, temporals_in, first_of, first_to}

-- the first that is not 0 stands
pub stays : (a x : ℕ) → (a ≡ 0 → ⊥) → first_of a x ≡ a
stays zero x wrong = absurd (wrong refl)
stays (suc n) x wrong = refl

module _ (f : ℕ → ℕ) where
  pub first_start : first_to f 0 ≡ 0
  unfolding first_to
  first_start = refl

  pub first_more : (r w : ℕ) → first_to f r ≡ 0 → w ≡ f r → w ≡ 0 → first_to f (r + 1) ≡ 0
  unfolding first_to
  first_more r w h e z = rw (add-one, h) (sym e ∙ z)

  -- the first that is refused decides
  pub first_at : (r n w : ℕ) → first_to f r ≡ 0 → w ≡ f r → (w ≡ 0 → ⊥) → r < n → w ≡ first_to f n
  unfolding first_to
  first_at r zero w h e wrong l = absurd (not-suc-le-zero l)
  first_at r (suc n) w h e wrong l =
      ⊎_elim
      (λ q. rw (← q, h) e)
      (λ m. let before : w ≡ first_to f n = first_at r n w h e wrong m in rw (← before) (sym (stays w (f n) wrong)))
      (eq-or-lt_of_le (le_of_suc-le-suc l))

pub temporals_start : (ws : List ℕ) → ◌≡◌ {A = ℕ} 0 (temporals_in ws 0)
unfolding temporals_in
temporals_start ws = refl

-- a bool as a number
bit_is : (b : Bool) → from_bool b ≡ bit_of b
bit_is true = refl
bit_is false = refl

pub temporals_more : (ws : List ℕ) (r t bit : ℕ) {b : Bool} → t ≡ temporals_in ws r → bit ≡ from_bool b → b ≡ temporal (kind_in ws r) → t + bit ≡ temporals_in ws (r + 1)
unfolding temporals_in
temporals_more ws r t bit {b} e k y = rw (add-one, ← e, k, bit_is, ← y)
