-- What stands in a list that is made by index. Assumes nothing.
use Prim.Native.Nat.{ℕ, zero, suc, ◌<◌, ◌≤◌}
use native.Mathlib.Omega.{arith}
use native.Mathlib.Decide.{dec_lt}
use native.Mathlib.Numerals.{add-one}
use mathlib.Core.Path.{◌≡◌, refl, ap, ap₂, ◌∙◌}
use mathlib.Core.List.{List, [], ◌∷◌, ◌++◌}
use lib.ListN.{length, get_or, replicate, length-append, get_or-append, get_or-eq_default, replicate-append-replicate}
use lib.Seq.{get_or_at}
use Rattle.lists.specs.Lists.{listed}

module _ {ℓ} {A : Type ℓ} (f : ℕ → A) where
  pub listed_length : (n : ℕ) → length (listed f n) ≡ n
  unfolding listed
  listed_length zero = refl
  listed_length (suc n) = length-append (listed f n) _ ∙ (omega (arith, listed_length n))

  pub listed_at : (d : A) (n i : ℕ) → i < n → get_or (listed f n) i d ≡ f i
  unfolding listed
  listed_at d zero i h = absurd (omega arith)
  listed_at d (suc n) i h = go (listed_at d n i) (dec_lt i n)
    where
      go : (i < n → get_or (listed f n) i d ≡ f i) → Dec (i < n) → get_or (listed f n ++ f n ∷ []) i d ≡ f i
      go ih (yes l) = get_or-append (listed f n) _ d i (rw listed_length l) ∙ ih l
      go ih (no l) =
          let e : i ≡ n = omega arith in
          rw e (get_or_at (listed f n) (f n) [] d n (listed_length n))

  -- past its end
  pub listed_out : (d : A) (n i : ℕ) → n ≤ i → get_or (listed f n) i d ≡ d
  listed_out d n i h = get_or-eq_default (listed f n) d (rw listed_length h)

-- it is made of what its function says below n, and nothing else
pub listed_agree {ℓ} : {A : Type ℓ} (f g : ℕ → A) (n : ℕ) → ((i : ℕ) → i < n → f i ≡ g i) → listed f n ≡ listed g n
unfolding listed
listed_agree f g zero e = refl
listed_agree f g (suc n) e = ap₂ (λ l x. l ++ x ∷ []) (listed_agree f g n (λ i h. e i (omega arith))) (e n (omega arith))

-- it is one thing over and over where its function says nothing else
pub listed_all : {A : Type 0} (f : ℕ → A) (a : A) (n : ℕ) → ((i : ℕ) → i < n → f i ≡ a) → listed f n ≡ replicate n a
unfolding listed
listed_all f a zero e = refl
listed_all {A} f a (suc n) e =
    ap₂ (λ (x : List A) (y : A). x ++ y ∷ []) (listed_all f a n (λ i h. e i (omega arith))) (e n (omega arith))
    ∙ replicate-append-replicate n 1 a ∙ ap (λ (k : ℕ). replicate k a) (add-one n)
