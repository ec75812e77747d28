-- Lists by index, and parts of them. Definitions only.
use Rattle.std.specs.Prelude.{ℕ, zero, suc, ◌+◌, List, [], ◌∷◌, ◌++◌, length, set, take, drop}
use Rattle.std.proofs.Math.Seq.{paste}

-- f 0, f 1 and so on, n of them
unfoldable pub listed {ℓ} : {A : Type ℓ} → (ℕ → A) → ℕ → List A
listed f zero = []
listed f (suc n) = listed f n ++ f n ∷ []

-- the n elements from a on
abbrev pub part : ℕ → ℕ → List ℕ → List ℕ
part a n m = take n (drop a m)

-- a whole list, put over what stands from a place on
abbrev pub put : List ℕ → ℕ → List ℕ → List ℕ
put m at xs = paste m at xs (length xs)

-- xs with its first elements as f says, so many of them
abbrev pub filled_to : {A : Type 0} → (ℕ → A) → List A → ℕ → List A
filled_to f xs zero = xs
filled_to f xs (suc i) = set (filled_to f xs i) i (f i)

-- xs with the elements from a on as f says, so many of them
abbrev pub filled_from : {A : Type 0} → ℕ → (ℕ → A) → List A → ℕ → List A
filled_from a f xs zero = xs
filled_from a f xs (suc i) = set (filled_from a f xs i) (a + i) (f i)
