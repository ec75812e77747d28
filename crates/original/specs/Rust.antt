-- What the original takes from Rust's library: panics, Option, Vec, the search. Definitions only.
use Rattle.std.specs.Prelude.{ℕ, zero, suc, ◌+◌, ◌-◌, min, ◌≤◌, ◌<◌, ◌≡◌, Bool, true, false, cond, not, List, [], ◌∷◌, length, get_or, take, drop, leb, ltb, eqb}
use Rattle.numbers.specs.Limits.{MAX}

-- what a piece of code leaves, or that it panics
pub data Ran (A : Type 0) : Type 0 where
  panic : Ran A
  done : A → Ran A

-- one piece after the other; a panic ends all
infixl 20 ◌>>=◌
abbrev pub ◌>>=◌ : {A B : Type 0} → Ran A → (A → Ran B) → Ran B
panic >>= f = panic
done a >>= f = f a

-- `!x` of what is run
abbrev pub not_run : Ran Bool → Ran Bool
not_run panic = panic
not_run (done x) = done (not x)

-- `x && y`: y is run only where x is true
infixl 30 ◌and_run◌
abbrev pub ◌and_run◌ : Ran Bool → Ran Bool → Ran Bool
panic and_run y = panic
done true and_run y = y
done false and_run y = done false

-- `x || y`: y is run only where x is false
infixl 25 ◌or_run◌
abbrev pub ◌or_run◌ : Ran Bool → Ran Bool → Ran Bool
panic or_run y = panic
done true or_run y = done true
done false or_run y = y

-- `iter().map(f)` taken to its end, and `iter_mut().for_each(f)`: f on each in turn
unfoldable pub each : {A B : Type 0} → (A → Ran B) → List A → Ran (List B)
each f [] = done []
each f (x ∷ xs) = do
  y ← f x
  ys ← each f xs
  done (y ∷ ys)

-- Option
pub data Option (A : Type 0) : Type 0 where
  None : Option A
  Some : A → Option A

-- Option::map
abbrev pub mapped : {A B : Type 0} → (A → B) → Option A → Option B
mapped f None = None
mapped f (Some a) = Some (f a)

-- Option::is_some_and
abbrev pub is_some_and : {A : Type 0} → Option A → (A → Bool) → Bool
is_some_and None p = false
is_some_and (Some a) p = p a

-- Option::and_then
abbrev pub and_then : {A B : Type 0} → Option A → (A → Option B) → Option B
and_then None f = None
and_then (Some a) f = f a

-- Option::or_else
abbrev pub or_else : {A : Type 0} → Option A → Option A → Option A
or_else None y = y
or_else (Some a) y = Some a

-- bool::then_some
abbrev pub then_some : {A : Type 0} → Bool → A → Option A
then_some true a = Some a
then_some false a = None

-- u64::saturating_sub
abbrev pub saturating_sub : ℕ → ℕ → ℕ
saturating_sub a b = a - b

-- u64::saturating_add
abbrev pub saturating_add : ℕ → ℕ → ℕ
saturating_add a b = min (a + b) MAX

-- v[i], which panics where there is no such element
unfoldable pub index : {A : Type 0} → List A → ℕ → Ran A
index [] i = panic
index (a ∷ xs) zero = done a
index (a ∷ xs) (suc i) = index xs i

-- v[i..], which panics where i is above the length
abbrev pub slice_from : {A : Type 0} → List A → ℕ → Ran (List A)
slice_from xs i = cond (leb i (length xs)) (done (drop i xs)) panic

-- Vec::split_off: what stays, and what is handed back; it panics where i is above the length
abbrev pub split_off : {A : Type 0} → List A → ℕ → Ran (List A × List A)
split_off xs i = cond (leb i (length xs)) (done (take i xs, drop i xs)) panic

-- [T]::last
unfoldable pub last : {A : Type 0} → List A → Option A
last [] = None
last (a ∷ []) = Some a
last (a ∷ b ∷ xs) = last (b ∷ xs)

-- Result<usize, usize> of a search: the place of the equal key, or the place where it would go
pub data Found : Type 0 where
  Ok : ℕ → Found
  Err : ℕ → Found

-- a place found in the rest of a list, in the list
abbrev pub later : Found → Found
later (Ok i) = Ok (suc i)
later (Err i) = Err (suc i)

-- [T]::binary_search_by_key of a sorted list: the first key that is not smaller decides
unfoldable pub binary_search_by_key : {A : Type 0} → List A → ℕ → (A → ℕ) → Found
binary_search_by_key [] k key = Err 0
binary_search_by_key (a ∷ xs) k key =
    cond (ltb (key a) k) (later (binary_search_by_key xs k key)) (cond (eqb (key a) k) (Ok 0) (Err 0))

-- sorted with no two keys equal, as its page asks: each key is above those before it; d stands where there is no element
abbrev pub Increasing : {A : Type 0} → A → (A → ℕ) → List A → Type 0
Increasing d key xs = (i j : ℕ) → i < j → j < length xs → key (get_or xs i d) < key (get_or xs j d)

-- what its page says of a result. Ok: the index of the matching element. Err: the index where one could be inserted, order kept
abbrev pub Documented : {A : Type 0} → A → (A → ℕ) → List A → ℕ → Found → Type 0
Documented d key xs k (Ok i) = (i < length xs) × (key (get_or xs i d) ≡ k)
Documented d key xs k (Err i) = (i ≤ length xs) × ((j : ℕ) → j < i → key (get_or xs j d) < k) × ((j : ℕ) → i ≤ j → j < length xs → k < key (get_or xs j d))
