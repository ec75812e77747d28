-- Elements of a list, and a list that a loop fills from the front. Assumes nothing.
use Prim.Native.Nat.{ℕ, zero, suc, ◌+◌, ◌≤◌, ◌<◌}
use native.Mathlib.Omega.{arith}
use native.Mathlib.Numerals.{add-one}
use native.Mathlib.Decide.{dec_lt, ℕ_discrete}
use mathlib.Core.Path.{◌≡◌, refl, sym, ap, ◌∙◌}
use mathlib.Core.List.{List, [], ◌∷◌, ◌++◌, append_assoc}
use lib.ListN.{length, get_or, set, drop, replicate, length-set, length-replicate, get_or-replicate, get_or-eq_default}
use lib.Seq.{ext_get_or, get_or-set_same, get_or-set_other, drop-cons, set_at}
use Rattle.lists.specs.Lists.{listed, filled_to, filled_from}
use Rattle.lists.proofs.Listed.{listed_length, listed_at}

-- an element that is there does not need a default
pub any_default : {A : Type 0} (l : List A) (i : ℕ) (d d' : A) → i < length l → get_or l i d ≡ get_or l i d'
any_default [] i d d' h = absurd (omega arith)
any_default (x ∷ xs) zero d d' h = refl
any_default (x ∷ xs) (suc i) d d' h = any_default xs i d d' (omega arith)

-- the first i of n are what f says, the others d
pub record Filled {A : Type 0} (f : ℕ → A) (d : A) (n : ℕ) (l : List A) (i : ℕ) : Type 0 where
  pub long : length l ≡ n
  pub done : (k : ℕ) → k < i → get_or l k d ≡ f k
  pub rest : (k : ℕ) → i ≤ k → get_or l k d ≡ d

module _ {A : Type 0} (f : ℕ → A) (d : A) (n : ℕ) where
  pub filled_start : Filled f d n (replicate n d) 0
  filled_start = record {
    long = length-replicate n d;
    done = λ k h. absurd (omega arith);
    rest = λ k h. replicate_get_or n k;
  }
    where
      replicate_get_or : (n k : ℕ) → get_or (replicate n d) k d ≡ d
      replicate_get_or n k = go (dec_lt k n)
        where
          go : Dec (k < n) → get_or (replicate n d) k d ≡ d
          go (yes h) = get_or-replicate n k d d h
          go (no h) = get_or-eq_default (replicate n d) d (let e = length-replicate n d in omega arith)

  pub filled_more : {l : List A} {i : ℕ} {x : A} → Filled f d n l i → i < n → x ≡ f i → Filled f d n (set l i x) (i + 1)
  filled_more {l} {i} {x} filled h e = record {
    long = length-set l i x ∙ filled.long;
    done = λ k below. go k below (ℕ_discrete k i);
    rest = λ k above. get_or-set_other l i k x d (λ e'. omega arith) ∙ filled.rest k (omega arith);
  }
    where
      go : (k : ℕ) → k < i + 1 → Dec (k ≡ i) → get_or (set l i x) k d ≡ f k
      go k below (yes e') = rw e' (get_or-set_same l i x d (let long = filled.long in omega arith) ∙ e)
      go k below (no e') = get_or-set_other l i k x d e' ∙ filled.done k (omega arith)

  -- where f says d of those that are left, the list is all that f says
  pub filled_all : {l : List A} {i : ℕ} → Filled f d n l i → ((k : ℕ) → i ≤ k → k < n → f k ≡ d) → l ≡ listed f n
  filled_all {l} {i} filled rest =
      ext_get_or d l (listed f n) (filled.long ∙ sym (listed_length f n))
      (λ k h. let few : k < n = let e = filled.long in omega arith in each k few (dec_lt k i) ∙ sym (listed_at f d n k few))
    where
      each : (k : ℕ) → k < n → Dec (k < i) → get_or l k d ≡ f k
      each k few (yes h) = filled.done k h
      each k few (no h) = filled.rest k (omega arith) ∙ sym (rest k (omega arith) few)

-- ---- the same as stores into a list that was there before
module _ {A : Type 0} (f : ℕ → A) (xs : List A) where
  pub filled_to_length : (i : ℕ) → length (filled_to f xs i) ≡ length xs
  filled_to_length zero = refl
  filled_to_length (suc i) = length-set (filled_to f xs i) i (f i) ∙ filled_to_length i

  -- one more
  pub filled_to_more : {l : List A} {i : ℕ} {x : A} → l ≡ filled_to f xs i → x ≡ f i → set l i x ≡ filled_to f xs (i + 1)
  filled_to_more {i = i} e ex = rw (e, ex, add-one)

  -- those that are stored
  pub filled_to_at : (d : A) (i k : ℕ) → k < i → i ≤ length xs → get_or (filled_to f xs i) k d ≡ f k
  filled_to_at d zero k h l = absurd (omega arith)
  filled_to_at d (suc i) k h l = go (ℕ_discrete k i) (λ (h' : k < i). filled_to_at d i k h' (omega arith))
    where
      go : Dec (k ≡ i) → (k < i → get_or (filled_to f xs i) k d ≡ f k) → get_or (filled_to f xs (suc i)) k d ≡ f k
      go (yes e) below = rw e (get_or-set_same (filled_to f xs i) i (f i) d (let e' = filled_to_length i in omega arith))
      go (no e) below = get_or-set_other (filled_to f xs i) i k (f i) d e ∙ below (omega arith)

  -- it is what f says, and then what was there
  pub filled_to_is : (i : ℕ) → i ≤ length xs → filled_to f xs i ≡ listed f i ++ drop i xs
  unfolding listed
  filled_to_is zero h = refl
  filled_to_is (suc i) h =
      ap (λ l. set l i (f i)) (filled_to_is i (omega arith) ∙ ap (λ l. listed f i ++ l) (drop-cons xs i (f i) h))
      ∙ set_at (listed f i) (get_or xs i (f i)) (drop (suc i) xs) (f i) i (listed_length f i)
      ∙ sym (append_assoc (listed f i) (f i ∷ []) (drop (suc i) xs))

-- ---- and from any place on
module _ {A : Type 0} (a : ℕ) (f : ℕ → A) (xs : List A) where
  pub filled_from_length : (n : ℕ) → length (filled_from a f xs n) ≡ length xs
  filled_from_length zero = refl
  filled_from_length (suc i) = length-set (filled_from a f xs i) (a + i) (f i) ∙ filled_from_length i

  -- one more
  pub filled_from_more : {l : List A} {i : ℕ} {x : A} → l ≡ filled_from a f xs i → x ≡ f i → set l (a + i) x ≡ filled_from a f xs (i + 1)
  filled_from_more {i = i} e ex = rw (e, ex, add-one)

  -- those that are stored
  pub filled_from_at : (d : A) (n k : ℕ) → k < n → a + n ≤ length xs → get_or (filled_from a f xs n) (a + k) d ≡ f k
  filled_from_at d zero k h l = absurd (omega arith)
  filled_from_at d (suc i) k h l = go (ℕ_discrete k i) (λ (h' : k < i). filled_from_at d i k h' (omega arith))
    where
      go : Dec (k ≡ i) → (k < i → get_or (filled_from a f xs i) (a + k) d ≡ f k) → get_or (filled_from a f xs (suc i)) (a + k) d ≡ f k
      go (yes e) below = rw e (get_or-set_same (filled_from a f xs i) (a + i) (f i) d (let e' = filled_from_length i in omega arith))
      go (no e) below = get_or-set_other (filled_from a f xs i) (a + i) (a + k) (f i) d (λ q. e (omega arith)) ∙ below (omega arith)

  -- those before them, those after them
  pub filled_from_before : (d : A) (n k : ℕ) → k < a → get_or (filled_from a f xs n) k d ≡ get_or xs k d
  filled_from_before d zero k h = refl
  filled_from_before d (suc i) k h = get_or-set_other (filled_from a f xs i) (a + i) k (f i) d (λ q. omega arith) ∙ filled_from_before d i k h

  pub filled_from_after : (d : A) (n k : ℕ) → a + n ≤ k → get_or (filled_from a f xs n) k d ≡ get_or xs k d
  filled_from_after d zero k h = refl
  filled_from_after d (suc i) k h = get_or-set_other (filled_from a f xs i) (a + i) k (f i) d (λ q. omega arith) ∙ filled_from_after d i k (omega arith)
