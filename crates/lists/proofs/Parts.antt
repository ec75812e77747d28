-- Parts of a list, by their two ends and element by element. Assumes nothing.
use Prim.Native.Nat.{ℕ, ◌+◌, ◌-◌, ◌≤◌, ◌<◌}
use mathlib.Core.Path.{◌≡◌, sym, ap, ◌∙◌}
use mathlib.Core.List.{List}
use native.Mathlib.Omega.{arith}
use lib.ListN.{length, get_or, take, drop, replicate, length-take, length-drop, length-replicate, get_or-replicate, get_or-eq_default}
use lib.Seq.{ext_get_or, get_or-take, get_or-drop}
use mathlib.Core.Logic.{⊎_elim}
use Rattle.lists.specs.Lists.{part}
use Rattle.lists.proofs.Tests.{lt_or_ge}

-- the same place, written otherwise
pub word_at : (m : List ℕ) (i j : ℕ) → i ≡ j → get_or m i 0 ≡ get_or m j 0
word_at m i j e = ap (λ (k : ℕ). get_or m k 0) e

pub part_length : (a n : ℕ) (m : List ℕ) → a + n ≤ length m → length (part a n m) ≡ n
part_length a n m h = simp (length-take, length-drop) (omega arith)

pub part_at : (a n : ℕ) (m : List ℕ) (i : ℕ) → i < n → get_or (part a n m) i 0 ≡ get_or m (a + i) 0
part_at a n m i h = get_or-take n (drop a m) i 0 h ∙ get_or-drop a m i 0

-- a part is any list of its length with its words
pub part_is : (a n : ℕ) (m xs : List ℕ) → a + n ≤ length m → length xs ≡ n → ((i : ℕ) → i < n → get_or m (a + i) 0 ≡ get_or xs i 0) → part a n m ≡ xs
part_is a n m xs h e f =
    let l = part_length a n m h in
    ext_get_or 0 (part a n m) xs (l ∙ sym e) (λ i p. let q : i < n = omega arith in part_at a n m i q ∙ f i q)

pub part_same :
    (a n : ℕ) (m m' : List ℕ) → a + n ≤ length m → length m' ≡ length m → ((i : ℕ) → i < n → get_or m' (a + i) 0 ≡ get_or m (a + i) 0)
    → part a n m' ≡ part a n m
part_same a n m m' h e f =
    part_is a n m' (part a n m) (omega arith) (part_length a n m h) (λ i p. f i p ∙ sym (part_at a n m i p))

pub part_zeros : (a n : ℕ) (m : List ℕ) → a + n ≤ length m → ((i : ℕ) → i < n → get_or m (a + i) 0 ≡ 0) → part a n m ≡ replicate n 0
part_zeros a n m h f =
    part_is a n m (replicate n 0) h (length-replicate n 0) (λ i p. f i p ∙ sym (get_or-replicate n i 0 0 p))

-- from a up to e, which is n words on
pub part_to : (a e n : ℕ) (m : List ℕ) → e ≡ a + n → take (e - a) (drop a m) ≡ part a n m
part_to a e n m h = let k : e - a ≡ n = omega arith in rw k

-- ---- words of zeros
pub get_or_zeros : (n i : ℕ) → ◌≡◌ {A = ℕ} (get_or (replicate n 0) i 0) 0
get_or_zeros n i = ⊎_elim (λ h. get_or-replicate n i 0 0 h) (λ h. get_or-eq_default (replicate n 0) 0 (rw length-replicate h)) (lt_or_ge i n)
