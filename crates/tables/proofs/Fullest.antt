-- The most runs that a slot has is the count of the monitor that a memory holds. Assumes nothing.
use Prim.Native.Nat.{ℕ, zero, suc, ◌+◌, max, ◌≤◌, ◌<◌}
use native.Mathlib.Numerals.{add-one}
use native.Mathlib.Omega.{arith}
use mathlib.Core.Path.{◌≡◌, refl, ap, ◌∙◌}
use mathlib.Core.Logic.{⊎_elim}
use mathlib.Core.List.{List, []}
use lib.ListN.{length, get_or}
use borrow.Author.Tests.{le-leb, lt-leb}
use Rattle.std.proofs.Common.{rules}
use Rattle.std.specs.Ordering.{ord_max, nat_cmp}
use Rattle.numset.specs.Runs.{Runs}
use Rattle.ring.specs.Ring.{ringed}
use Rattle.lists.specs.Lists.{listed}
use Rattle.lists.proofs.Tests.{lt_or_ge}
use Rattle.lists.proofs.Listed.{listed_length, listed_at}
use Rattle.pmtl.specs.Monitor.{fullest}
use Rattle.pmtl.proofs.Fullest.{most_at, most_least}
use Rattle.memory.specs.Memory.{row_count, temporals, kind_at, slot_at, owner_at, slot_words, set_of, state_of}
use Rattle.memory.specs.Kept.{Sound}
use Rattle.memory.proofs.Same.{set_owned}

-- the most runs that one of the first n slots has
unfoldable pub most_to : List ℕ → ℕ → ℕ
most_to m zero = 0
most_to m (suc j) = max (most_to m j) (length (ringed (slot_words m j)))

-- the library's greater of two is that of the definition
pub max_is : (a b : ℕ) → ord_max nat_cmp a b ≡ max a b
max_is a b = search rules

pub most_none : (m : List ℕ) → most_to m 0 ≡ 0
unfolding most_to
most_none m = refl

pub most_more : (m : List ℕ) (n : ℕ) → most_to m (n + 1) ≡ max (most_to m n) (length (ringed (slot_words m n)))
unfolding most_to
most_more m n = rw add-one

to_at : (m : List ℕ) (n j : ℕ) → j < n → length (ringed (slot_words m j)) ≤ most_to m n
unfolding most_to
to_at m zero j h = absurd (omega arith)
to_at m (suc n) j h =
    ⊎_elim
    (λ (l : j < n). let k = to_at m n j l in omega arith)
    (λ (g : n ≤ j).
    let i : j ≡ n = omega arith in
    let e : length (ringed (slot_words m j)) ≡ length (ringed (slot_words m n)) = ap (λ (k : ℕ). length (ringed (slot_words m k))) i in
    omega arith)
    (lt_or_ge j n)

to_least : (m : List ℕ) (n k : ℕ) → ((j : ℕ) → j < n → length (ringed (slot_words m j)) ≤ k) → most_to m n ≤ k
unfolding most_to
to_least m zero k f = omega arith
to_least m (suc n) k f = let a = to_least m n k (λ j h. f j (omega arith)) in let b = f n (omega arith) in omega arith

module _ {m : List ℕ} (sound : Sound m) where
  abbrev sets : List Runs
  sets = listed (set_of m) (row_count m)

  row_set : (r : ℕ) → r < row_count m → get_or sets r [] ≡ set_of m r
  row_set r h = listed_at (set_of m) [] (row_count m) r h

  slot_under : (j : ℕ) → j < temporals m → length (ringed (slot_words m j)) ≤ fullest (state_of m)
  unfolding state_of
  slot_under j h =
      let a = most_at sets (owner_at m j) in
      let e : length (get_or sets (owner_at m j) []) ≡ length (ringed (slot_words m j)) = ap (length) (row_set (owner_at m j) (sound.book.owned j h) ∙ set_owned m sound j h) in
      omega arith

  row_under : (r : ℕ) → r < row_count m → length (set_of m r) ≤ most_to m (temporals m)
  unfolding set_of
  row_under r h =
      ⊎_elim
      (λ (k : kind_at m r < 7). rw (lt-leb 7 (kind_at m r) k) (omega arith))
      (λ (k : 7 ≤ kind_at m r). rw (le-leb 7 (kind_at m r) k) (to_at m (temporals m) (slot_at m r) ((sound.book.rows r h).slot k)))
      (lt_or_ge (kind_at m r) 7)

  pub most_is_fullest : most_to m (temporals m) ≡ fullest (state_of m)
  unfolding state_of
  most_is_fullest =
      let a : most_to m (temporals m) ≤ fullest (state_of m) = to_least m (temporals m) (fullest (state_of m)) slot_under in
      let b : fullest (state_of m) ≤ most_to m (temporals m) =
      most_least sets (most_to m (temporals m)) (λ r h.
      let l : r < row_count m = omega (arith, listed_length (set_of m) (row_count m)) in
      rw (row_set r l) (row_under r l)) in
      omega arith
