-- What a change hands back and leaves: 11 exactly where there is no room, and good words again. Assumes nothing.
use Prim.Native.Nat.{ℕ, ◌+◌, ◌*◌, ◌^◌, ◌≤◌, ◌<◌}
use mathlib.Core.Path.{◌≡◌, refl, sym, ap, ◌∙◌}
use mathlib.Core.Logic.{⊎_elim, ◌↔◌}
use mathlib.Core.Bool.{Bool, true, false, cond}
use mathlib.Core.List.{List, []}
use native.Mathlib.Omega.{arith}
use lib.ListN.{length, get_or}
use borrow.Author.Tests.{lt-ltb, le-ltb, ltb-false}
use Rattle.numbers.specs.Limits.{MAX}
use Rattle.numset.specs.Runs.{Runs, runs, Under, Good, insert, union, fits, pack, held, add_number, add_words, add_count, set_to_number, set_to_words}
use Rattle.lists.proofs.Tests.{lt_or_ge}
use Rattle.numset.proofs.Union.{union_none, union_some, union_under}
use Rattle.numset.proofs.Words.{length_runs}
use Rattle.numset.proofs.Packs.{length_pack, runs_pack, good_pack}

-- ---- a change of the words m to the runs rs, where there is room
abbrev numbered : List ℕ → Runs → ℕ
numbered m rs = cond (fits (length m) rs) 0 11

abbrev left : List ℕ → Runs → List ℕ
left m rs = cond (fits (length m) rs) (pack (length m) rs) m

refused : (b : Bool) → ◌≡◌ {A = ℕ} (cond b 0 11) 11 → b ≡ false
refused true e = absurd (omega arith)
refused false e = refl

module _ (m : List ℕ) (rs : Runs) where
  numbered_room : 2 * length rs < length m → numbered m rs ≡ 0
  numbered_room h = rw (lt-ltb _ _ h)

  numbered_iff : (numbered m rs ≡ 11) ↔ (length m ≤ 2 * length rs)
  numbered_iff = (λ e. ltb-false _ _ (refused _ e), λ h. rw (le-ltb _ _ h))

  left_room : 2 * length rs < length m → left m rs ≡ pack (length m) rs
  left_room h = rw (lt-ltb _ _ h)

  left_full : length m ≤ 2 * length rs → left m rs ≡ m
  left_full h = rw (le-ltb _ _ h)

  left_good : Good m → Under (2 ^ 64 + 1) rs → Good (left m rs)
  left_good g w = ⊎_elim (λ p. rw (left_room p) (good_pack (length m) rs p w)) (λ p. rw (left_full p) g) (lt_or_ge (2 * length rs) (length m))

  left_length : length (left m rs) ≡ length m
  left_length = ⊎_elim (λ p. rw (left_room p) (length_pack (length m) rs p)) (λ p. rw (left_full p)) (lt_or_ge (2 * length rs) (length m))

in_range_lem : (u : ℕ) → u ≤ MAX → u + 1 < 2 ^ 64 + 1
in_range_lem u h = omega arith

-- ---- an addition
module _ (m : List ℕ) (l u : ℕ) where
  -- 11 exactly where the union has more runs than there is room for, else 0
  pub added_full : (add_number m l u ≡ 11) ↔ (length m ≤ 2 * length (union l u (runs m)))
  unfolding add_number
  added_full = numbered_iff m (union l u (runs m))

  pub added_room : 2 * length (union l u (runs m)) < length m → add_number m l u ≡ 0
  unfolding add_number
  added_room = numbered_room m (union l u (runs m))

  pub added_words : 2 * length (union l u (runs m)) < length m → add_words m l u ≡ pack (length m) (union l u (runs m))
  unfolding add_words
  added_words = left_room m (union l u (runs m))

  pub added_same : length m ≤ 2 * length (union l u (runs m)) → add_words m l u ≡ m
  unfolding add_words
  added_same = left_full m (union l u (runs m))

  pub added_runs : 2 * length (union l u (runs m)) < length m → runs (add_words m l u) ≡ union l u (runs m)
  added_runs h = rw (added_words h) (runs_pack (length m) (union l u (runs m)))

  pub added_good : Good m → u ≤ MAX → Good (add_words m l u)
  unfolding add_words
  added_good g h = left_good m (union l u (runs m)) g (union_under (2 ^ 64 + 1) l u (runs m) g.apart (in_range_lem u h))

  pub added_length : length (add_words m l u) ≡ length m
  unfolding add_words
  added_length = left_length m (union l u (runs m))

-- how many runs the set then has stands in its word 0
pub counted : (m m' : List ℕ) (l u : ℕ) → m' ≡ add_words m l u → get_or m' 0 0 ≡ add_count m l u
counted m m' l u e = sym (length_runs m' (get_or m' 0 0)) ∙ ap held e

-- ---- one interval
one_run : (l u : ℕ) → l ≤ u → length (union l u []) ≡ 1
unfolding insert
one_run l u h = rw (union_some l u [] h)

-- two words lack the room for it
pub one_lacks : (size l u : ℕ) → l ≤ u → size < 3 → size ≤ 2 * length (union l u [])
one_lacks size l u h k = rw (one_run l u h) (omega arith)

-- three have it, also where it is empty
pub one_room : (size l u : ℕ) → 3 ≤ size → 2 * length (union l u []) < size
one_room size l u h = ⊎_elim (λ p. rw (union_none l u [] p) (omega arith)) (λ p. rw (one_run l u p) (omega arith)) (lt_or_ge u l)

one_under : (l u : ℕ) → u ≤ MAX → Under (2 ^ 64 + 1) (union l u [])
unfolding Under
one_under l u h = union_under (2 ^ 64 + 1) l u [] tt (in_range_lem u h)

pub one_good : (size l u : ℕ) → 3 ≤ size → u ≤ MAX → Good (pack size (union l u []))
one_good size l u h k = good_pack size (union l u []) (one_room size l u h) (one_under l u k)

module _ (m : List ℕ) (l u : ℕ) where
  pub set_full : (set_to_number m l u ≡ 11) ↔ (length m ≤ 2 * length (union l u []))
  unfolding set_to_number
  set_full = numbered_iff m (union l u [])

  pub set_room : 2 * length (union l u []) < length m → set_to_number m l u ≡ 0
  unfolding set_to_number
  set_room = numbered_room m (union l u [])

  pub set_words : 2 * length (union l u []) < length m → set_to_words m l u ≡ pack (length m) (union l u [])
  unfolding set_to_words
  set_words = left_room m (union l u [])

  pub set_same : length m ≤ 2 * length (union l u []) → set_to_words m l u ≡ m
  unfolding set_to_words
  set_same = left_full m (union l u [])

  pub set_runs : 2 * length (union l u []) < length m → runs (set_to_words m l u) ≡ union l u []
  set_runs h = rw (set_words h) (runs_pack (length m) (union l u []))

  pub set_good : Good m → u ≤ MAX → Good (set_to_words m l u)
  unfolding set_to_words
  set_good g h = left_good m (union l u []) g (one_under l u h)

  pub set_length : length (set_to_words m l u) ≡ length m
  unfolding set_to_words
  set_length = left_length m (union l u [])
