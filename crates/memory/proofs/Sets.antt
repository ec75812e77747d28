-- The sets of the state that a memory holds: a temporal row's is that of its slot, any other row has none. Assumes nothing.
use Prim.Native.Nat.{ℕ, ◌≤◌, ◌<◌}
use native.Mathlib.Omega.{arith}
use native.Mathlib.Decide.{dec_lt, dec_le}
use mathlib.Core.Path.{◌≡◌, ap, subst, ◌∙◌}
use mathlib.Core.Bool.{cond}
use mathlib.Core.List.{List, []}
use borrow.Author.Tests.{le-leb, lt-leb}
use Rattle.numset.specs.Runs.{Canonical}
use Rattle.numset.proofs.Laws.{good_canonical}
use Rattle.ring.specs.Ring.{ringed}
use Rattle.pmtl.specs.Monitor.{set_at}
use Rattle.lists.proofs.Listed.{listed_at, listed_out}
use Rattle.memory.specs.Memory.{row_count, temporals, kind_at, slot_at, owner_at, slot_words, set_of, state_of}
use Rattle.memory.specs.Kept.{Sound}

module _ (m : List ℕ) (kept : Sound m) where
  -- a temporal row's
  pub owner_set : (j : ℕ) → j < temporals m → set_at (state_of m) (owner_at m j) ≡ ringed (slot_words m j)
  unfolding state_of set_of
  owner_set j h =
      listed_at (set_of m) [] (row_count m) (owner_at m j) (kept.book.owned j h)
      ∙ ap (λ b. cond b (ringed (slot_words m (slot_at m (owner_at m j)))) []) (le-leb 7 (kind_at m (owner_at m j)) (kept.book.temporals_are j h))
      ∙ ap (λ s. ringed (slot_words m s)) (kept.book.slots j h)

  -- any other row has none
  pub no_set : (r : ℕ) → (r < row_count m → kind_at m r < 7) → set_at (state_of m) r ≡ []
  unfolding state_of set_of
  no_set r plain = go (dec_lt r (row_count m))
    where
      go : Dec (r < row_count m) → set_at (state_of m) r ≡ []
      go (yes h) = listed_at (set_of m) [] (row_count m) r h ∙ ap (λ b. cond b (ringed (slot_words m (slot_at m r))) []) (lt-leb 7 (kind_at m r) (plain h))
      go (no h) = listed_out (set_of m) [] (row_count m) r (omega arith)

  -- each is canonical
  pub set_canonical : (r : ℕ) → Canonical (set_at (state_of m) r)
  unfolding Canonical
  set_canonical r = go (dec_lt r (row_count m)) (dec_le 7 (kind_at m r))
    where
      go : Dec (r < row_count m) → Dec (7 ≤ kind_at m r) → Canonical (set_at (state_of m) r)
      go (yes h) (yes k) =
          let row = kept.book.rows r h in
          let inside = row.slot k in
          let few = kept.book.temporal_few in
          subst (λ o. Canonical (set_at (state_of m) o)) (row.owner k)
          (rw (owner_set (slot_at m r) inside) (good_canonical (kept.sets (slot_at m r) (omega arith)).good))
      go (yes h) (no k) = rw (no_set r (λ _. omega arith)) tt
      go (no h) k = rw (no_set r (λ h'. absurd (h h'))) tt
