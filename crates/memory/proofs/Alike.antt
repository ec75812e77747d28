-- Memories that differ in their tables alone hold the same monitor, and are sound together. Assumes nothing.
use Prim.Native.Nat.{ℕ, ◌+◌, ◌≤◌, ◌<◌}
use native.Mathlib.Omega.{arith}
use mathlib.Core.Path.{◌≡◌, refl, ap, ◌∙◌}
use mathlib.Core.Logic.{⊎_elim}
use mathlib.Core.Bool.{Bool}
use mathlib.Core.List.{List}
use lib.ListN.{get_or}
use borrow.Author.Tests.{lt-leb}
use Rattle.lists.specs.Lists.{filled_from}
use Rattle.lists.proofs.Tests.{lt_or_ge}
use Rattle.lists.proofs.Listed.{listed_agree}
use Rattle.lists.proofs.Parts.{part_same}
use Rattle.lists.proofs.Filled.{filled_from_length, filled_from_before}
use Rattle.memory.specs.Layout.{ATOMS, OWNERS, SET, VALUES}
use Rattle.memory.specs.Memory.{row_count, width_word, kind_at, slot_at, atom_at, set_start, slot_words, rows_of, book_of, is_one, way_of, set_of, state_of}
use Rattle.memory.specs.Kept.{Sound}
use Rattle.memory.specs.Alike.{Alike}
use Rattle.memory.proofs.Stepped.{Stepped, kept_step, step_book, rows_of_same, kind_same, slot_same}

-- ---- how they come about
pub alike_self : (m : List ℕ) → Alike m m
alike_self m = record { long = refl; below = λ i h. refl }

pub alike_on : {m m' m'' : List ℕ} → Alike m m' → Alike m' m'' → Alike m m''
alike_on a b = record { long = b.long ∙ a.long; below = λ i h. b.below i h ∙ a.below i h }

-- a part of the tables is filled
pub alike_filled : (m : List ℕ) (a : ℕ) (f : ℕ → ℕ) (n : ℕ) → VALUES ≤ a → Alike m (filled_from a f m n)
alike_filled m a f n h = record { long = filled_from_length a f m n; below = λ i l. filled_from_before a f m 0 n i (omega arith) }

module _ {m m' : List ℕ} (sound : Sound m) (alike : Alike m m') where
  same_slot : (j : ℕ) → j < 32 → slot_words m' j ≡ slot_words m j
  same_slot j h =
      let l = sound.book.long in
      part_same (set_start j) SET m m' (omega arith) alike.long (λ i p. alike.below (set_start j + i) (omega arith))

  stepped : Stepped m m'
  stepped =
      let few = sound.book.temporal_few in
      let narrow = sound.book.narrow in
      record {
        long = alike.long;
        rows_same = alike.below 0 (omega arith);
        book_same = λ i p q. alike.below i (omega arith);
        atoms_same = λ i p q. alike.below (ATOMS + i) (omega arith);
        owners_same = λ j p. alike.below (OWNERS + j) (omega arith);
        sets_same = λ j p q. same_slot j q;
        begun = rw (alike.below 1 (omega arith)) sound.begun;
        clock = rw (alike.below 2 (omega arith)) sound.clock;
        atoms = λ i p. rw (alike.below (ATOMS + i) (omega arith)) (sound.atoms i p);
        sets = λ j p. rw (same_slot j (omega arith)) (sound.sets j (omega arith));
      }

  pub alike_sound : Sound m'
  alike_sound = kept_step m m' sound stepped

  pub alike_book : book_of m' ≡ book_of m
  alike_book = step_book m m' sound stepped

  pub alike_rows : rows_of m' ≡ rows_of m
  alike_rows = rows_of_same m m' sound stepped

  pub alike_set : (j : ℕ) → j < 32 → slot_words m' j ≡ slot_words m j
  alike_set = same_slot

  set_same : (r : ℕ) → r < row_count m → set_of m' r ≡ set_of m r
  unfolding set_of
  set_same r h =
      let small : r < 128 = omega (arith, sound.book.few) in
      let ek = kind_same m m' sound stepped r small in
      let es = slot_same m m' sound stepped r small in
      let few = sound.book.temporal_few in
      ⊎_elim
      (λ (k : kind_at m r < 7). rw (ek, lt-leb 7 (kind_at m r) k))
      (λ (k : 7 ≤ kind_at m r). let inside = (sound.book.rows r h).slot k in rw (ek, es, same_slot (slot_at m r) (omega arith)))
      (lt_or_ge (kind_at m r) 7)

  pub alike_state : state_of m' ≡ state_of m
  unfolding state_of way_of
  alike_state =
      let narrow = sound.book.narrow in
      rw (alike.below 0 (omega arith), alike.below 1 (omega arith), alike.below 2 (omega arith), alike.below 3 (omega arith), alike.below 7 (omega arith))
      (λ i. record {
        way = way_of m;
        begun = is_one (get_or m 1 0);
        now = record {
          clock = get_or m 2 0;
          atoms = listed_agree {A = Bool} (λ k. is_one (atom_at m' k)) (λ k. is_one (atom_at m k)) (width_word m) (λ k h. ap is_one (alike.below (ATOMS + k) (omega arith))) i;
        };
        sets = listed_agree (set_of m') (set_of m) (row_count m) (λ r h. set_same r h) i;
      })
