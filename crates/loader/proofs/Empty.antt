-- A memory of zeros but for the word of its way is sound, and holds the empty book and its first state in that way. Assumes nothing.
use Prim.Native.Nat.{ℕ, ◌+◌, ◌≤◌, ◌<◌}
use mathlib.Core.Path.{◌≡◌, ap, ◌∙◌}
use mathlib.Core.List.{List, []}
use native.Mathlib.Omega.{arith}
use lib.ListN.{length, get_or, set, replicate, length-set, length-replicate}
use lib.Seq.{get_or-set_same, get_or-set_other}
use Rattle.ring.specs.Ring.{turn_of}
use Rattle.ring.proofs.Again.{zeros_ring}
use Rattle.pmtl.specs.Book.{empty_book, width_of}
use Rattle.pmtl.specs.Sets.{Way, ordinary, lasting}
use Rattle.pmtl.specs.Monitor.{initial_in}
use Rattle.memory.specs.Layout.{SET, SIZE}
use Rattle.memory.specs.Memory.{way_word, way_of, set_start, slot_words, rows_of, book_of, state_of}
use Rattle.lists.specs.Lists.{listed}
use Rattle.memory.specs.Kept.{BookKept, slot_to, Tidy, Sound}
use Rattle.memory.specs.Tables.{Unused}
use Rattle.lists.proofs.Parts.{part_zeros, get_or_zeros}
use Rattle.loader.specs.Private.{word_for, Holds}

-- ---- the way by its word
pub way_read : (way : Way) (m : List ℕ) → way_word m ≡ word_for way → way_of m ≡ way
unfolding way_of
way_read ordinary m e = rw e
way_read lasting m e = rw e

pub way_small : (way : Way) (m : List ℕ) → way_word m ≡ word_for way → way_word m ≤ 1
way_small ordinary m e = omega arith
way_small lasting m e = omega arith

-- ---- the memory of an empty book
module _ (way : Way) (m : List ℕ) (long : length m ≡ SIZE) (word : way_word m ≡ word_for way) (zeros : (i : ℕ) → (i ≡ 7 → ⊥) → get_or m i 0 ≡ 0) where
  -- in the head and after it
  head : (i : ℕ) → i < 7 → get_or m i 0 ≡ 0
  head i l = zeros i (λ e. omega arith)

  rest : (i : ℕ) → 7 < i → get_or m i 0 ≡ 0
  rest i l = zeros i (λ e. omega arith)

  no_sets : (j : ℕ) → j < 32 → slot_words m j ≡ replicate SET 0
  no_sets j h = part_zeros (set_start j) SET m (omega arith) (λ i p. rest (set_start j + i) (omega arith))

  book_kept : BookKept m
  unfolding rows_of listed width_of
  book_kept =
      let n = head 0 (omega arith) in
      let t = head 4 (omega arith) in
      record {
        long = long;
        few = omega arith;
        rows = λ r h. absurd (omega arith);
        width = head 3 (omega arith) ∙ rw (n, listed);
        narrow = omega (arith, head 3 (omega arith));
        temporal_few = omega arith;
        owned = λ j h. absurd (omega arith);
        temporals_are = λ j h. absurd (omega arith);
        slots = λ j h. absurd (omega arith);
        ascends = λ i j p h. absurd (omega arith);
        assumes_few = omega (arith, head 5 (omega arith));
        guarantees_few = omega (arith, head 6 (omega arith));
        properties = λ i h. absurd (omega (arith, head 5 (omega arith), head 6 (omega arith)));
      }

  tidy : Tidy m
  unfolding slot_to
  tidy =
      let n = head 0 (omega arith) in
      record {
        form = λ r h. absurd (omega arith);
        start = λ r h. absurd (omega arith);
        slot = λ r h. absurd (omega arith);
        no_slot = λ r h. absurd (omega arith);
        count = head 4 (omega arith) ∙ rw (n, slot_to);
        rows_rest = λ i p h. rest i (omega arith);
        operands_rest = λ i p h. rest _ (omega arith);
        properties_rest = λ i p h. rest _ (omega arith);
        atoms_rest = λ i p h. rest _ (omega arith);
        owners_rest = λ i p h. rest _ (omega arith);
        sets_rest = λ j p h. no_sets j h;
      }

  empty_sound : Sound m
  empty_sound =
      record {
        book = book_kept;
        tidy = tidy;
        way = way_small way m word;
        begun = omega (arith, head 1 (omega arith));
        clock = omega (arith, head 2 (omega arith));
        atoms = λ i h. absurd (omega (arith, head 3 (omega arith)));
        sets = λ j h. rw (no_sets j h) zeros_ring;
      }

  empty_unused : Unused m
  empty_unused = record { values = λ r p q. rest _ (omega arith); told = λ j p q. rest _ (omega arith); early = λ i p q. rest _ (omega arith); settled = λ i p q. rest _ (omega arith); moves = λ r p q. rest _ (omega arith); lowest = λ r p q. rest _ (omega arith) }

  empty_book_lem : book_of m ≡ empty_book
  unfolding book_of rows_of listed
  empty_book_lem = rw (head 0 (omega arith), head 5 (omega arith), head 6 (omega arith), listed)

  empty_state : state_of m ≡ initial_in way []
  unfolding state_of initial_in listed width_of
  empty_state = rw (way_read way m word, head 0 (omega arith), head 1 (omega arith), head 2 (omega arith), head 3 (omega arith), listed)

  empty_holds : Holds way empty_book m
  empty_holds = record { book = empty_book_lem; state = empty_state; sound = empty_sound; unused = empty_unused; turns = λ j h. ap turn_of (no_sets j h); blank = λ i h. rest i (omega arith) }

-- ---- what `store_empty` writes
pub emptied_holds : (way : Way) (m : List ℕ) {m₁ : List ℕ} {word : ℕ} → length m ≡ SIZE → m₁ ≡ replicate (length m) 0 → word ≡ word_for way → Holds way empty_book (set m₁ 7 word)
emptied_holds way m l e₁ ew =
    let zeros : List ℕ = replicate SIZE 0 in
    let long : length zeros ≡ SIZE = length-replicate {A = ℕ} SIZE 0 in
    rw (e₁, l, ew)
    (empty_holds way (set zeros 7 (word_for way))
    (length-set zeros 7 (word_for way) ∙ long)
    (get_or-set_same zeros 7 (word_for way) 0 (omega arith))
    (λ i d. get_or-set_other zeros 7 i (word_for way) 0 d ∙ get_or_zeros SIZE i))
