-- What is proved of a printed book: read back, it has the same trees, which mean what the book's properties mean. Assumes nothing.
use Prim.Native.Nat.{ℕ, zero, suc, ◌≤◌, ◌<◌}
use mathlib.Core.Path.{◌≡◌, refl, sym, ◌∙◌}
use mathlib.Core.Bool.{Bool, true, false}
use mathlib.Core.List.{List, [], ◌∷◌, map}
use native.Mathlib.Omega.{arith}
use lib.ListN.{length, get_or}
use lib.Seq.{take-length}
use lib.Dec.{eqb}
use borrow.Author.Tests.{eqb-true, eqb-false}
use Rattle.numbers.specs.Limits.{MAX, LAST_TIME}
use Rattle.numbers.specs.Refusals.{ACCEPTED}
use Rattle.pmtl.specs.Book.{Rows, row_at, Book, AllBelow, Ordered}
use Rattle.pmtl.specs.Meaning.{meaning}
use Rattle.pmtl.proofs.Table.{by_rows}
use Rattle.book.specs.Reading.{Sections}
use Rattle.book.specs.Private.{Few}
use Rattle.book.specs.Judging.{kind_in, arg_in, lower_in, upper_in, rows_in, judged, book_in, loaded}
use Rattle.book.proofs.Accepted.{form, range, atom_small, lower_small, upper_small, assume_below, guarantee_below}
use Rattle.trees.specs.Forest.{Head, Forest, none, tree, ◌then◌}
use Rattle.trees.specs.Numbered.{meanings}
use Rattle.book.specs.Kinds.{kind_of_word}
use Rattle.trees.specs.Building.{atom_of}
use Rattle.trees.specs.Books.{head_in, parts_in, joined, tree_at, trees_of}
use Rattle.trees.proofs.Books.{AllOf, each_below, parts_below, tree_in, trees_count, trees_good, trees_mean}
use Rattle.trees.proofs.Sections.{all_below_lem, head_are, rows_there, book_ordered}
use Rattle.trees.proofs.Loaded.{accepted_words}
use Rattle.trees.proofs.Renumbered.{renumbered_accepted}
use Rattle.rule_scanner.specs.Reading.{read, read_text}
use Rattle.rule_reader.specs.Rules.{read_book, result_of}
use Rattle.rule_reader.proofs.Theorems.{text_means}
use Rattle.rule_printer.specs.Printing.{Ranged, Sayable, printed, book_printed}
use Rattle.rule_printer.proofs.Printed.{printed_read}

-- ---- the numbers of a book's trees are in range
abbrev Fits : Head → Type 0
Fits h = (h.atom ≤ MAX) × (h.lower ≤ MAX) × (h.upper ≤ MAX)

ranged_then : (f g : Forest) → Ranged f → Ranged g → Ranged (f then g)
unfolding ◌then◌
ranged_then none g p q = q
ranged_then (tree h k s) g p q = (p.0, p.1, p.2, p.3, ranged_then s g p.4 q)

module _ (b : Rows) (w : Ordered b) (fits : (r : ℕ) → r < length b → Fits (head_in (row_at b r))) where
  trees_each : (ps : List ℕ) → AllOf (λ r. Ranged (tree_at b r)) ps → Ranged (trees_of b ps)
  unfolding trees_of joined
  trees_each [] l = tt
  trees_each (p ∷ ps) l = ranged_then (tree_at b p) (trees_of b ps) l.0 (trees_each ps l.1)

  tree_ranged : (r : ℕ) → r < length b → Ranged (tree_at b r)
  tree_ranged = by_rows (λ r. r < length b → Ranged (tree_at b r)) λ r below h.
      let row = row_at b r in
      let f = fits r h in
      rw (tree_in b w r h) (f.0, f.1, f.2, trees_each (parts_in row) (each_below (λ o. Ranged (tree_at b o)) r (λ o l. below o l (omega arith)) (parts_in row) (parts_below r row (w r))), tt)

  trees_ranged : (ps : List ℕ) → AllBelow (length b) ps → Ranged (trees_of b ps)
  trees_ranged ps l = trees_each ps (each_below (λ r. Ranged (tree_at b r)) (length b) tree_ranged ps l)

-- ---- an accepted book's
atom_fits : (k a : ℕ) → (k ≡ 2 → a ≤ 255) → atom_of (kind_of_word k) a ≤ MAX
unfolding kind_of_word
atom_fits zero a h = omega arith
atom_fits (suc zero) a h = omega arith
atom_fits (suc (suc zero)) a h = omega (arith, h refl)
atom_fits (suc (suc (suc zero))) a h = omega arith
atom_fits (suc (suc (suc (suc zero)))) a h = omega arith
atom_fits (suc (suc (suc (suc (suc zero))))) a h = omega arith
atom_fits (suc (suc (suc (suc (suc (suc zero)))))) a h = omega arith
atom_fits (suc (suc (suc (suc (suc (suc (suc zero))))))) a h = omega arith
atom_fits (suc (suc (suc (suc (suc (suc (suc (suc zero)))))))) a h = omega arith
atom_fits (suc (suc (suc (suc (suc (suc (suc (suc (suc k))))))))) a h = omega arith

upper_fits : (u : ℕ) → ((u ≡ MAX → ⊥) → u ≤ LAST_TIME) → u ≤ MAX
upper_fits u h = by_test (eqb u MAX) refl
  where
    by_test : (t : Bool) → eqb u MAX ≡ t → u ≤ MAX
    by_test true e = omega (arith, eqb-true u MAX e)
    by_test false e = omega (arith, h (eqb-false u MAX e))

module _ (s : Sections) (ok : judged s ≡ ACCEPTED) where
  abbrev rows : Rows
  rows = (book_in s).rows

  heads_fit : (r : ℕ) → r < length rows → Fits (head_in (row_at rows r))
  heads_fit r h =
      let i : r < rows_in s = omega (arith, rows_there s ok) in
      let k = kind_in s.rows r in
      let a = arg_in s.rows r in
      let l = lower_in s.rows r in
      let u = upper_in s.rows r in
      let g = range s ok r i in
      rw (head_are s ok r i) (atom_fits k a (λ e. atom_small k a l u e (form s ok r i)), omega (arith, lower_small l u g), upper_fits u (upper_small l u g))

  below : (ps : List ℕ) → ((i : ℕ) → i < length ps → get_or ps i 0 < rows_in s) → AllBelow (length rows) ps
  below ps f = rw (take-length ps) at (all_below_lem (length rows) (length ps) ps (omega arith) (λ k h. rw (rows_there s ok) (f k h)))

  sayable : (ps : List ℕ) → AllBelow (length rows) ps → length ps ≤ MAX → Sayable (trees_of rows ps)
  sayable ps l h = record { numbers = trees_ranged rows (book_ordered s ok) heads_fit ps l; number = omega (arith, trees_count rows (book_ordered s ok) ps l) }

  module _ (few : Few s) where
    abbrev assumes : Forest
    assumes = trees_of rows s.assumes

    abbrev guarantees : Forest
    guarantees = trees_of rows s.guarantees

    under_assumes : AllBelow (length rows) s.assumes
    under_assumes = below s.assumes (assume_below s ok)

    under_guarantees : AllBelow (length rows) s.guarantees
    under_guarantees = below s.guarantees (guarantee_below s ok)

    -- what is printed is read back as the book's trees
    pub sections_back : read_text (printed assumes guarantees) ≡ read assumes guarantees
    sections_back =
        let w = book_ordered s ok in
        printed_read assumes guarantees (trees_good rows w s.assumes under_assumes) (trees_good rows w s.guarantees under_guarantees)
        (sayable s.assumes under_assumes (omega (arith, few.assumes))) (sayable s.guarantees under_guarantees (omega (arith, few.guarantees)))

    -- which mean what its properties mean
    pub sections_mean : (map (meaning rows) s.assumes ≡ meanings assumes) × (map (meaning rows) s.guarantees ≡ meanings guarantees)
    sections_mean = let w = book_ordered s ok in (trees_mean rows w s.assumes under_assumes, trees_mean rows w s.guarantees under_guarantees)

-- ---- accepted words
-- a text is read as an accepted book whose properties are the trees of a book, and mean what that book's properties mean
pub record Same (b : Book) (s : List ℕ) : Type 0 where
  pub trees : read_text s ≡ read (trees_of b.rows b.assumes) (trees_of b.rows b.guarantees)
  pub accepted : (read_book s).loaded.number ≡ ACCEPTED
  pub assumes_mean : map (meaning (read_book s).loaded.book.rows) (read_book s).loaded.book.assumes ≡ map (meaning b.rows) b.assumes
  pub guarantees_mean : map (meaning (read_book s).loaded.book.rows) (read_book s).loaded.book.guarantees ≡ map (meaning b.rows) b.guarantees

sections_same : (s : Sections) → judged s ≡ ACCEPTED → Few s → Same (book_in s) (book_printed (book_in s))
unfolding book_printed book_in read_book result_of
sections_same s ok few =
    let t = sections_back s ok few in
    let m = sections_mean s ok few in
    let n : (read_book (book_printed (book_in s))).loaded.number ≡ ACCEPTED = rw t (renumbered_accepted s ok few) in
    let k = text_means (book_printed (book_in s)) (trees_of (book_in s).rows s.assumes) (trees_of (book_in s).rows s.guarantees) t n in
    record { trees = t; accepted = n; assumes_mean = k.0 ∙ sym m.0; guarantees_mean = k.1 ∙ sym m.1 }

-- what is printed of an accepted book is read back as a book with the same properties
pub printed_back : (words : List ℕ) → (loaded words).number ≡ ACCEPTED → Same (loaded words).book (book_printed (loaded words).book)
printed_back words h = let k = accepted_words words h in rw k.book_is (sections_same k.all k.ok k.few)
