-- What is known of words whose sections are placed. Assumes nothing.
use mathlib.Core.Path.{◌≡◌, refl, sym, ap, ◌∙◌}
use mathlib.Core.Bool.{Bool, true, false}
use mathlib.Core.List.{List, [], ◌∷◌}
use Prim.Native.Nat.{ℕ, ◌+◌, ◌*◌, ◌≤◌}
use native.Mathlib.Omega.{arith}
use lib.ListN.{length, drop, length-drop}
use lib.Seq.{length-take-le}
use lib.Dec.{eqb}
use borrow.Author.Tests.{eqb-true, ne_eqb}
use Rattle.pmtl.specs.Book.{Book}
use Rattle.lists.specs.Lists.{part}
use Rattle.book.specs.Reading.{Read, got, refused, Sections, sections}
use Rattle.book.specs.Judging.{rows_in, judged, book_in, Loaded, refused_with, loaded_from, whole, loaded}
use Rattle.book.specs.Placing.{parts_of, Counted, Placed}
use Rattle.book.specs.Private.{Few}

-- ---- what is loaded, by the number
abbrev picked : Bool → ℕ → Book → Loaded
picked b j book = elim b [ true ↦ record { number = 0; book = book } | false ↦ refused_with j ]

picked_number : (b : Bool) (j : ℕ) (book : Book) → eqb j 0 ≡ b → (picked b j book).number ≡ j
picked_number true j book h = sym (eqb-true j 0 h)
picked_number false j book h = refl

picked_refused : (b : Bool) (j : ℕ) (book : Book) → ((picked b j book).number ≡ 0 → ⊥) → picked b j book ≡ refused_with (picked b j book).number
picked_refused true j book no-0 = absurd (no-0 refl)
picked_refused false j book no-0 = refl

pub number_judged : (s : Sections) → (loaded_from s).number ≡ judged s
unfolding loaded_from
number_judged s = picked_number (eqb (judged s) 0) (judged s) (book_in s) refl

pub book_judged : (s : Sections) → judged s ≡ 0 → loaded_from s ≡ record { number = 0; book = book_in s }
unfolding loaded_from
book_judged s ok = rw (ok, loaded_from)

pub refused_judged : (s : Sections) → (judged s ≡ 0 → ⊥) → loaded_from s ≡ refused_with (judged s)
unfolding loaded_from
refused_judged s no-0 = rw (ne_eqb (judged s) 0 no-0, loaded_from)

whole_refused : (read : Read Sections) → ((whole read).number ≡ 0 → ⊥) → whole read ≡ refused_with (whole read).number
unfolding whole loaded_from
whole_refused (got s []) no-0 = picked_refused (eqb (judged s) 0) (judged s) (book_in s) no-0
whole_refused (got s (w ∷ ws)) no-0 = refl
whole_refused (refused n) no-0 = refl

-- a refused book gives an empty one
pub refused_empty : (words : List ℕ) → ((loaded words).number ≡ 0 → ⊥) → loaded words ≡ refused_with (loaded words).number
unfolding loaded
refused_empty words = whole_refused (sections 1 words)

-- ---- sections that take up all the words
module _ (words : List ℕ) (n o a g : ℕ) (c : Counted words n o a g) where
  part_long : (at count : ℕ) → at + count ≤ length words → length (part at count words) ≡ count
  part_long at count fits = length-take-le count (drop at words) (omega (arith, length-drop at words))

  pub rows_long : length (parts_of words n o a g).rows ≡ 4 * n
  unfolding parts_of
  rows_long = part_long 1 (4 * n) (omega (arith, c.long))

  pub rows_counted : rows_in (parts_of words n o a g) ≡ n
  rows_counted = omega (arith, rows_long)

  pub operands_counted : length (parts_of words n o a g).operands ≡ o
  unfolding parts_of
  operands_counted = part_long (4 * n + 2) o (omega (arith, c.long))

  pub assumes_counted : length (parts_of words n o a g).assumes ≡ a
  unfolding parts_of
  assumes_counted = part_long (4 * n + o + 3) a (omega (arith, c.long))

  pub guarantees_counted : length (parts_of words n o a g).guarantees ≡ g
  unfolding parts_of
  guarantees_counted = part_long (4 * n + o + a + 4) g (omega (arith, c.long))

  -- what is loaded is what the sections say
  pub loaded_from_lem : loaded words ≡ loaded_from (parts_of words n o a g)
  unfolding loaded whole
  loaded_from_lem = ap whole c.read

  pub parts_few : Few (parts_of words n o a g)
  parts_few = record {
    rows = omega (arith, rows_counted, c.rows_few);
    operands = omega (arith, operands_counted, c.operands_few);
    assumes = omega (arith, assumes_counted, c.assumes_few);
    guarantees = omega (arith, guarantees_counted, c.guarantees_few);
  }

-- ---- words whose sections are placed
pub placed : {words : List ℕ} {n o a g : ℕ} → 0 ≡ (loaded words).number → Counted words n o a g → Placed words 0 n o a g
placed e c = record { number_is = e; counted = λ z. c; none = λ wrong. absurd (wrong refl) }

module _ (words : List ℕ) (number n o a g : ℕ) (p : Placed words number n o a g) where
  -- accepted: nothing is wrong with the sections, and the book is theirs
  pub accepted : number ≡ 0 → judged (parts_of words n o a g) ≡ 0
  accepted e =
      sym (number_judged (parts_of words n o a g)) ∙ ap (λ (l : Loaded). l.number) (sym (loaded_from_lem words n o a g (p.counted e))) ∙ sym p.number_is ∙ e

  pub accepted_book : number ≡ 0 → loaded words ≡ record { number = 0; book = book_in (parts_of words n o a g) }
  accepted_book e = loaded_from_lem words n o a g (p.counted e) ∙ book_judged (parts_of words n o a g) (accepted e)

  pub refused_book : (number ≡ 0 → ⊥) → loaded words ≡ refused_with number
  refused_book no-0 = refused_empty words (λ e. no-0 (p.number_is ∙ e)) ∙ ap refused_with (sym p.number_is)
