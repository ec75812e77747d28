-- The rows that accepted words say: their heads and their parts, word by word. Assumes nothing.
use Prim.Native.Nat.{ℕ, zero, suc, ◌≤◌, ◌<◌}
use mathlib.Core.Path.{◌≡◌, refl, ap, ◌∙◌}
use mathlib.Core.List.{List, [], ◌∷◌}
use native.Mathlib.Omega.{arith}
use native.Mathlib.Decide.{dec_lt}
use lib.ListN.{length, get_or, take, drop, length-drop}
use lib.Seq.{get_or-drop}
use Rattle.lists.specs.Lists.{part}
use Rattle.lists.proofs.Listed.{listed_length, listed_at}
use Rattle.pmtl.specs.Book.{Row, row_at, AllBelow, Below, Ordered}
use Rattle.pmtl.specs.Book.Row.{never, always, atom, conj, disj, neg, implies, historically, once, since}
use Rattle.pmtl.proofs.Table.{row_out}
use Rattle.book.specs.Reading.{Sections}
use Rattle.book.specs.Rows.{row_from, count_of}
use Rattle.book.specs.Judging.{kind_in, arg_in, lower_in, upper_in, rows_in, start_in, judged, row_in, book_in}
use Rattle.book.proofs.Accepted.{form, form_kind, bounds_none, operands_there, operand_below}
use Rattle.trees.specs.Forest.{Head, head_of}
use Rattle.book.specs.Kinds.{kind_of_word}
use Rattle.trees.specs.Building.{atom_of}
use Rattle.trees.specs.Books.{head_in, parts_in}

-- ---- a row from its words
one_taken : (os : List ℕ) → 1 ≤ length os → get_or os 0 0 ∷ [] ≡ take 1 os
one_taken [] h = absurd (omega arith)
one_taken (x ∷ os) h = refl

two_taken : (os : List ℕ) → 2 ≤ length os → get_or os 0 0 ∷ get_or os 1 0 ∷ [] ≡ take 2 os
two_taken [] h = absurd (omega arith)
two_taken (x ∷ []) h = absurd (omega arith)
two_taken (x ∷ y ∷ os) h = refl

parts_from : (k a l u : ℕ) (os : List ℕ) → count_of k a ≤ length os → parts_in (row_from k a l u os) ≡ take (count_of k a) os
unfolding row_from count_of
parts_from zero a l u os h = refl
parts_from (suc zero) a l u os h = refl
parts_from (suc (suc zero)) a l u os h = refl
parts_from (suc (suc (suc zero))) a l u os h = refl
parts_from (suc (suc (suc (suc zero)))) a l u os h = refl
parts_from (suc (suc (suc (suc (suc zero))))) a l u os h = one_taken os h
parts_from (suc (suc (suc (suc (suc (suc zero)))))) a l u os h = two_taken os h
parts_from (suc (suc (suc (suc (suc (suc (suc zero))))))) a l u os h = one_taken os h
parts_from (suc (suc (suc (suc (suc (suc (suc (suc zero)))))))) a l u os h = one_taken os h
parts_from (suc (suc (suc (suc (suc (suc (suc (suc (suc zero))))))))) a l u os h = two_taken os h
parts_from (suc (suc (suc (suc (suc (suc (suc (suc (suc (suc k)))))))))) a l u os h = refl

-- a row's head, from its words
abbrev pub head_with : ℕ → ℕ → ℕ → ℕ → Head
head_with k a l u = head_of (kind_of_word k) (atom_of (kind_of_word k) a) l u

head_from : (k a l u : ℕ) (os : List ℕ) → k ≤ 9 → (k < 7 → (l ≡ 0) × (u ≡ 0)) → head_in (row_from k a l u os) ≡ head_with k a l u
unfolding row_from kind_of_word
head_from zero a l u os h z = let y = z (omega arith) in rw (y.0, y.1)
head_from (suc zero) a l u os h z = let y = z (omega arith) in rw (y.0, y.1)
head_from (suc (suc zero)) a l u os h z = let y = z (omega arith) in rw (y.0, y.1)
head_from (suc (suc (suc zero))) a l u os h z = let y = z (omega arith) in rw (y.0, y.1)
head_from (suc (suc (suc (suc zero)))) a l u os h z = let y = z (omega arith) in rw (y.0, y.1)
head_from (suc (suc (suc (suc (suc zero))))) a l u os h z = let y = z (omega arith) in rw (y.0, y.1)
head_from (suc (suc (suc (suc (suc (suc zero)))))) a l u os h z = let y = z (omega arith) in rw (y.0, y.1)
head_from (suc (suc (suc (suc (suc (suc (suc zero))))))) a l u os h z = refl
head_from (suc (suc (suc (suc (suc (suc (suc (suc zero)))))))) a l u os h z = refl
head_from (suc (suc (suc (suc (suc (suc (suc (suc (suc zero))))))))) a l u os h z = refl
head_from (suc (suc (suc (suc (suc (suc (suc (suc (suc (suc k)))))))))) a l u os h z = absurd (omega arith)

below_parts : (r : ℕ) (row : Row ℕ) → AllBelow r (parts_in row) → Below r row
below_parts r never w = tt
below_parts r always w = tt
below_parts r (atom a) w = tt
below_parts r (conj xs) w = w
below_parts r (disj xs) w = w
below_parts r (neg x) w = w.0
below_parts r (implies x y) w = (w.0, w.1.0)
below_parts r (historically g x) w = w.0
below_parts r (once g x) w = w.0
below_parts r (since g x y) w = (w.0, w.1.0)

pub all_below_lem : (r n : ℕ) (os : List ℕ) → n ≤ length os → ((k : ℕ) → k < n → get_or os k 0 < r) → AllBelow r (take n os)
all_below_lem r zero os h f = tt
all_below_lem r (suc n) [] h f = absurd (omega arith)
all_below_lem r (suc n) (o ∷ os) h f = (f 0 (omega arith), all_below_lem r n os (omega arith) (λ k l. f (suc k) (omega arith)))

-- ---- rows of accepted words
module _ (s : Sections) (ok : judged s ≡ 0) where
  pub rows_there : length (book_in s).rows ≡ rows_in s
  unfolding book_in
  rows_there = listed_length (row_in s) (rows_in s)

  abbrev kind : ℕ → ℕ
  kind r = kind_in s.rows r

  abbrev arg : ℕ → ℕ
  arg r = arg_in s.rows r

  -- a row's operands
  abbrev pub operands_at : ℕ → List ℕ
  operands_at r = part (start_in s.rows r) (count_of (kind r) (arg r)) s.operands

  module _ (r : ℕ) (h : r < rows_in s) where
    there : count_of (kind r) (arg r) ≤ length (drop (start_in s.rows r) s.operands)
    there = omega (arith, length-drop (start_in s.rows r) s.operands, operands_there s ok r h)

    row_is : row_at (book_in s).rows r ≡ row_in s r
    unfolding book_in
    row_is = listed_at (row_in s) never (rows_in s) r h

    pub parts_are : parts_in (row_at (book_in s).rows r) ≡ operands_at r
    unfolding row_in
    parts_are = ap parts_in row_is ∙ parts_from (kind r) (arg r) (lower_in s.rows r) (upper_in s.rows r) (drop (start_in s.rows r) s.operands) there

    pub head_are : head_in (row_at (book_in s).rows r) ≡ head_with (kind r) (arg r) (lower_in s.rows r) (upper_in s.rows r)
    unfolding row_in
    head_are =
        let f = form s ok r h in
        ap head_in row_is
        ∙ head_from (kind r) (arg r) (lower_in s.rows r) (upper_in s.rows r) (drop (start_in s.rows r) s.operands) (form_kind (kind r) (arg r) (lower_in s.rows r) (upper_in s.rows r) f)
        (λ l. bounds_none (kind r) (arg r) (lower_in s.rows r) (upper_in s.rows r) l f)

    pub operands_below : AllBelow r (operands_at r)
    operands_below = all_below_lem r (count_of (kind r) (arg r)) (drop (start_in s.rows r) s.operands) there (λ k l. rw (get_or-drop (start_in s.rows r) s.operands k 0) (operand_below s ok r h k l))

  pub book_ordered : Ordered (book_in s).rows
  book_ordered r = by_place (dec_lt r (rows_in s))
    where
      by_place : Dec (r < rows_in s) → Below r (row_at (book_in s).rows r)
      by_place (yes h) = below_parts r (row_at (book_in s).rows r) (rw (parts_are r h) (operands_below r h))
      by_place (no h) = rw (row_out (book_in s).rows r (omega (arith, rows_there))) tt
