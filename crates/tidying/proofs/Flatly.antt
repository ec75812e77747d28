-- A flat book stays flat: a temporal row lies below another in the book after a step exactly where one did before it. Assumes nothing.
use Prim.Native.Nat.{ℕ, ◌<◌}
use mathlib.Core.Path.{◌≡◌, refl, sym, ap, ap₂, ◌∙◌}
use mathlib.Core.Bool.{Bool, true, false, not, ◌&&◌, ◌||◌, or-false}
use mathlib.Core.List.{List, [], ◌∷◌, ◌++◌}
use lib.ListN.{length}
use lib.Dec.{ltb}
use Rattle.pmtl.specs.Answer.{bit_of}
use Rattle.pmtl.specs.Book.{Row, map_row, Rows, row_at, Ordered, every, some, move_rule, moves}
use Rattle.pmtl.specs.Book.Row.{never}
use Rattle.pmtl.specs.Flat.{flat_rule, flat}
use Rattle.pmtl.proofs.Table.{answer_in}
use Rattle.book.specs.Reading.{Sections}
use Rattle.book.specs.Judging.{judged, book_in}
use Rattle.trees.specs.Books.{head_in, parts_in}
use Rattle.trees.proofs.Judged.{HeadGood}
use Rattle.trees.proofs.Sections.{book_ordered}
use Rattle.trees.proofs.Sums.{sum_to}
use Rattle.tidying.specs.declared.Step.{Step}
use Rattle.tidying.specs.Steps.{parts_at, fits}
use Rattle.tidying.proofs.Fits.{In}
use Rattle.tidying.proofs.Saying.{Pairs, pairs_map, same_row, Says, Laws, said, said_all}
use Rattle.tidying.proofs.Totals.{some_sum, Owns, totals}

-- whether a row moves, by its kind
move_in : (b : Rows) (w : Ordered b) {r : ℕ} {row : Row ℕ} → In b r row → moves b r ≡ move_rule (map_row (moves b) row)
move_in b w {r} i = answer_in b false (λ r row. move_rule row) w r i.there ∙ ap (λ (row : Row ℕ). move_rule (map_row (moves b) row)) i.is

-- ---- two books
module _ (b : Rows) (w : Ordered b) (s : Step) (fit : fits b s ≡ true)
    (good_row : (r : ℕ) → r < length b → HeadGood (head_in (row_at b r)) (length (parts_at b r))) (b' : Rows) (w' : Ordered b') where
  abbrev Alike : ℕ → ℕ → Type 0
  Alike r r' = moves b r ≡ moves b' r'

  rows_alike : (row row' : Row ℕ) → head_in row ≡ head_in row' → Pairs Alike (parts_in row) (parts_in row') → map_row (moves b) row ≡ map_row (moves b') row'
  rows_alike row row' k p = same_row false (moves b) (moves b') row row' k (pairs_map (moves b) (moves b') (λ o o' e. e) (parts_in row) (parts_in row') p)

  move_laws : Laws b w s fit good_row b' w' Alike
  unfolding move_rule some
  move_laws = record {
    by_same = λ row row' i i' k y p. move_in b w i ∙ ap move_rule (rows_alike row row' k p) ∙ sym (move_in b' w' i');
    by_not_not = λ i j e. move_in b w i ∙ move_in b w j ∙ e;
    by_and = λ {r} {o} i e. move_in b w i ∙ or-false (moves b o) ∙ e;
    by_or = λ {r} {o} i e. move_in b w i ∙ or-false (moves b o) ∙ e;
    by_implies = λ {r} {x} {y} {r'} {n} {x'} {y'} z i i₁ i₂ p q. move_in b w i ∙ ap₂ ◌||◌ p q
        ∙ sym (move_in b' w' i₁ ∙ ap₂ ◌||◌ (move_in b' w' i₂) (or-false (moves b' y')));
    by_history = λ i i₁ i₂ i₃ y e. move_in b w i ∙ sym (move_in b' w' i₁ ∙ move_in b' w' i₂);
  }

  -- rows that say the same move alike
  moves_same : {r r' : ℕ} → Says b w s fit good_row b' w' r r' → moves b r ≡ moves b' r'
  moves_same y = said b w s fit good_row b' w' Alike move_laws y

  parts_move : (row row' : Row ℕ) → head_in row ≡ head_in row' → Pairs (Says b w s fit good_row b' w') (parts_in row) (parts_in row') → map_row (moves b) row ≡ map_row (moves b') row'
  parts_move row row' k p = rows_alike row row' k (said_all b w s fit good_row b' w' Alike move_laws (parts_in row) (parts_in row') p)

-- a row has a temporal one below it though it is temporal itself
abbrev nested : Rows → Row ℕ → Bool
nested b row = not (flat_rule (map_row (moves b) row))

every_not : {A : Type 0} (p : A → Bool) (xs : List A) → every p xs ≡ not (some (λ (x : A). not (p x)) xs)
unfolding every some
every_not p [] = refl
every_not p (x ∷ xs) = by_test (p x) (every_not p xs)
  where
    by_test : (z : Bool) → every p xs ≡ not (some (λ y. not (p y)) xs) → (z && every p xs) ≡ not (not z || some (λ y. not (p y)) xs)
    by_test true e = e
    by_test false e = refl

module _ (a a' : Sections) (ok : judged a ≡ 0) (ok' : judged a' ≡ 0) (s : Step) (fit : fits (book_in a).rows s ≡ true)
    (good_row : (r : ℕ) → r < length (book_in a).rows → HeadGood (head_in (row_at (book_in a).rows r)) (length (parts_at (book_in a).rows r)))
    (pairs : Pairs (Says (book_in a).rows (book_ordered a ok) s fit good_row (book_in a').rows (book_ordered a' ok')) (a.assumes ++ a.guarantees) (a'.assumes ++ a'.guarantees)) where
  abbrev b : Rows
  b = (book_in a).rows

  abbrev b' : Rows
  b' = (book_in a').rows

  abbrev w : Ordered b
  w = book_ordered a ok

  abbrev w' : Ordered b'
  w' = book_ordered a' ok'

  nested_owns : Owns a a' ok ok' s fit good_row (λ r. bit_of (nested b (row_at b r))) (λ r. bit_of (nested b' (row_at b' r)))
  unfolding flat_rule move_rule
  nested_owns = record {
    on_same = λ row row' i i' k y. ap (λ (x : Row ℕ). bit_of (nested b x)) i.is
        ∙ ap (λ (x : Row Bool). bit_of (not (flat_rule x))) (parts_move b w s fit good_row b' w' row row' k y) ∙ sym (ap (λ (x : Row ℕ). bit_of (nested b' x)) i'.is);
    on_not = λ i. ap (λ (x : Row ℕ). bit_of (nested b x)) i.is;
    on_and = λ i. ap (λ (x : Row ℕ). bit_of (nested b x)) i.is;
    on_or = λ i. ap (λ (x : Row ℕ). bit_of (nested b x)) i.is;
    on_implies = λ i. ap (λ (x : Row ℕ). bit_of (nested b x)) i.is;
    on_not' = λ i. ap (λ (x : Row ℕ). bit_of (nested b' x)) i.is;
    on_or' = λ i. ap (λ (x : Row ℕ). bit_of (nested b' x)) i.is;
    on_history = λ i i₂ i₃ y. ap (λ (x : Row ℕ). bit_of (nested b x)) i.is
        ∙ ap (λ (v : Bool). bit_of (not (not v))) (moves_same b w s fit good_row b' w' y ∙ sym (move_in b' w' i₃)) ∙ sym (ap (λ (x : Row ℕ). bit_of (nested b' x)) i₂.is);
  }

  flat_sum : (x : Rows) → flat x ≡ not (ltb 0 (sum_to (λ r. bit_of (nested x (row_at x r))) (length x)))
  unfolding flat
  flat_sum x = every_not (λ (row : Row ℕ). flat_rule (map_row (moves x) row)) x ∙ ap not (some_sum (nested x) never x)

  pub flat_same : flat b ≡ flat b'
  flat_same = flat_sum b ∙ ap (λ (n : ℕ). not (ltb 0 n)) (totals a a' ok ok' s fit good_row _ _ nested_owns pairs) ∙ sym (flat_sum b')
