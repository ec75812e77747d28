-- What is summed over a book's rows is summed over its trees, since each row is used exactly once. Assumes nothing.
use Prim.Native.Nat.{ℕ, zero, suc, ◌+◌, ◌≤◌, ◌<◌}
use mathlib.Core.Path.{◌≡◌, refl, sym, ap, ◌∙◌}
use mathlib.Core.Bool.{Bool, true, false}
use mathlib.Core.List.{List, [], ◌∷◌, ◌++◌, map}
use native.Mathlib.Omega.{arith}
use lib.ListN.{length, get_or, take}
use lib.Seq.{take-add, take-length}
use lib.Dec.{eqb}
use borrow.Author.Tests.{eqb-true, eqb-false}
use Rattle.pmtl.specs.Answer.{bit_of}
use Rattle.pmtl.specs.Book.{Rows, row_at, AllBelow}
use Rattle.book.specs.Reading.{Sections}
use Rattle.book.specs.Rows.{count_of}
use Rattle.book.specs.Judging.{kind_in, arg_in, rows_in, start_in, times_in, uses_of, judged, book_in}
use Rattle.book.proofs.Accepted.{used, assume_below, guarantee_below, operands_taken, links, linked_operand}
use Rattle.trees.specs.Forest.{Head, Forest, none, tree, one, ◌then◌, size}
use Rattle.trees.specs.Books.{head_in, parts_in, joined, tree_at, trees_of}
use Rattle.trees.proofs.Books.{tree_in}
use Rattle.trees.proofs.Sections.{all_below_lem, rows_there, operands_at, parts_are, book_ordered}

-- ---- sums
unfoldable pub sum_to : (ℕ → ℕ) → ℕ → ℕ
sum_to f zero = 0
sum_to f (suc n) = sum_to f n + f n

unfoldable pub sum_over : (ℕ → ℕ) → List ℕ → ℕ
sum_over f [] = 0
sum_over f (x ∷ xs) = f x + sum_over f xs

-- a number so many times
unfoldable many : ℕ → ℕ → ℕ
many zero v = 0
many (suc k) v = v + many k v

pub sum_append : (f : ℕ → ℕ) (xs ys : List ℕ) → sum_over f (xs ++ ys) ≡ sum_over f xs + sum_over f ys
unfolding sum_over
sum_append f [] ys = omega arith
sum_append f (x ∷ xs) ys = omega (arith, sum_append f xs ys)

pub sum_agree : (f g : ℕ → ℕ) (n : ℕ) → ((r : ℕ) → r < n → f r ≡ g r) → sum_to f n ≡ sum_to g n
unfolding sum_to
sum_agree f g zero e = refl
sum_agree f g (suc n) e = omega (arith, sum_agree f g n (λ r h. e r (omega arith)), e n (omega arith))

sum_plus : (f g : ℕ → ℕ) (n : ℕ) → sum_to (λ r. f r + g r) n ≡ sum_to f n + sum_to g n
unfolding sum_to
sum_plus f g zero = refl
sum_plus f g (suc n) = omega (arith, sum_plus f g n)

pub sum_ones : (n : ℕ) → sum_to (λ r. 1) n ≡ n
unfolding sum_to
sum_ones zero = refl
sum_ones (suc n) = omega (arith, sum_ones n)

pub sum_none : (n : ℕ) → sum_to (λ r. 0) n ≡ 0
unfolding sum_to
sum_none zero = refl
sum_none (suc n) = omega (arith, sum_none n)

many_plus : (a b v : ℕ) → many (a + b) v ≡ many a v + many b v
unfolding many
many_plus zero b v = let e : 0 + b ≡ b = omega arith in rw e (omega arith)
many_plus (suc a) b v = let e : suc a + b ≡ suc (a + b) = omega arith in rw e (omega (arith, many_plus a b v))

many_one : (v : ℕ) → many 1 v ≡ v
unfolding many
many_one v = omega arith

-- ---- where one number is met
strict : (a b : ℕ) → a ≤ b → (a ≡ b → ⊥) → a < b
strict a b l n = omega arith

-- where a sum is 0, so is each part of it
pub sum_no_part : (f : ℕ → ℕ) (n : ℕ) → sum_to f n ≡ 0 → (r : ℕ) → r < n → f r ≡ 0
unfolding sum_to
sum_no_part f zero e r h = absurd (omega arith)
sum_no_part f (suc n) e r h = by_test (eqb r n) refl (sum_no_part f n (omega (arith, e)) r)
  where
    by_test : (t : Bool) → eqb r n ≡ t → (r < n → f r ≡ 0) → f r ≡ 0
    by_test true g c = ap f (eqb-true r n g) ∙ omega (arith, e)
    by_test false g c = c (strict r n (omega arith) (eqb-false r n g))

module _ (f : ℕ → ℕ) (x : ℕ) where
  abbrev hit : ℕ → ℕ
  hit r = many (bit_of (eqb x r)) (f r)

  hit_one : (r : ℕ) → x ≡ r → hit r ≡ f r
  unfolding many
  hit_one r e = by_test (eqb x r) refl
    where
      by_test : (t : Bool) → eqb x r ≡ t → hit r ≡ f r
      by_test true g = rw g (omega arith)
      by_test false g = absurd (eqb-false x r g e)

  hit_none : (r : ℕ) → (x ≡ r → ⊥) → hit r ≡ 0
  unfolding many
  hit_none r n = by_test (eqb x r) refl
    where
      by_test : (t : Bool) → eqb x r ≡ t → hit r ≡ 0
      by_test true g = absurd (n (eqb-true x r g))
      by_test false g = rw g

  no_hit : (n : ℕ) → n ≤ x → sum_to hit n ≡ 0
  no_hit n h = sum_agree hit (λ r. 0) n (λ r l. hit_none r (λ e. omega arith)) ∙ sum_none n

  one_hit : (n : ℕ) → x < n → sum_to hit n ≡ f x
  unfolding sum_to
  one_hit zero h = absurd (omega arith)
  one_hit (suc n) h = by_test (eqb x n) refl (one_hit n)
    where
      by_test : (t : Bool) → eqb x n ≡ t → (x < n → sum_to hit n ≡ f x) → sum_to hit (suc n) ≡ f x
      by_test true g c = let e = eqb-true x n g in omega (arith, no_hit n (omega arith), hit_one n e, ap f e)
      by_test false g c = let z = eqb-false x n g in omega (arith, hit_none n z, c (strict x n (omega arith) z))

-- ---- a list in which each number is met once
over_times : (f : ℕ → ℕ) (n : ℕ) (xs : List ℕ) → AllBelow n xs → sum_over f xs ≡ sum_to (λ r. many (times_in r xs) (f r)) n
unfolding sum_over times_in many
over_times f n [] l = sym (sum_none n)
over_times f n (x ∷ xs) l =
    sym (sum_agree (λ r. many (bit_of (eqb x r) + times_in r xs) (f r)) (λ r. many (bit_of (eqb x r)) (f r) + many (times_in r xs) (f r)) n (λ r h. many_plus (bit_of (eqb x r)) (times_in r xs) (f r))
    ∙ sum_plus (λ r. many (bit_of (eqb x r)) (f r)) (λ r. many (times_in r xs) (f r)) n
    ∙ omega (arith, hits, over_times f n xs l.1))
  where
    hits : sum_to (λ r. many (bit_of (eqb x r)) (f r)) n ≡ f x
    hits = one_hit f x n l.0

all_once : (f : ℕ → ℕ) (n : ℕ) (xs : List ℕ) → AllBelow n xs → ((r : ℕ) → r < n → times_in r xs ≡ 1) → sum_over f xs ≡ sum_to f n
all_once f n xs l e = over_times f n xs l ∙ sum_agree (λ r. many (times_in r xs) (f r)) f n (λ r h. ap (λ (t : ℕ). many t (f r)) (e r h) ∙ many_one (f r))

-- ---- what the heads of trees weigh
unfoldable pub weight : (Head → ℕ) → Forest → ℕ
weight w none = 0
weight w (tree h p s) = w h + weight w p + weight w s

module _ (w : Head → ℕ) where
  pub weight_then : (f g : Forest) → weight w (f then g) ≡ weight w f + weight w g
  unfolding weight ◌then◌
  weight_then none g = omega arith
  weight_then (tree h p s) g = omega (arith, weight_then s g)

  pub weight_joined : (t : ℕ → Forest) (ps : List ℕ) → weight w (joined (map t ps)) ≡ sum_over (λ r. weight w (t r)) ps
  unfolding joined sum_over weight
  weight_joined t [] = refl
  weight_joined t (p ∷ ps) = weight_then (t p) (joined (map t ps)) ∙ omega (arith, weight_joined t ps)

  weight_trees : (b : Rows) (ps : List ℕ) → weight w (trees_of b ps) ≡ sum_over (λ r. weight w (tree_at b r)) ps
  unfolding trees_of
  weight_trees b ps = weight_joined (tree_at b) ps

  pub weight_one : (h : Head) (p : Forest) → weight w (one h p) ≡ w h + weight w p
  unfolding weight
  weight_one h p = omega arith

pub size_weight : (f : Forest) → size f ≡ weight (λ h. 1) f
unfolding size weight
size_weight none = refl
size_weight (tree h p s) = omega (arith, size_weight p, size_weight s)

pub below_append : (n : ℕ) (xs ys : List ℕ) → AllBelow n xs → AllBelow n ys → AllBelow n (xs ++ ys)
below_append n [] ys p q = q
below_append n (x ∷ xs) ys p q = (p.0, below_append n xs ys p.1 q)

under : (n : ℕ) (xs : List ℕ) → ((i : ℕ) → i < length xs → get_or xs i 0 < n) → AllBelow n xs
under n xs f = rw (take-length xs) at (all_below_lem n (length xs) xs (omega arith) f)

uses_below : (s : Sections) → judged s ≡ 0 → AllBelow (rows_in s) (uses_of s)
uses_below s ok = let n = rows_in s in below_append n (s.operands ++ s.assumes) s.guarantees
    (below_append n s.operands s.assumes (under n s.operands (linked_operand s (links s ok))) (under n s.assumes (assume_below s ok))) (under n s.guarantees (guarantee_below s ok))

over_ones : (xs : List ℕ) → sum_over (λ r. 1) xs ≡ length xs
unfolding sum_over
over_ones [] = refl
over_ones (x ∷ xs) = omega (arith, over_ones xs)

-- each row of an accepted book is an operand or a property
pub uses_many : (s : Sections) → judged s ≡ 0 → length (uses_of s) ≡ rows_in s
uses_many s ok = sym (over_ones (uses_of s)) ∙ all_once (λ r. 1) (rows_in s) (uses_of s) (uses_below s ok) (used s ok) ∙ sum_ones (rows_in s)

-- ---- where each row has its own weight and that of its operands, the properties of an accepted book weigh what its rows do
module _ (s : Sections) (ok : judged s ≡ 0) (own whole : ℕ → ℕ) (each : (r : ℕ) → r < rows_in s → whole r ≡ own r + sum_over whole (operands_at s ok r)) where
  abbrev n : ℕ
  n = rows_in s

  operands_weigh : (m : ℕ) → sum_to (λ r. sum_over whole (operands_at s ok r)) m ≡ sum_over whole (take (start_in s.rows m) s.operands)
  unfolding sum_to sum_over start_in
  operands_weigh zero = refl
  operands_weigh (suc m) =
      ap (λ (z : ℕ). z + sum_over whole (operands_at s ok m)) (operands_weigh m)
      ∙ sym (ap (sum_over whole) (take-add (start_in s.rows m) (count_of (kind_in s.rows m) (arg_in s.rows m)) s.operands)
      ∙ sum_append whole (take (start_in s.rows m) s.operands) (operands_at s ok m))

  pub properties_weigh : sum_over whole s.assumes + sum_over whole s.guarantees ≡ sum_to own n
  properties_weigh =
      let all = all_once whole n (uses_of s) (uses_below s ok) (used s ok) in
      let parts = sum_agree whole (λ r. own r + sum_over whole (operands_at s ok r)) n each ∙ sum_plus own (λ r. sum_over whole (operands_at s ok r)) n in
      let taken = operands_weigh n ∙ ap (λ (z : ℕ). sum_over whole (take z s.operands)) (operands_taken s ok) ∙ ap (sum_over whole) (take-length s.operands) in
      omega (arith, all, parts, taken, sum_append whole (s.operands ++ s.assumes) s.guarantees, sum_append whole s.operands s.assumes)

-- ---- the trees of an accepted book weigh what its rows weigh
module _ (s : Sections) (ok : judged s ≡ 0) (w : Head → ℕ) where
  abbrev b : Rows
  b = (book_in s).rows

  abbrev own : ℕ → ℕ
  own r = w (head_in (row_at b r))

  abbrev whole : ℕ → ℕ
  whole r = weight w (tree_at b r)

  row_weighs : (r : ℕ) → r < rows_in s → whole r ≡ own r + sum_over whole (operands_at s ok r)
  row_weighs r h =
      ap (weight w) (tree_in b (book_ordered s ok) r (omega (arith, rows_there s ok)))
      ∙ weight_one w (head_in (row_at b r)) (trees_of b (parts_in (row_at b r)))
      ∙ ap (λ (z : ℕ). own r + z) (weight_trees w b (parts_in (row_at b r)) ∙ ap (sum_over whole) (parts_are s ok r h))

  pub trees_weigh : weight w (trees_of b s.assumes) + weight w (trees_of b s.guarantees) ≡ sum_to own (rows_in s)
  trees_weigh = omega (arith, properties_weigh s ok own whole row_weighs, weight_trees w b s.assumes, weight_trees w b s.guarantees)
