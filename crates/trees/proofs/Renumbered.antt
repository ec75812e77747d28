-- An accepted book is accepted again when its properties are numbered anew from their trees. Assumes nothing.
use Prim.Native.Nat.{ℕ, zero, suc, ◌≤◌, ◌<◌}
use mathlib.Core.Path.{◌≡◌, refl, sym, ap, ◌∙◌}
use mathlib.Core.Bool.{true}
use mathlib.Core.List.{List, [], ◌∷◌}
use native.Mathlib.Omega.{arith}
use lib.ListN.{length, get_or}
use lib.Seq.{take-length}
use borrow.Author.Tests.{eqb-true}
use Rattle.numbers.specs.Refusals.{ACCEPTED}
use Rattle.lists.proofs.Parts.{part_length}
use Rattle.pmtl.specs.Answer.{bit_of}
use Rattle.pmtl.specs.Book.{Rows, row_at, AllBelow}
use Rattle.pmtl.proofs.Table.{by_rows}
use Rattle.book.specs.Reading.{Sections}
use Rattle.book.specs.Rows.{count_of, temporal}
use Rattle.book.specs.Private.{Few}
use Rattle.book.specs.Judging.{kind_in, arg_in, lower_in, upper_in, rows_in, start_in, temporals_in, arg_good, judged, book_in, loaded}
use Rattle.book.proofs.Accepted.{form, form_arg, form_kind, range, temporals_fit, operands_there, assume_below, guarantee_below}
use Rattle.trees.specs.Forest.{Head, Forest, ◌then◌, count, size}
use Rattle.book.specs.Kinds.{word_of_kind, kind_of_word}
use Rattle.trees.specs.Building.{arg_of, atom_of, words_of}
use Rattle.trees.specs.Books.{head_in, parts_in, joined, tree_at, trees_of}
use Rattle.trees.proofs.Numbered.{size_then}
use Rattle.trees.proofs.Books.{AllOf, each_below, below_up, parts_below, tree_in, trees_count, trees_good}
use Rattle.trees.proofs.Sections.{all_below_lem, rows_there, parts_are, head_are, book_ordered}
use Rattle.trees.proofs.Sums.{sum_to, sum_agree, sum_ones, weight, weight_then, size_weight, trees_weigh}
use Rattle.trees.proofs.Judged.{HeadGood, HeadsGood, heads_then, temporal_head, words_accepted}

-- ---- a row's words, back from its head
pub kind_back : (k : ℕ) → k ≤ 9 → word_of_kind (kind_of_word k) ≡ k
unfolding kind_of_word
kind_back zero h = refl
kind_back (suc zero) h = refl
kind_back (suc (suc zero)) h = refl
kind_back (suc (suc (suc zero))) h = refl
kind_back (suc (suc (suc (suc zero)))) h = refl
kind_back (suc (suc (suc (suc (suc zero))))) h = refl
kind_back (suc (suc (suc (suc (suc (suc zero)))))) h = refl
kind_back (suc (suc (suc (suc (suc (suc (suc zero))))))) h = refl
kind_back (suc (suc (suc (suc (suc (suc (suc (suc zero)))))))) h = refl
kind_back (suc (suc (suc (suc (suc (suc (suc (suc (suc zero))))))))) h = refl
kind_back (suc (suc (suc (suc (suc (suc (suc (suc (suc (suc k)))))))))) h = absurd (omega arith)

pub arg_back : (k a : ℕ) → k ≤ 9 → arg_good k a ≡ true → arg_of (kind_of_word k) (atom_of (kind_of_word k) a) (count_of k a) ≡ a
unfolding kind_of_word arg_good count_of
arg_back zero a h g = sym (eqb-true a 0 g)
arg_back (suc zero) a h g = sym (eqb-true a 0 g)
arg_back (suc (suc zero)) a h g = refl
arg_back (suc (suc (suc zero))) a h g = refl
arg_back (suc (suc (suc (suc zero)))) a h g = refl
arg_back (suc (suc (suc (suc (suc zero))))) a h g = sym (eqb-true a 1 g)
arg_back (suc (suc (suc (suc (suc (suc zero)))))) a h g = sym (eqb-true a 2 g)
arg_back (suc (suc (suc (suc (suc (suc (suc zero))))))) a h g = sym (eqb-true a 1 g)
arg_back (suc (suc (suc (suc (suc (suc (suc (suc zero)))))))) a h g = sym (eqb-true a 1 g)
arg_back (suc (suc (suc (suc (suc (suc (suc (suc (suc zero))))))))) a h g = sym (eqb-true a 2 g)
arg_back (suc (suc (suc (suc (suc (suc (suc (suc (suc (suc k)))))))))) a h g = absurd (omega arith)

temporals_sum : (ws : List ℕ) (n : ℕ) → sum_to (λ r. bit_of (temporal (kind_in ws r))) n ≡ temporals_in ws n
unfolding sum_to temporals_in
temporals_sum ws zero = refl
temporals_sum ws (suc n) = omega (arith, temporals_sum ws n)

-- ---- an accepted book
module _ (s : Sections) (ok : judged s ≡ 0) where
  abbrev b : Rows
  b = (book_in s).rows

  abbrev k : ℕ → ℕ
  k r = kind_in s.rows r

  abbrev a : ℕ → ℕ
  a r = arg_in s.rows r

  pub low_kind : (r : ℕ) → r < rows_in s → k r ≤ 9
  low_kind r h = form_kind (k r) (a r) (lower_in s.rows r) (upper_in s.rows r) (form s ok r h)

  pub kind_is : (r : ℕ) → r < rows_in s → word_of_kind (head_in (row_at b r)).word ≡ k r
  kind_is r h = ap (λ (z : Head). word_of_kind z.word) (head_are s ok r h) ∙ kind_back (k r) (low_kind r h)

  pub head_good : (r : ℕ) → r < rows_in s → (m : ℕ) → m ≡ length (parts_in (row_at b r)) → HeadGood (head_in (row_at b r)) m
  head_good r h m e =
      let f = form s ok r h in
      let c : m ≡ count_of (k r) (a r) = e ∙ ap length (parts_are s ok r h) ∙ part_length (start_in s.rows r) (count_of (k r) (a r)) s.operands (operands_there s ok r h) in
      rw (head_are s ok r h, c, kind_back (k r) (low_kind r h), arg_back (k r) (a r) (low_kind r h) (form_arg (k r) (a r) (lower_in s.rows r) (upper_in s.rows r) f)) (f, range s ok r h)

  trees_each : (ps : List ℕ) → AllOf (λ r. HeadsGood (tree_at b r)) ps → HeadsGood (trees_of b ps)
  unfolding trees_of joined
  trees_each [] l = tt
  trees_each (p ∷ ps) l = heads_then (tree_at b p) (trees_of b ps) l.0 (trees_each ps l.1)

  tree_heads : (r : ℕ) → r < length b → HeadsGood (tree_at b r)
  tree_heads = by_rows (λ r. r < length b → HeadsGood (tree_at b r)) λ r below h.
      let row = row_at b r in
      let w = book_ordered s ok in
      let u = parts_below r row (w r) in
      let c = trees_count b w (parts_in row) (below_up r (length b) (parts_in row) (omega arith) u) in
      rw (tree_in b w r h) (head_good r (omega (arith, rows_there s ok)) (count (trees_of b (parts_in row))) c, trees_each (parts_in row) (each_below (λ o. HeadsGood (tree_at b o)) r (λ o l. below o l (omega arith)) (parts_in row) u), tt)

  trees_heads : (ps : List ℕ) → AllBelow (length b) ps → HeadsGood (trees_of b ps)
  trees_heads ps l = trees_each ps (each_below (λ r. HeadsGood (tree_at b r)) (length b) tree_heads ps l)

  pub below : (ps : List ℕ) → ((i : ℕ) → i < length ps → get_or ps i 0 < rows_in s) → AllBelow (length b) ps
  below ps f = rw (take-length ps) at (all_below_lem (length b) (length ps) ps (omega arith) (λ i h. rw (rows_there s ok) (f i h)))

  abbrev assumed : Forest
  assumed = trees_of b s.assumes

  abbrev gs : Forest
  gs = trees_of b s.guarantees

  -- as many rows, and as many temporal ones
  pub size_same : size (assumed then gs) ≡ rows_in s
  size_same = omega (arith, size_then assumed gs, size_weight assumed, size_weight gs, trees_weigh s ok (λ h. 1), sum_ones (rows_in s))

  pub temporals_same : weight temporal_head (assumed then gs) ≡ temporals_in s.rows (rows_in s)
  temporals_same =
      weight_then temporal_head assumed gs ∙ trees_weigh s ok temporal_head
      ∙ sum_agree (λ r. temporal_head (head_in (row_at b r))) (λ r. bit_of (temporal (k r))) (rows_in s) (λ r h. ap (λ (z : ℕ). bit_of (temporal z)) (kind_is r h))
      ∙ temporals_sum s.rows (rows_in s)

  pub renumbered_accepted : Few s → (loaded (words_of assumed gs)).number ≡ ACCEPTED
  renumbered_accepted few =
      let w = book_ordered s ok in
      let la = below s.assumes (assume_below s ok) in
      let lg = below s.guarantees (guarantee_below s ok) in
      words_accepted assumed gs (trees_good b w s.assumes la) (trees_good b w s.guarantees lg) (trees_heads s.assumes la) (trees_heads s.guarantees lg)
      (omega (arith, size_same, few.rows)) (omega (arith, trees_count b w s.assumes la, few.assumes)) (omega (arith, trees_count b w s.guarantees lg, few.guarantees)) (omega (arith, temporals_same, temporals_fit s ok))
