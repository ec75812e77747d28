-- A strict book stays strict: no row of the book after a step can need more runs than a set may have, where none could before it.
-- Assumes nothing.
use Prim.Native.Nat.{ℕ, ◌≤◌}
use Rattle.lists.proofs.Tests.{lt_or_ge}
use mathlib.Core.Path.{◌≡◌, refl, sym, ap, ◌∙◌}
use mathlib.Core.Logic.{⊎_elim}
use mathlib.Core.Bool.{Bool, true, false}
use mathlib.Core.List.{[], map, map-append}
use native.Mathlib.Omega.{arith}
use lib.ListN.{length}
use borrow.Author.Tests.{ltb-true, ltb-false}
use Rattle.numbers.specs.Limits.{MOST_RUNS}
use Rattle.pmtl.specs.Answer.{bit_of}
use Rattle.pmtl.specs.Book.{Row, Rows, row_at}
use Rattle.pmtl.specs.Book.Row.{never, always, atom, conj, disj, neg, implies, historically, once, since}
use Rattle.pmtl.specs.Strict.{needed_by, Strict, over}
use Rattle.pmtl.proofs.Table.{row_out}
use Rattle.book.specs.Reading.{Sections}
use Rattle.book.specs.Private.{Few}
use Rattle.book.specs.Judging.{rows_in, judged, book_in}
use Rattle.trees.specs.Forest.{Head, ◌then◌}
use Rattle.trees.specs.Numbered.{row_with}
use Rattle.trees.specs.Books.{head_in, joined, tree_at, trees_of}
use Rattle.trees.proofs.Sections.{rows_there}
use Rattle.trees.proofs.Sums.{sum_to, sum_agree, sum_none, sum_no_part, weight, weight_then, trees_weigh}
use Rattle.tidying.specs.declared.Step.{Step}
use Rattle.tidying.specs.Steps.{fits, stepped_of, past_limit}
use Rattle.tidying.proofs.Remade.{joined_append}
use Rattle.tidying.proofs.Weighed.{Unmoved, weigh_same}
use Rattle.tidying.proofs.Accepted.{good_row, after_step, trees_made, all_trees}

-- whether a row with this head can need more runs than a set may have, as a weight
abbrev over_head : Head → ℕ
over_head h = bit_of (over {X = ℕ} (row_with 0 h []))

over_row : (row : Row ℕ) → over_head (head_in row) ≡ bit_of (over row)
unfolding row_with needed_by
over_row never = refl
over_row always = refl
over_row (atom a) = refl
over_row (conj xs) = refl
over_row (disj xs) = refl
over_row (neg x) = refl
over_row (implies x y) = refl
over_row (historically g x) = refl
over_row (once g x) = refl
over_row (since g x y) = refl

over_unmoved : Unmoved over_head
unfolding row_with needed_by
over_unmoved = record { nots = refl; ands = refl; ors = refl; implications = refl; histories = λ l u. refl }

-- a row weighs nothing exactly if it cannot need more
weighs_nothing : (row : Row ℕ) → needed_by row ≤ MOST_RUNS → over_head (head_in row) ≡ 0
weighs_nothing row h = over_row row ∙ by_test (over row) refl
  where
    by_test : (z : Bool) → over row ≡ z → bit_of z ≡ 0
    by_test true e = absurd (omega (arith, h, ltb-true MOST_RUNS (needed_by row) e))
    by_test false e = refl

needs_few : (row : Row ℕ) → over_head (head_in row) ≡ 0 → needed_by row ≤ MOST_RUNS
needs_few row h = by_test (over row) refl (sym (over_row row) ∙ h)
  where
    by_test : (z : Bool) → over row ≡ z → bit_of z ≡ 0 → needed_by row ≤ MOST_RUNS
    by_test true e z = absurd (omega (arith, z))
    by_test false e z = ltb-false MOST_RUNS (needed_by row) e

module _ (a : Sections) (few : Few a) (ok : judged a ≡ 0) (s : Step) (fit : fits (book_in a).rows s ≡ true)
    (short : past_limit (stepped_of (book_in a).rows s a.assumes then stepped_of (book_in a).rows s a.guarantees) ≡ false) where
  abbrev b : Rows
  b = (book_in a).rows

  abbrev a' : Sections
  a' = (after_step a few ok s fit short).all

  abbrev ok' : judged a' ≡ 0
  ok' = (after_step a few ok s fit short).ok

  abbrev b' : Rows
  b' = (book_in a').rows

  -- both books weigh the same
  trees' : trees_of b' a'.assumes then trees_of b' a'.guarantees ≡ stepped_of b s a.assumes then stepped_of b s a.guarantees
  unfolding trees_of
  trees' =
      sym (ap joined (map-append (tree_at b') a'.assumes a'.guarantees) ∙ joined_append (map (tree_at b') a'.assumes) (map (tree_at b') a'.guarantees))
      ∙ ap joined (trees_made a few ok s fit short) ∙ sym (all_trees a few ok s fit short)

  weigh_alike : sum_to (λ r. over_head (head_in (row_at b' r))) (rows_in a') ≡ sum_to (λ r. over_head (head_in (row_at b r))) (rows_in a)
  weigh_alike =
      sym (trees_weigh a' ok' over_head) ∙ sym (weight_then over_head (trees_of b' a'.assumes) (trees_of b' a'.guarantees))
      ∙ ap (weight over_head) trees' ∙ weigh_same a ok s fit (good_row a few ok s fit) over_head over_unmoved

  pub strict_stays : Strict b → Strict b'
  unfolding needed_by
  strict_stays strict r = ⊎_elim
      (λ l. needs_few (row_at b' r) (sum_no_part (λ i. over_head (head_in (row_at b' i))) (rows_in a') nothing r (omega (arith, rows_there a' ok'))))
      (λ l. rw (row_out b' r l) (omega arith))
      (lt_or_ge r (length b'))
    where
      nothing : sum_to (λ i. over_head (head_in (row_at b' i))) (rows_in a') ≡ 0
      nothing = weigh_alike ∙ sum_agree (λ i. over_head (head_in (row_at b i))) (λ i. 0) (rows_in a) (λ i h. weighs_nothing (row_at b i) (strict i)) ∙ sum_none (rows_in a)
