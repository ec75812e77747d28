-- The book after a step that fits and does not grow too long is accepted, and its properties say what those of the book before it say.
-- Assumes nothing.
use Prim.Native.Nat.{ℕ, ◌+◌, ◌≤◌, ◌<◌}
use mathlib.Core.Path.{◌≡◌, refl, sym, ap, ◌∙◌}
use mathlib.Core.Bool.{Bool, true, false, ◌||◌}
use mathlib.Core.List.{List, ◌++◌, map, map-append}
use native.Mathlib.Omega.{arith}
use lib.ListN.{length, length-map}
use lib.Dec.{ltb}
use borrow.Author.Tests.{ltb-false}
use Rattle.numbers.specs.Limits.{MOST_ROWS, MOST_OPERANDS}
use Rattle.numbers.specs.Refusals.{ACCEPTED}
use Rattle.pmtl.specs.Book.{Rows, row_at, Book, properties, AllBelow, Ordered}
use Rattle.book.specs.Reading.{Sections}
use Rattle.book.specs.Private.{Few}
use Rattle.book.specs.Judging.{judged, book_in, loaded}
use Rattle.book.proofs.Accepted.{assume_below, guarantee_below, temporals_fit}
use Rattle.trees.specs.Forest.{Forest, none, ◌then◌, count, size, roots, entries, Good}
use Rattle.trees.specs.Numbered.{rows_from, book_of, folded}
use Rattle.trees.specs.Building.{all_operands, words_of}
use Rattle.trees.specs.Books.{head_in, joined, tree_rule, tree_at, trees_of}
use Rattle.trees.proofs.Numbered.{roots_then, roots_length, good_then}
use Rattle.trees.proofs.Sections.{rows_there, book_ordered}
use Rattle.trees.proofs.Sums.{weight, weight_then, below_append, trees_weigh}
use Rattle.trees.proofs.Judged.{HeadGood, temporal_head, words_accepted}
use Rattle.trees.proofs.Renumbered.{head_good, below, temporals_same}
use Rattle.trees.proofs.Words.{loaded_words}
use Rattle.trees.proofs.Loaded.{Accepted, accepted_words}
use Rattle.trees.proofs.Back.{again_all, trees_again}
use Rattle.tidying.specs.declared.Step.{Step}
use Rattle.tidying.specs.Steps.{parts_at, fits, stepped_at, stepped_of, past_limit}
use Rattle.tidying.proofs.Remade.{joined_append, AllSane, all_sane, list_fine}
use Rattle.tidying.proofs.Weighed.{Unmoved, weigh_same}
use Rattle.tidying.proofs.Saying.{Pairs, Says, says_all}

-- what a test of two parts says where it fails
neither : (x y : Bool) → (x || y) ≡ false → x ≡ false
neither true y e = e
neither false y e = refl

module _ (a : Sections) (few : Few a) (ok : judged a ≡ 0) (s : Step) (fit : fits (book_in a).rows s ≡ true) where
  abbrev b : Rows
  b = (book_in a).rows

  abbrev w : Ordered b
  w = book_ordered a ok

  abbrev st : ℕ → Forest
  st = stepped_at b s

  -- the heads of its rows are good
  pub good_row : (r : ℕ) → r < length b → HeadGood (head_in (row_at b r)) (length (parts_at b r))
  good_row r h = head_good a ok r (omega (arith, rows_there a ok)) (length (parts_at b r)) refl

  assumes_low : AllBelow (length b) a.assumes
  assumes_low = below a ok a.assumes (assume_below a ok)

  guarantees_low : AllBelow (length b) a.guarantees
  guarantees_low = below a ok a.guarantees (guarantee_below a ok)

  sane : (ps : List ℕ) → AllBelow (length b) ps → AllSane (map st ps)
  sane ps l = all_sane (map st ps) (list_fine b w s fit good_row ps l)

  abbrev fs : Forest
  fs = stepped_of b s a.assumes

  abbrev gs : Forest
  gs = stepped_of b s a.guarantees

  -- ---- as many temporal rows
  temporals_unmoved : Unmoved temporal_head
  temporals_unmoved = record { nots = refl; ands = refl; ors = refl; implications = refl; histories = λ l u. refl }

  temporals_after : weight temporal_head (fs then gs) ≤ 32
  temporals_after = omega (arith, weigh_same a ok s fit good_row temporal_head temporals_unmoved, weight_then temporal_head (trees_of b a.assumes) (trees_of b a.guarantees), trees_weigh a ok temporal_head, temporals_same a ok, temporals_fit a ok)

  -- ---- as many properties
  good_a : Good fs
  unfolding stepped_of
  good_a = (sane a.assumes assumes_low).good

  good_g : Good gs
  unfolding stepped_of
  good_g = (sane a.guarantees guarantees_low).good

  pub count_a : count fs ≡ length a.assumes
  unfolding stepped_of
  count_a = (sane a.assumes assumes_low).counted ∙ length-map a.assumes st

  pub count_g : count gs ≡ length a.guarantees
  unfolding stepped_of
  count_g = (sane a.guarantees guarantees_low).counted ∙ length-map a.guarantees st

  -- ---- accepted, with the trees after the step
  module _ (short : past_limit (fs then gs) ≡ false) where
    few_rows : size (fs then gs) ≤ MOST_ROWS
    unfolding past_limit
    few_rows = ltb-false MOST_ROWS (size (fs then gs)) (neither (ltb MOST_ROWS (size (fs then gs))) (ltb MOST_OPERANDS (length (all_operands (entries 0 (fs then gs))))) short)

    pub step_accepted : (loaded (words_of fs gs)).number ≡ ACCEPTED
    unfolding stepped_of
    step_accepted = words_accepted fs gs good_a good_g (sane a.assumes assumes_low).heads (sane a.guarantees guarantees_low).heads
        few_rows (omega (arith, count_a, few.assumes)) (omega (arith, count_g, few.guarantees)) temporals_after

    pub after_step : Accepted (words_of fs gs)
    after_step = accepted_words (words_of fs gs) step_accepted

    abbrev a' : Sections
    a' = after_step.all

    abbrev ok' : judged a' ≡ 0
    ok' = after_step.ok

    abbrev b' : Rows
    b' = (book_in a').rows

    book' : book_in a' ≡ book_of fs gs
    book' = sym after_step.book_is ∙ loaded_words fs gs good_a good_g step_accepted

    pub all_trees : fs then gs ≡ joined (map st (a.assumes ++ a.guarantees))
    unfolding stepped_of
    all_trees = sym (ap joined (map-append st a.assumes a.guarantees) ∙ joined_append (map st a.assumes) (map st a.guarantees))

    -- the properties of the new book have the trees that the step made
    pub trees_made : map (tree_at b') (a'.assumes ++ a'.guarantees) ≡ map st (a.assumes ++ a.guarantees)
    unfolding book_of book_in
    trees_made =
        let z : 0 + size fs ≡ size fs = omega arith in
        let roots-are : properties (book_of fs gs) ≡ roots 0 (fs then gs) = sym (rw z at (roots_then 0 fs gs)) in
        let low = below_append (length b) a.assumes a.guarantees assumes_low guarantees_low in
        ap (λ (k : Book). map (tree_at k.rows) (properties k)) book'
        ∙ ap (map (tree_at (rows_from 0 (fs then gs)))) roots-are
        ∙ trees_again (fs then gs) (good_then fs gs good_a good_g)
        ∙ ap (folded none tree_rule) all_trees
        ∙ again_all (map st (a.assumes ++ a.guarantees)) (sane (a.assumes ++ a.guarantees) low).singles

    pub properties_say : Pairs (Says b w s fit good_row b' (book_ordered a' ok')) (a.assumes ++ a.guarantees) (a'.assumes ++ a'.guarantees)
    properties_say = says_all b w s fit good_row b' (book_ordered a' ok') (a.assumes ++ a.guarantees) (a'.assumes ++ a'.guarantees)
        (below_append (length b) a.assumes a.guarantees assumes_low guarantees_low)
        (below_append (length b') a'.assumes a'.guarantees (below a' ok' a'.assumes (assume_below a' ok')) (below a' ok' a'.guarantees (guarantee_below a' ok')))
        trees_made

    pub assumes_many : length a.assumes ≡ length a'.assumes
    unfolding book_of book_in
    assumes_many = sym (ap (λ (k : Book). length k.assumes) book' ∙ roots_length 0 fs ∙ count_a)
