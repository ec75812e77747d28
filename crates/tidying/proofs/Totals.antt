-- What is summed over the rows of a book is summed over those of the book after a step, so that both name the same largest atom and their
-- sets are full in the same calls. Assumes nothing.
use Prim.Native.Nat.{ℕ, zero, suc, ◌+◌, ◌<◌, max}
use mathlib.Core.Path.{◌≡◌, refl, sym, ap, ap₂, ◌∙◌}
use mathlib.Core.Bool.{Bool, true, false, ◌||◌}
use mathlib.Core.List.{List, [], ◌∷◌, ◌++◌, map}
use mathlib.Core.Logic.{⊎_elim}
use native.Mathlib.Omega.{arith}
use lib.ListN.{length, get_or, length-replicate}
use lib.Dec.{ltb}
use borrow.Author.Tests.{ltb-true, ltb-false, lt-ltb, le-ltb}
use Rattle.lists.proofs.Tests.{lt_or_ge, same_test, or_elim, or_left, or_right}
use Rattle.numset.specs.Runs.{Runs}
use Rattle.numbers.specs.Limits.{MOST_RUNS}
use Rattle.pmtl.specs.Answer.{bit_of}
use Rattle.pmtl.specs.Book.{Range, Row, map_row, Rows, row_at, Ordered, atom_width, width_of, answer, some}
use Rattle.pmtl.specs.Book.Row.{never, always, atom, conj, disj, neg, implies, historically, once, since}
use Rattle.pmtl.specs.Sets.{set_rule_by, set_rule}
use Rattle.pmtl.specs.Monitor.{fullest, initial_in, value}
use Rattle.pmtl.specs.Calls.{crowded, History}
use Rattle.pmtl.specs.Past.{run_by, run}
use Rattle.pmtl.proofs.Table.{answer_in}
use Rattle.pmtl.proofs.Answers.{step_sets}
use Rattle.pmtl.proofs.Fullest.{same_most}
use Rattle.book.specs.Reading.{Sections}
use Rattle.book.specs.Judging.{rows_in, judged, book_in}
use Rattle.trees.specs.Forest.{Head}
use Rattle.trees.specs.Books.{head_in, parts_in}
use Rattle.book.specs.declared.kind.Kind.TheVariants.{False, True, Atom, And, Or, Not, Implies, Historically, Once, Since}
use Rattle.trees.proofs.Books.{parts_map}
use Rattle.trees.proofs.Judged.{HeadGood}
use Rattle.trees.proofs.Sections.{rows_there, operands_at, parts_are, book_ordered}
use Rattle.trees.proofs.Sums.{sum_to, sum_over, sum_append, properties_weigh}
use Rattle.tidying.specs.declared.Step.{Step}
use Rattle.tidying.specs.Steps.{parts_at, fits}
use Rattle.tidying.proofs.Fits.{In}
use Rattle.tidying.proofs.Saying.{Pairs, pairs_map, Says, Laws, said_all}
use Rattle.tidying.proofs.Values.{set_of, set_none, set_in_lem, same_sets, history_sets}

-- ---- sums over lists
abbrev sum_all : List ℕ → ℕ
sum_all = sum_over (λ n. n)

sum_map : (f : ℕ → ℕ) (os : List ℕ) → sum_all (map f os) ≡ sum_over f os
unfolding sum_over
sum_map f [] = refl
sum_map f (o ∷ os) = ap (λ (n : ℕ). f o + n) (sum_map f os)

sum_shift : (f : ℕ → ℕ) (n : ℕ) → sum_to f (suc n) ≡ f 0 + sum_to (λ r. f (suc r)) n
unfolding sum_to
sum_shift f zero = omega arith
sum_shift f (suc n) = omega (arith, sum_shift f n)

bit_or : (x : Bool) (n : ℕ) → (x || ltb 0 n) ≡ ltb 0 (bit_of x + n)
bit_or true n = sym (lt-ltb 0 (1 + n) (omega arith))
bit_or false n = let e : 0 + n ≡ n = omega arith in ap (ltb 0) (sym e)

-- a test passes somewhere in a list
pub some_sum : {A : Type 0} (p : A → Bool) (d : A) (xs : List A) → some p xs ≡ ltb 0 (sum_to (λ r. bit_of (p (get_or xs r d))) (length xs))
unfolding some sum_to
some_sum p d [] = refl
some_sum p d (x ∷ xs) = ap (λ (z : Bool). p x || z) (some_sum p d xs) ∙ bit_or (p x) (sum_to (λ r. bit_of (p (get_or xs r d))) (length xs)) ∙ ap (ltb 0) (sym (sum_shift (λ r. bit_of (p (get_or (x ∷ xs) r d))) (length xs)))

-- ---- the weight of a row: its own, and those of its operands
module _ (b : Rows) (w : Ordered b) (own : ℕ → ℕ) where
  unfoldable whole_of : ℕ → ℕ
  whole_of = answer b 0 (λ r row. own r + sum_all (parts_in row))

  whole_in : {r : ℕ} {row : Row ℕ} → In b r row → whole_of r ≡ own r + sum_over whole_of (parts_in row)
  unfolding whole_of
  whole_in {r} {row} i =
      answer_in b 0 (λ r row. own r + sum_all (parts_in row)) w r i.there
      ∙ ap (λ (z : List ℕ). own r + sum_all z) (parts_map whole_of (row_at b r))
      ∙ ap (λ (z : ℕ). own r + z) (sum_map whole_of (parts_in (row_at b r)) ∙ ap (λ (z : Row ℕ). sum_over whole_of (parts_in z)) i.is)

  whole_none : {r : ℕ} {row : Row ℕ} → In b r row → own r ≡ 0 → whole_of r ≡ sum_over whole_of (parts_in row)
  whole_none {r} {row} i e = omega (arith, whole_in i)

sum_one : (f : ℕ → ℕ) (o : ℕ) → sum_over f (o ∷ []) ≡ f o
unfolding sum_over
sum_one f o = omega arith

sum_two : (f : ℕ → ℕ) (x y : ℕ) → sum_over f (x ∷ y ∷ []) ≡ f x + f y
unfolding sum_over
sum_two f x y = omega arith

-- ---- two books, accepted
module _ (a a' : Sections) (ok : judged a ≡ 0) (ok' : judged a' ≡ 0) (s : Step) (fit : fits (book_in a).rows s ≡ true)
    (good_row : (r : ℕ) → r < length (book_in a).rows → HeadGood (head_in (row_at (book_in a).rows r)) (length (parts_at (book_in a).rows r))) where
  abbrev b : Rows
  b = (book_in a).rows

  abbrev b' : Rows
  b' = (book_in a').rows

  abbrev w : Ordered b
  w = book_ordered a ok

  abbrev w' : Ordered b'
  w' = book_ordered a' ok'

  abbrev Say : ℕ → ℕ → Type 0
  Say = Says b w s fit good_row b' w'

  -- rows that are the same weigh the same, and so does a Once what its Historically did; And, Or, Not and Implies weigh nothing
  pub record Owns (own own' : ℕ → ℕ) : Type 0 where
    pub on_same : {r r' : ℕ} (row row' : Row ℕ) → In b r row → In b' r' row' → head_in row ≡ head_in row' → Pairs Say (parts_in row) (parts_in row') → own r ≡ own' r'
    pub on_not : {r o : ℕ} → In b r (neg o) → own r ≡ 0
    pub on_and : {r : ℕ} {os : List ℕ} → In b r (conj os) → own r ≡ 0
    pub on_or : {r : ℕ} {os : List ℕ} → In b r (disj os) → own r ≡ 0
    pub on_implies : {r x y : ℕ} → In b r (implies x y) → own r ≡ 0
    pub on_not' : {r o : ℕ} → In b' r (neg o) → own' r ≡ 0
    pub on_or' : {r : ℕ} {os : List ℕ} → In b' r (disj os) → own' r ≡ 0
    pub on_history : {g : Range} {r x n m x' : ℕ} → In b r (historically g x) → In b' n (once g m) → In b' m (neg x') → Say x x' → own r ≡ own' n

  module _ (own own' : ℕ → ℕ) (o : Owns own own') where
    abbrev f : ℕ → ℕ
    f = whole_of b w own

    abbrev f' : ℕ → ℕ
    f' = whole_of b' w' own'

    sums_same : (os os' : List ℕ) → Pairs (λ r r'. f r ≡ f' r') os os' → sum_over f os ≡ sum_over f' os'
    sums_same os os' p = sym (sum_map f os) ∙ ap sum_all (pairs_map f f' (λ r r' e. e) os os' p) ∙ sum_map f' os'

    whole_laws : Laws b w s fit good_row b' w' (λ r r'. f r ≡ f' r')
    whole_laws = record {
      by_same = λ {r} {r'} row row' i i' k y p. whole_in b w own i ∙ ap₂ ◌+◌ (o.on_same row row' i i' k y) (sums_same (parts_in row) (parts_in row') p) ∙ sym (whole_in b' w' own' i');
      by_not_not = λ {r} {o = x} {p} i j e. whole_none b w own i (o.on_not i) ∙ sum_one f x ∙ whole_none b w own j (o.on_not j) ∙ sum_one f p ∙ e;
      by_and = λ {r} {o = x} i e. whole_none b w own i (o.on_and i) ∙ sum_one f x ∙ e;
      by_or = λ {r} {o = x} i e. whole_none b w own i (o.on_or i) ∙ sum_one f x ∙ e;
      by_implies = λ {r} {x} {y} {r'} {n} {x'} {y'} z i i₁ i₂ p q. whole_none b w own i (o.on_implies i) ∙ sum_two f x y ∙ ap₂ ◌+◌ p q
          ∙ sym (whole_none b' w' own' i₁ (o.on_or' i₁) ∙ sum_two f' n y' ∙ ap (λ (z : ℕ). z + f' y') (whole_none b' w' own' i₂ (o.on_not' i₂) ∙ sum_one f' x'));
      by_history = λ {g} {r} {x} {r'} {n} {m} {x'} i i₁ i₂ i₃ y e. whole_in b w own i ∙ ap₂ ◌+◌ (o.on_history i i₂ i₃ y) (sum_one f x ∙ e)
          ∙ sym (whole_none b' w' own' i₁ (o.on_not' i₁) ∙ sum_one f' n ∙ whole_in b' w' own' i₂ ∙ ap (λ (z : ℕ). own' n + z) (sum_one f' m ∙ whole_none b' w' own' i₃ (o.on_not' i₃) ∙ sum_one f' x'));
    }

    each : (r : ℕ) → r < rows_in a → f r ≡ own r + sum_over f (operands_at a ok r)
    each r h = whole_in b w own (record { there = omega (arith, rows_there a ok); is = refl }) ∙ ap (λ (z : List ℕ). own r + sum_over f z) (parts_are a ok r h)

    each' : (r : ℕ) → r < rows_in a' → f' r ≡ own' r + sum_over f' (operands_at a' ok' r)
    each' r h = whole_in b' w' own' (record { there = omega (arith, rows_there a' ok'); is = refl }) ∙ ap (λ (z : List ℕ). own' r + sum_over f' z) (parts_are a' ok' r h)

    pub totals : Pairs Say (a.assumes ++ a.guarantees) (a'.assumes ++ a'.guarantees) → sum_to own (length b) ≡ sum_to own' (length b')
    totals p =
        let e = sums_same (a.assumes ++ a.guarantees) (a'.assumes ++ a'.guarantees) (said_all b w s fit good_row b' w' (λ r r'. f r ≡ f' r') whole_laws (a.assumes ++ a.guarantees) (a'.assumes ++ a'.guarantees) p) in
        rw (rows_there a ok, rows_there a' ok')
        (omega (arith, e, properties_weigh a ok own f each, properties_weigh a' ok' own' f' each', sum_append f a.assumes a.guarantees, sum_append f' a'.assumes a'.guarantees))

  -- ---- the same largest atom
  module _ (pairs : Pairs Say (a.assumes ++ a.guarantees) (a'.assumes ++ a'.guarantees)) where
    head_width : Head → ℕ
    head_width h = elim h.word [
      | False ↦ 0
      | True ↦ 0
      | Atom ↦ suc h.atom
      | And ↦ 0
      | Or ↦ 0
      | Not ↦ 0
      | Implies ↦ 0
      | Historically ↦ 0
      | Once ↦ 0
      | Since ↦ 0
    ]

    width_by : (row : Row ℕ) → atom_width row ≡ head_width (head_in row)
    unfolding head_width
    width_by never = refl
    width_by always = refl
    width_by (atom n) = refl
    width_by (conj os) = refl
    width_by (disj os) = refl
    width_by (neg o) = refl
    width_by (implies x y) = refl
    width_by (historically g o) = refl
    width_by (once g o) = refl
    width_by (since g x y) = refl

    no_bit : (c n : ℕ) → n ≡ 0 → bit_of (ltb c n) ≡ 0
    no_bit c n e = ap bit_of (le-ltb c n (omega arith))

    module _ (c : ℕ) where
      abbrev wider : Row ℕ → Bool
      wider row = ltb c (atom_width row)

      width_owns : Owns (λ r. bit_of (wider (row_at b r))) (λ r. bit_of (wider (row_at b' r)))
      width_owns = record {
        on_same = λ row row' i i' k y. ap (λ (n : ℕ). bit_of (ltb c n)) (ap atom_width i.is ∙ width_by row ∙ ap head_width k ∙ sym (width_by row') ∙ sym (ap atom_width i'.is));
        on_not = λ i. no_bit c _ (ap atom_width i.is);
        on_and = λ i. no_bit c _ (ap atom_width i.is);
        on_or = λ i. no_bit c _ (ap atom_width i.is);
        on_implies = λ i. no_bit c _ (ap atom_width i.is);
        on_not' = λ i. no_bit c _ (ap atom_width i.is);
        on_or' = λ i. no_bit c _ (ap atom_width i.is);
        on_history = λ i i₂ i₃ y. no_bit c _ (ap atom_width i.is) ∙ sym (no_bit c _ (ap atom_width i₂.is));
      }

      some_width : (x : Rows) → ltb c (width_of x) ≡ some wider x
      unfolding width_of some
      some_width [] = le-ltb c 0 (omega arith)
      some_width (row ∷ x) = above (atom_width row) (width_of x) ∙ ap (λ (z : Bool). wider row || z) (some_width x)
        where
          above : (m n : ℕ) → ltb c (max m n) ≡ (ltb c m || ltb c n)
          above m n = same_test _ _
              (λ h. ⊎_elim (λ p. or_left (ltb c m) (ltb c n) (lt-ltb c m p)) (λ p. or_right (ltb c m) (ltb c n) (lt-ltb c n (omega (arith, ltb-true c (max m n) h)))) (lt_or_ge c m))
              (or_elim (ltb c m) (ltb c n) (λ h. lt-ltb c (max m n) (omega (arith, ltb-true c m h))) (λ h. lt-ltb c (max m n) (omega (arith, ltb-true c n h))))

      width_test : ltb c (width_of b) ≡ ltb c (width_of b')
      width_test = some_width b ∙ some_sum wider never b ∙ ap (ltb 0) (totals _ _ width_owns pairs) ∙ sym (some_sum wider never b') ∙ sym (some_width b')

    pub wide : width_of b ≡ width_of b'
    wide =
        let m = width_of b in
        let n = width_of b' in
        omega (arith, ltb-false m n (sym (width_test m) ∙ le-ltb m m (omega arith)), ltb-false n m (width_test n ∙ le-ltb n n (omega arith)))

    -- ---- sets with more than so many runs, after the same history
    set_empty : (x : Rows) (v : Ordered x) {r : ℕ} {row : Row ℕ} → In x r row → ((c : ℕ) (old : Runs) (f : ℕ → Bool) → set_rule c old (map_row f row) ≡ []) → (h : History) → length (set_of x v h r) ≡ 0
    set_empty x v {r} i e [] = ap length (set_none x v r)
    set_empty x v {r} i e (n ∷ h) = ap length (set_in_lem x v n h i ∙ e n.clock (set_of x v h r) (value x (run x (n ∷ h))))

    sets_long : (x : Rows) (h : History) → length (run x h).sets ≡ length x
    unfolding run_by initial_in
    sets_long x [] = length-replicate (length x) []
    sets_long x (n ∷ h) = step_sets x (run x h) n

    module _ (h : History) (c : ℕ) where
      abbrev fuller : Runs → Bool
      fuller u = ltb c (length u)

      set_owns : Owns (λ r. bit_of (fuller (set_of b w h r))) (λ r. bit_of (fuller (set_of b' w' h r)))
      unfolding set_rule_by
      set_owns = record {
        on_same = λ row row' i i' k y. ap (λ (u : Runs). bit_of (fuller u)) (same_sets b w s fit good_row b' w' wide row row' i i' k y h);
        on_not = λ i. no_bit c _ (set_empty b w i (λ n old f. refl) h);
        on_and = λ i. no_bit c _ (set_empty b w i (λ n old f. refl) h);
        on_or = λ i. no_bit c _ (set_empty b w i (λ n old f. refl) h);
        on_implies = λ i. no_bit c _ (set_empty b w i (λ n old f. refl) h);
        on_not' = λ i. no_bit c _ (set_empty b' w' i (λ n old f. refl) h);
        on_or' = λ i. no_bit c _ (set_empty b' w' i (λ n old f. refl) h);
        on_history = λ i i₂ i₃ y. ap (λ (u : Runs). bit_of (fuller u)) (history_sets b w s fit good_row b' w' wide i i₂ i₃ y h);
      }

      some_fuller : (x : Rows) (v : Ordered x) → some fuller (run x h).sets ≡ ltb 0 (sum_to (λ r. bit_of (fuller (set_of x v h r))) (length x))
      some_fuller x v = some_sum fuller [] (run x h).sets ∙ ap (λ (n : ℕ). ltb 0 (sum_to (λ r. bit_of (fuller (set_of x v h r))) n)) (sets_long x h)

      -- so the fullest sets of both have the same number of runs
      pub fuller_same : some fuller (run b h).sets ≡ some fuller (run b' h).sets
      fuller_same = some_fuller b w ∙ ap (ltb 0) (totals _ _ set_owns pairs) ∙ sym (some_fuller b' w')

    pub most_same : (h : History) → fullest (run b h) ≡ fullest (run b' h)
    most_same h = same_most (run b h).sets (run b' h).sets (fuller_same h)

    pub crowded_same : (h : History) → crowded (run b h) ≡ crowded (run b' h)
    unfolding crowded
    crowded_same h = fuller_same h MOST_RUNS
