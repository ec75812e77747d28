-- REFERENCE 12.3: a book tidied by an accepted list of steps is accepted, in each way of loading in which the old one is, and on every list of calls
-- it gives the same refusals, counts, values and settled answers; and the same early answers where no step goes from Implies to Or. Nothing is assumed.
use Prim.Native.Nat.{ℕ, suc, ◌+◌, ◌≤◌, ◌<◌}
use mathlib.Core.Path.{◌≡◌, refl, sym, ap, ◌∙◌}
use mathlib.Core.Logic.{◌⊎◌, inl, inr}
use mathlib.Core.Bool.{Bool, true, false, cond, false≢true}
use mathlib.Core.List.{List, [], ◌∷◌, ◌++◌}
use native.Mathlib.Omega.{arith}
use lib.ListN.{length}
use lib.Dec.{eqb}
use borrow.Author.Tests.{eqb-true, eqb-false, eq-eqb, ne_eqb}
use Rattle.numbers.specs.Refusals.{ACCEPTED, PAST_LIMIT, DOES_NOT_FIT}
use Rattle.pmtl.specs.Book.{Book, row_at}
use Rattle.pmtl.specs.Flat.{flat}
use Rattle.pmtl.specs.Sets.{Way, ordinary, lasting}
use Rattle.pmtl.specs.Strict.{Strict}
use Rattle.book.specs.Reading.{Sections}
use Rattle.book.specs.Private.{Few}
use Rattle.book.specs.Judging.{judged, book_in, Loaded, loaded}
use Rattle.book.specs.declared.loading.Loading.{Loading}
use Rattle.book.specs.Strict.{strictly}
use Rattle.book.specs.Loading.{way_in, takes, loaded_by}
use Rattle.book.proofs.Admitted.{accepted_by, admitted_strict, admitted_takes, admitted_as}
use Rattle.lasts.specs.Flat.{Taken}
use Rattle.lasts.proofs.Loaded.{accepted_taken}
use Rattle.trees.specs.Forest.{◌then◌}
use Rattle.trees.specs.Books.{head_in}
use Rattle.trees.proofs.Judged.{HeadGood}
use Rattle.trees.proofs.Sections.{book_ordered}
use Rattle.trees.proofs.Loaded.{accepted_words}
use Rattle.tidying.specs.declared.Form.{Form}
use Rattle.tidying.specs.declared.Form.TheVariants as form
use Rattle.tidying.specs.declared.Step.{Step}
use Rattle.tidying.specs.Steps.{parts_at, fits, stepped_of, all_after, words_after, past_limit}
use Rattle.tidying.specs.Tidied.{step_number, Tidying, done, refused, tidied_from, tidied, Same, SameEarly, keeps_early, NoImplication}
use Rattle.tidying.proofs.Saying.{Pairs, Says}
use Rattle.tidying.proofs.Accepted.{good_row, step_accepted, after_step, properties_say, assumes_many}
use Rattle.tidying.proofs.Strictly.{strict_stays}
use Rattle.tidying.proofs.Flatly.{flat_same}
use Rattle.tidying.proofs.Lasting.{lasting_number, lasting_count, lasting_values, lasting_settled, lasting_early}
use Rattle.tidying.proofs.Calls.{number_same, count_same, value_same, settled_answers, early_answers}

-- ---- a step that is accepted
-- in a way of monitoring that takes the old book
record Kept (b b' : Book) (early : Type 0) : Type 0 where
  same : (way : Way) → takes way b.rows ≡ true → Same way b b'
  same_early : early → (way : Way) → takes way b.rows ≡ true → SameEarly way b b'
  same_strict : Strict b.rows → Strict b'.rows
  same_flat : flat b.rows ≡ flat b'.rows

-- nothing is wrong with a step: it fits, and the book stays within its limits
record Right (b : Book) (s : Step) : Type 0 where
  fit : fits b.rows s ≡ true
  short : past_limit (all_after b s) ≡ false

right : (b : Book) (s : Step) → step_number b s ≡ ACCEPTED → Right b s
unfolding step_number
right b s e = by_tests (fits b.rows s) refl (past_limit (all_after b s)) refl e
  where
    by_tests : (x : Bool) → fits b.rows s ≡ x → (y : Bool) → past_limit (all_after b s) ≡ y → cond x (cond y PAST_LIMIT ACCEPTED) DOES_NOT_FIT ≡ ACCEPTED → Right b s
    by_tests true p false q z = record { fit = p; short = q }
    by_tests true p true q z = absurd (omega arith)
    by_tests false p y q z = absurd (omega arith)

early_form : (f : Form) → keeps_early f ≡ true → f ≡ form.Implication → ⊥
early_form f k e = false≢true (sym (ap keeps_early e) ∙ k)

-- of the words that a step makes, from those that it is made at
record Stepped (b : Book) (s : Step) (words : List ℕ) : Type 0 where
  accepted : (loaded words).number ≡ ACCEPTED
  kept : Kept b (loaded words).book (keeps_early s.form ≡ true)

module _ (a : Sections) (few : Few a) (ok : judged a ≡ 0) (s : Step) (q : Right (book_in a) s) where
  abbrev fit : fits (book_in a).rows s ≡ true
  fit = q.fit

  short : past_limit (stepped_of (book_in a).rows s a.assumes then stepped_of (book_in a).rows s a.guarantees) ≡ false
  unfolding book_in
  short = q.short

  abbrev a' : Sections
  a' = (after_step a few ok s fit short).all

  abbrev ok' : judged a' ≡ 0
  ok' = (after_step a few ok s fit short).ok

  good : (r : ℕ) → r < length (book_in a).rows → HeadGood (head_in (row_at (book_in a).rows r)) (length (parts_at (book_in a).rows r))
  good = good_row a few ok s fit

  pairs : Pairs (Says (book_in a).rows (book_ordered a ok) s fit good (book_in a').rows (book_ordered a' ok')) (a.assumes ++ a.guarantees) (a'.assumes ++ a'.guarantees)
  unfolding good
  pairs = properties_say a few ok s fit short

  flats : flat (book_in a).rows ≡ flat (book_in a').rows
  flats = flat_same a a' ok ok' s fit good pairs

  -- the lasting way takes both books, or neither
  module _ (f : flat (book_in a).rows ≡ true) where
    old : Taken (book_in a).rows
    old = accepted_taken a ok f

    new : Taken (book_in a').rows
    new = accepted_taken a' ok' (sym flats ∙ f)

  same_in : (way : Way) → takes way (book_in a).rows ≡ true → Same way (book_in a) (book_in a')
  unfolding book_in
  same_in ordinary t = record {
    refusals = number_same a a' ok ok' s fit good pairs;
    values = value_same a a' ok ok' s fit good pairs;
    counts = count_same a a' ok ok' s fit good pairs;
    settleds = settled_answers a a' ok ok' s fit good pairs;
    assumed = assumes_many a few ok s fit short;
  }
  same_in lasting t = record {
    refusals = lasting_number a a' ok ok' s fit good pairs (old t) (new t);
    values = lasting_values a a' ok ok' s fit good pairs (old t) (new t);
    counts = lasting_count a a' ok ok' s fit good pairs (old t) (new t);
    settleds = lasting_settled a a' ok ok' s fit good pairs (old t) (new t);
    assumed = assumes_many a few ok s fit short;
  }

  early_in_lem : keeps_early s.form ≡ true → (way : Way) → takes way (book_in a).rows ≡ true → SameEarly way (book_in a) (book_in a')
  unfolding book_in
  early_in_lem k ordinary t calls = early_answers a a' ok ok' s fit good pairs calls (early_form s.form k)
  early_in_lem k lasting t calls = lasting_early a a' ok ok' s fit good pairs (old t) (new t) calls (early_form s.form k)

  stepped : Stepped (book_in a) s (words_after (book_in a) s)
  unfolding words_after book_in
  stepped = record {
    accepted = step_accepted a few ok s fit short;
    kept = rw (after_step a few ok s fit short).book_is (record { same = same_in; same_early = early_in_lem; same_strict = strict_stays a few ok s fit short; same_flat = flats });
  }

step_keeps : (ws : List ℕ) → (loaded ws).number ≡ ACCEPTED → (s : Step) → step_number (loaded ws).book s ≡ ACCEPTED → Stepped (loaded ws).book s (words_after (loaded ws).book s)
step_keeps ws ok s e = let x = accepted_words ws ok in rw x.book_is (stepped x.all x.few x.ok s (right (book_in x.all) s (rw x.book_is at e)))

-- a step that is accepted gives an accepted book
pub step_gives : (ws : List ℕ) → (loaded ws).number ≡ ACCEPTED → (s : Step) → step_number (loaded ws).book s ≡ ACCEPTED → (loaded (words_after (loaded ws).book s)).number ≡ ACCEPTED
step_gives ws ok s e = (step_keeps ws ok s e).accepted

-- ---- one after another
kept_none : (b : Book) → Kept b b (Unit {0})
kept_none b = record {
  same = λ way t. record { refusals = λ ks k. refl; counts = λ ks. refl; values = λ ks. refl; settleds = λ ks. refl; assumed = refl };
  same_early = λ u way t ks. refl;
  same_strict = λ h. h;
  same_flat = refl;
}

-- the way takes the book in between, too
still_takes : (way : Way) {b b₁ : Book} {p : Type 0} → Kept b b₁ p → takes way b.rows ≡ true → takes way b₁.rows ≡ true
still_takes ordinary x t = refl
still_takes lasting x t = sym x.same_flat ∙ t

same_then : {way : Way} {b b₁ b₂ : Book} → Same way b b₁ → Same way b₁ b₂ → Same way b b₂
same_then x y = record {
  refusals = λ ks k. x.refusals ks k ∙ y.refusals ks k;
  values = λ ks. x.values ks ∙ y.values ks;
  counts = λ ks. x.counts ks ∙ y.counts ks;
  settleds = λ ks. x.settleds ks ∙ y.settleds ks;
  assumed = x.assumed ∙ y.assumed;
}

kept_then : {b b₁ b₂ : Book} {p q : Type 0} → Kept b b₁ p → Kept b₁ b₂ q → Kept b b₂ (p × q)
kept_then x y = record {
  same = λ way t. same_then (x.same way t) (y.same way (still_takes way x t));
  same_early = λ e way t ks. x.same_early e.0 way t ks ∙ y.same_early e.1 way (still_takes way x t) ks;
  same_strict = λ h. y.same_strict (x.same_strict h);
  same_flat = x.same_flat ∙ y.same_flat;
}

-- what is so of the outcome of steps
abbrev Outcome : Book → List Step → ℕ → Tidying → Type 0
Outcome b ss k (done ws) = ((loaded ws).number ≡ ACCEPTED) × Kept b (loaded ws).book (NoImplication ss)
Outcome b ss k (refused n at) = ((n ≡ DOES_NOT_FIT) ⊎ (n ≡ PAST_LIMIT)) × (k ≤ at) × (at < k + length ss)

two_numbers : (b : Book) (s : Step) → eqb (step_number b s) ACCEPTED ≡ false → (step_number b s ≡ DOES_NOT_FIT) ⊎ (step_number b s ≡ PAST_LIMIT)
unfolding step_number
two_numbers b s e = by_tests (fits b.rows s) (past_limit (all_after b s)) e
  where
    by_tests : (x y : Bool) → eqb (cond x (cond y PAST_LIMIT ACCEPTED) DOES_NOT_FIT) ACCEPTED ≡ false → (cond x (cond y PAST_LIMIT ACCEPTED) DOES_NOT_FIT ≡ DOES_NOT_FIT) ⊎ (cond x (cond y PAST_LIMIT ACCEPTED) DOES_NOT_FIT ≡ PAST_LIMIT)
    by_tests true true z = inr refl
    by_tests true false z = absurd (false≢true (sym z))
    by_tests false y z = inl refl

outcome : (k : ℕ) (ws : List ℕ) (ss : List Step) → (loaded ws).number ≡ ACCEPTED → Outcome (loaded ws).book ss k (tidied_from k ws ss)
unfolding tidied_from
outcome k ws [] ok = (ok, kept_none (loaded ws).book)
outcome k ws (s ∷ ss) ok = by_number (eqb (step_number b s) ACCEPTED) refl (λ q. outcome (suc k) (words_after b s) ss q)
  where
    b : Book
    b = (loaded ws).book

    onward : (t : Tidying) → Stepped b s (words_after b s) → Outcome (loaded (words_after b s)).book ss (suc k) t → Outcome b (s ∷ ss) k t
    onward (done ws') x o = (o.0, kept_then x.kept o.1)
    onward (refused n at) x o = (o.0, omega (arith, o.1), omega (arith, o.2))

    by_number : (z : Bool) → eqb (step_number b s) ACCEPTED ≡ z → ((loaded (words_after b s)).number ≡ ACCEPTED → Outcome (loaded (words_after b s)).book ss (suc k) (tidied_from (suc k) (words_after b s) ss))
        → Outcome b (s ∷ ss) k (elim z as (λ y. Tidying) [ true ↦ tidied_from (suc k) (words_after b s) ss | false ↦ refused (step_number b s) k ])
    by_number true e ih = let x = step_keeps ws ok s (eqb-true (step_number b s) ACCEPTED e) in onward (tidied_from (suc k) (words_after b s) ss) x (ih x.accepted)
    by_number false e ih = (two_numbers b s e, omega arith, omega arith)

-- ---- words that are an accepted book, and others
pub of_accepted : (ws : List ℕ) (ss : List Step) → (loaded ws).number ≡ ACCEPTED → tidied ws ss ≡ tidied_from 1 ws ss
unfolding tidied
of_accepted ws ss ok = rw (eq-eqb (loaded ws).number ACCEPTED ok, tidied) refl

pub of_refused : (ws : List ℕ) (ss : List Step) → ((loaded ws).number ≡ ACCEPTED → ⊥) → tidied ws ss ≡ refused (loaded ws).number 0
unfolding tidied
of_refused ws ss bad = rw (ne_eqb (loaded ws).number ACCEPTED bad, tidied) refl

-- ---- THE THEOREM
module _ (ws : List ℕ) (ss : List Step) where
  whole : (loaded ws).number ≡ ACCEPTED → Outcome (loaded ws).book ss 1 (tidied ws ss)
  whole ok = rw (of_accepted ws ss ok) (outcome 1 ws ss ok)

  module _ (ws' : List ℕ) (e : tidied ws ss ≡ done ws') where
    -- the old book was accepted
    pub was_accepted : (loaded ws).number ≡ ACCEPTED
    was_accepted = by_test (eqb (loaded ws).number ACCEPTED) refl
      where
        by_test : (z : Bool) → eqb (loaded ws).number ACCEPTED ≡ z → (loaded ws).number ≡ ACCEPTED
        by_test true q = eqb-true (loaded ws).number ACCEPTED q
        by_test false q = let z : refused (loaded ws).number 0 ≡ done ws' = sym (of_refused ws ss (eqb-false (loaded ws).number ACCEPTED q)) ∙ e in absurd (let y : ◌≡◌ {A = ℕ} 0 1 = cc in omega arith)

    made : Outcome (loaded ws).book ss 1 (done ws')
    made = rw e at (whole was_accepted)

    -- the new book is
    pub tidied_accepted : (loaded ws').number ≡ ACCEPTED
    tidied_accepted = made.0

    -- in each way of monitoring that takes the old book, on every list of calls, each call has the same refusal and leaves the same count, and each
    -- property has the same value and the same settled answer
    pub tidied_same : (way : Way) → takes way (loaded ws).book.rows ≡ true → Same way (loaded ws).book (loaded ws').book
    tidied_same = made.1.same

    -- and the same early answer, where no step goes from Implies to Or
    pub tidied_early : NoImplication ss → (way : Way) → takes way (loaded ws).book.rows ≡ true → SameEarly way (loaded ws).book (loaded ws').book
    tidied_early = made.1.same_early

    -- and it is accepted in every way of loading in which the old book is: a strict book stays strict, a flat one flat
    pub tidied_loads : (way : Loading) → (loaded_by way ws).number ≡ ACCEPTED → (loaded_by way ws').number ≡ ACCEPTED
    tidied_loads way h = ap (λ (l : Loaded). l.number) (admitted_as way (loaded ws') (λ strict. made.1.same_strict (old_strict strict)) new_takes) ∙ tidied_accepted
      where
        same_book : loaded_by way ws ≡ loaded ws
        same_book = accepted_by way ws h

        old_strict : strictly way ≡ true → Strict (loaded ws).book.rows
        old_strict strict = rw same_book at (admitted_strict way strict (loaded ws))

        new_takes : takes (way_in way) (loaded ws').book.rows ≡ true
        new_takes = still_takes (way_in way) made.1 (rw same_book at (admitted_takes way (loaded ws)))

  -- of an accepted book a list is refused with 21 or 2 at one of its steps, counted from 1
  pub refused_with_lem : (loaded ws).number ≡ ACCEPTED → (n at : ℕ) → tidied ws ss ≡ refused n at → ((n ≡ DOES_NOT_FIT) ⊎ (n ≡ PAST_LIMIT)) × (1 ≤ at) × (at ≤ length ss)
  refused_with_lem ok n at e = let x : Outcome (loaded ws).book ss 1 (refused n at) = rw e at (whole ok) in (x.0, x.1, omega (arith, x.2))

-- no steps leave the book as it is, not numbered anew
pub no_steps : (ws : List ℕ) → (loaded ws).number ≡ ACCEPTED → tidied ws [] ≡ done ws
unfolding tidied_from
no_steps ws ok = of_accepted ws [] ok
