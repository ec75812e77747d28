-- What a word on an accepted call's line says: the answers after the calls up to that line. Assumes nothing.
use Prim.Native.Nat.{ℕ, suc, ◌+◌, ◌-◌, ◌≤◌, ◌<◌}
use native.Mathlib.Omega.{arith}
use mathlib.Core.Path.{◌≡◌, sym, ap, subst, ◌∙◌}
use mathlib.Core.List.{List, [], ◌++◌, reverse, reverse-append}
use lib.ListN.{length, get_or, take, drop}
use lib.Seq.{take-add}
use borrow.Author.Tests.{eq-eqb, ne_eqb}
use Rattle.numbers.specs.Refusals.{ACCEPTED}
use Rattle.lists.proofs.Listed.{listed_length, listed_at}
use Rattle.pmtl.specs.Book.{Book, properties}
use Rattle.pmtl.specs.Monitor.{fullest}
use Rattle.pmtl.specs.Calls.{Call, Outcome, call, after_in}
use Rattle.book.specs.Reading.{Read, got, refused, Sections}
use Rattle.book.specs.declared.loading.Loading.{Loading}
use Rattle.book.specs.Loading.{way_in}
use Rattle.lasts.specs.Flat.{Fit}
use Rattle.lasts.proofs.Loaded.{sections_fit, empty_fit}
use Rattle.property_answers.specs.Verdict.{verdict_in}
use Rattle.report.specs.Lines.{PropertyWord, nothing, words_in, count_in, CallLine, word_of, line_of, lines}
use Rattle.slip.specs.Says.{loaded_of, book_said, calls_said, first_calls, missing_call, Says}
use Rattle.summaries.specs.Recount.{no_word}
use Rattle.slip.proofs.Places.{one_more, CalledLine, called_line}

-- ---- the book that a text says has what is asked of one
pub fit : (way : Loading) (r : Read Sections) → Fit (way_in way) (loaded_of way r).book.rows
unfolding loaded_of
fit way (got s ws) = sections_fit way s
fit way (refused n) = empty_fit (way_in way)

-- ---- the words of an accepted call's line
words_at_lem : (b : Book) (i : ℕ) (o : Outcome) → (line_of b i o).refusal ≡ ACCEPTED → length (words_in (line_of b i o).rest) ≡ length (properties b)
unfolding line_of
words_at_lem b i o z = rw (eq-eqb o.number ACCEPTED z) (listed_length (λ q. word_of (verdict_in b o.state q)) (length (properties b)))

word_at : (b : Book) (i : ℕ) (o : Outcome) (p : ℕ) → (line_of b i o).refusal ≡ ACCEPTED → p < length (words_in (line_of b i o).rest)
    → get_or (words_in (line_of b i o).rest) p no_word ≡ word_of (verdict_in b o.state p)
unfolding line_of
word_at b i o p z = rw (eq-eqb o.number ACCEPTED z) (λ h. listed_at (λ q. word_of (verdict_in b o.state q)) no_word (length (properties b)) p (omega (arith, listed_length (λ q. word_of (verdict_in b o.state q)) (length (properties b)))))

-- its count, and that nothing follows any other refusal
count_at : (b : Book) (i : ℕ) (o : Outcome) → (line_of b i o).refusal ≡ ACCEPTED → count_in (line_of b i o).rest ≡ fullest o.state
unfolding line_of
count_at b i o z = rw (eq-eqb o.number ACCEPTED z)

none_at : (b : Book) (i : ℕ) (o : Outcome) → ¬ ((line_of b i o).refusal ≡ ACCEPTED) → (line_of b i o).rest ≡ nothing
unfolding line_of
none_at b i o n = rw (ne_eqb o.number ACCEPTED n)

-- the answers of property p after the first i calls of a text
abbrev pub answered : Loading → List ℕ → ℕ → ℕ → PropertyWord
answered way input i p = word_of (verdict_in (book_said way input) (after_in (way_in way) (book_said way input).rows (first_calls input i)) p)

module _ (way : Loading) (input : List ℕ) {i : ℕ} {l : CallLine} (c : CalledLine way input i l) (z : l.refusal ≡ ACCEPTED) where
  abbrev outcome : Outcome
  outcome = call (book_said way input).rows (after_in (way_in way) (book_said way input).rows (first_calls input c.others)) (get_or (calls_said input) c.others missing_call)

  accepted : (line_of (book_said way input) (suc c.others) outcome).refusal ≡ ACCEPTED
  accepted = ap (λ (x : CallLine). x.refusal) c.is ∙ z

  -- it has a word for each property
  pub word_each : length (words_in l.rest) ≡ length (properties (book_said way input))
  word_each = ap (λ (x : CallLine). length (words_in x.rest)) (sym c.is) ∙ words_at_lem (book_said way input) (suc c.others) outcome accepted

  -- the digits of the answers after the calls up to that line
  word_here_lem : (p : ℕ) → p < length (words_in l.rest) → get_or (words_in l.rest) p no_word ≡ answered way input i p
  unfolding after_in
  word_here_lem p h =
      ap (λ (x : CallLine). get_or (words_in x.rest) p no_word) (sym c.is)
      ∙ word_at (book_said way input) (suc c.others) outcome p accepted (subst (λ (x : CallLine). p < length (words_in x.rest)) (sym c.is) h)
      ∙ ap (λ ks. word_of (verdict_in (book_said way input) (after_in (way_in way) (book_said way input).rows ks) p)) (sym (one_more (calls_said input) [] c.others c.said))
      ∙ ap (λ n. answered way input n p) (sym c.place)

  -- how many runs the fullest set has after the calls up to that line
  pub count_here : count_in l.rest ≡ fullest (after_in (way_in way) (book_said way input).rows (first_calls input i))
  unfolding after_in
  count_here =
      ap (λ (x : CallLine). count_in x.rest) (sym c.is)
      ∙ count_at (book_said way input) (suc c.others) outcome accepted
      ∙ ap (λ ks. fullest (after_in (way_in way) (book_said way input).rows ks)) (sym (one_more (calls_said input) [] c.others c.said))
      ∙ ap (λ n. fullest (after_in (way_in way) (book_said way input).rows (first_calls input n))) (sym c.place)

-- the number on a call's line is what the call hands back after those before it
pub refusal_here : (way : Loading) (input : List ℕ) {i : ℕ} {l : CallLine} (c : CalledLine way input i l)
    → l.refusal ≡ (call (book_said way input).rows (after_in (way_in way) (book_said way input).rows (first_calls input c.others)) (get_or (calls_said input) c.others missing_call)).number
unfolding line_of
refusal_here way input c = ap (λ (x : CallLine). x.refusal) (sym c.is)

-- a refused call's line has nothing after its refusal
pub nothing_here : (way : Loading) (input : List ℕ) {i : ℕ} {l : CallLine} → CalledLine way input i l → ¬ (l.refusal ≡ ACCEPTED) → l.rest ≡ nothing
nothing_here way input c n = ap (λ (x : CallLine). x.rest) (sym c.is) ∙ none_at (book_said way input) (suc c.others) _ (λ z. n (ap (λ (x : CallLine). x.refusal) (sym c.is) ∙ z))

pub word_is : (way : Loading) (input : List ℕ) {i p : ℕ} {w : PropertyWord} → Says (lines way input) i p w → w ≡ answered way input i p
word_is way input {i} {p} s = sym s.word ∙ word_here_lem way input (called_line way input i s.stands) s.accepted p s.there

-- ---- more calls come before those that were there
pub calls_go_on : (input : List ℕ) (i j : ℕ) → i ≤ j → (more : List Call) × (first_calls input j ≡ more ++ first_calls input i)
calls_go_on input i j h =
    let ks = calls_said input in
    let e : j ≡ i + (j - i) = omega arith in
    (reverse (take (j - i) (drop i ks)), ap (λ n. reverse (take n ks)) e ∙ ap reverse (take-add i (j - i) ks) ∙ reverse-append (take i ks) (take (j - i) (drop i ks)))
