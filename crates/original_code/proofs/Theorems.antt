-- What our code hands back in the ordinary way, from loading on, strict or not, and over any list of calls, is what the original answers. Assumes nothing.
use Prim.Native.Nat.{ℕ, zero, suc, ◌≤◌}
use native.Mathlib.Omega.{arith}
use mathlib.Core.Path.{◌≡◌, refl, sym, ap, ap₂, ◌∙◌}
use mathlib.Core.Logic.{◌↔◌}
use mathlib.Core.Bool.{Bool, true, false, cond}
use mathlib.Core.List.{List, [], ◌∷◌, ◌++◌, map, map-append}
use lib.ListN.{length, get_or, take, drop, length-map, get_or-map}
use lib.Seq.{ext_get_or, take_at}
use lib.Dec.{ltb}
use Rattle.numbers.specs.Limits.{LAST_TIME, MOST_ATOMS}
use Rattle.pmtl.specs.Book.{Book, properties, property_at}
use Rattle.pmtl.specs.Sets.{Way, ordinary}
use Rattle.pmtl.specs.Monitor.{State, value}
use Rattle.pmtl.specs.Early.{early}
use Rattle.pmtl.specs.Calls.{Call, time, state, call, after_in, after, accepted}
use Rattle.memory.specs.Memory.{state_of}
use Rattle.lists.specs.Lists.{listed}
use Rattle.lists.proofs.Listed.{listed_length, listed_at, listed_agree}
use Rattle.book.specs.declared.loading.Loading.{Loading}
use Rattle.book.specs.Loading.{way_in}
use Rattle.property_answers.specs.declared.Verdict.{Verdict}
use Rattle.property_answers.specs.Verdict.{verdict_in, verdict_of, properties_in, answers_number, answers_list}
use Rattle.calls.specs.Called.{Called}
use Rattle.oracle.specs.Made.{Made, book_said}
use Rattle.oracle.proofs.Theorems.{made_book, made_state, made_number, made_verdict}
use Rattle.original.specs.Rust.{◌>>=◌}
use Rattle.original.specs.Rust.Ran.{panic, done}
use Rattle.original.specs.PmtlOracle.{PmtlOracle}
use Rattle.original.specs.Formulas.{oracle_of}
use Rattle.original.specs.Replay.{made, replayed}
use Rattle.original.specs.Agrees.{option_of, Follows, Agrees}
use Rattle.original.specs.Recorded.{answered}
use Rattle.original.proofs.Theorems.{never_panics, sets_are_instants, answers_agree, panics_as_7, panics_as_9}
use Rattle.original_code.specs.Answers.{early_in, value_in, handed, Answers}
use Rattle.original_code.proofs.Loaded.{said_proper}

-- ---- lists by their places
map_listed : {A : Type 0} (f : ℕ → A) (d : ℕ) (xs : List ℕ) → map f xs ≡ listed (λ i. f (get_or xs i d)) (length xs)
map_listed f d xs = ext_get_or (f d) (map f xs) (listed (λ i. f (get_or xs i d)) (length xs))
    (length-map xs f ∙ sym (listed_length (λ i. f (get_or xs i d)) (length xs)))
    (λ i h. get_or-map f xs i d ∙ sym (listed_at (λ i. f (get_or xs i d)) (f d) (length xs) i (omega (arith, length-map xs f))))

listed_map : {A B : Type 0} (g : A → B) (f : ℕ → A) (n : ℕ) → map g (listed f n) ≡ listed (λ i. g (f i)) n
unfolding listed
listed_map g f zero = refl
listed_map g f (suc n) = map-append g (listed f n) (f n ∷ []) ∙ ap (λ xs. xs ++ (g (f n) ∷ [])) (listed_map g f n)

-- a list that is not too short has the records first
records_first : (m : List ℕ) (out : List Verdict) → answers_number m (length out) ≡ 0 → handed m out ≡ listed (verdict_of m) (properties_in m)
unfolding answers_number answers_list
records_first m out = go (ltb (length out) (properties_in m)) refl
  where
    go : (z : Bool) → ltb (length out) (properties_in m) ≡ z → ◌≡◌ {A = ℕ} (cond z 12 0) 0
        → take (properties_in m) (cond z out (listed (verdict_of m) (properties_in m) ++ drop (properties_in m) out)) ≡ listed (verdict_of m) (properties_in m)
    go true e h = absurd (omega arith)
    go false e h = take_at (listed (verdict_of m) (properties_in m)) (drop (properties_in m) out) (properties_in m) (listed_length (verdict_of m) (properties_in m))

-- ---- the statements, of any words loaded for the ordinary way, and any calls made on what that left
module _ (way : Loading) (plain : way_in way ≡ ordinary) (words : List ℕ) (ks : List Call) (m : List ℕ) (came : Made way words ks m) where
  book : Book
  book = book_said way words

  -- the state is that of the ordinary way
  as_after : after_in (way_in way) (book_said way words).rows ks ≡ after (book_said way words).rows ks
  as_after = ap (λ (w : Way). after_in w (book_said way words).rows ks) plain

  verdict_is : (i : ℕ) → verdict_of m i ≡ verdict_in book (after book.rows ks) i
  unfolding book
  verdict_is i = made_verdict came i ∙ ap (λ (st : State). verdict_in (book_said way words) st i) as_after

  -- 1. the original has made the accepted ones of them without a panic
  pub code_never_panics : (o : PmtlOracle) × (replayed (book_said way words) ks ≡ done o)
  code_never_panics = never_panics (book_said way words) (said_proper way words) ks

  -- what is answered of the properties, place by place
  by_place : {A : Type 0} (f : ℕ → A) (g : Verdict → A) → ((i : ℕ) → f (property_at book i) ≡ g (verdict_in book (after book.rows ks) i))
      → map f book.assumes ++ map f book.guarantees ≡ listed (λ i. g (verdict_of m i)) (properties_in m)
  unfolding book
  by_place f g e = sym (map-append f book.assumes book.guarantees)
      ∙ map_listed f (length book.rows) (properties book)
      ∙ listed_agree _ _ (length (properties book)) (λ i h. e i ∙ ap g (sym (verdict_is i)))
      ∙ ap (λ (b : Book). listed (λ i. g (verdict_of m i)) (length (properties b))) (sym (made_book came))

  module _ (o : PmtlOracle) (made-them : replayed (book_said way words) ks ≡ done o) where
    agreed : Agrees book (after book.rows ks) o
    unfolding book
    agreed = answers_agree book (said_proper way words) ks o made-them

    listed_answers : answered o ≡ done (listed (λ i. early_in (verdict_of m i)) (properties_in m), listed (λ i. value_in (verdict_of m i)) (properties_in m))
    unfolding answered verdict_in
    listed_answers = rw (agreed.values_of_assumes, agreed.values_of_guarantees, answered)
        (ap₂ (λ x y. done (x, y))
        (ap₂ ◌++◌ agreed.early_of_assumes agreed.early_of_guarantees ∙ by_place (λ r. option_of (early book.rows (after book.rows ks) r)) early_in (λ i. refl))
        (by_place (value book.rows (after book.rows ks)) value_in (λ i. refl)))

    -- 2. each of its sets has exactly the instants that REFERENCE 3.5 defines
    pub code_sets : Follows (book_said way words) (accepted (book_said way words).rows ks) o
    code_sets = sets_are_instants (book_said way words) (said_proper way words) ks o made-them

    -- 3. WHAT IT ANSWERS IS WHAT OUR CODE HANDS BACK
    pub code_answers : Answers m o
    unfolding state_of book
    code_answers = record {
      time = agreed.clock ∙ sym (ap (λ (st : State). st.now.clock) (made_state came ∙ as_after));
      of_properties = listed_answers;
      of_answers = λ out h. listed_answers ∙ sym (ap (λ vs. done (map early_in vs, map value_in vs)) (records_first m out h)
          ∙ ap₂ (λ x y. done (x, y)) (listed_map early_in (verdict_of m) (properties_in m)) (listed_map value_in (verdict_of m) (properties_in m)));
    }

  -- a call hands back n exactly where the original panics, if the definitions say so
  panics_as : (k : Call) (n : ℕ) {m' : List ℕ} {r : ℕ} → Called k m m' r
      → ((replayed (book_said way words) ks >>= λ o. made o k) ≡ panic) ↔ ((call (book_said way words).rows (after (book_said way words).rows ks) k).number ≡ n)
      → ((replayed (book_said way words) ks >>= λ o. made o k) ≡ panic) ↔ (r ≡ n)
  panics_as k n {m'} {r} c e =
      let q : r ≡ (call (book_said way words).rows (after (book_said way words).rows ks) k).number = made_number came c ∙ ap (λ (st : State). (call (book_said way words).rows st k).number) as_after in
      (λ p. q ∙ e.0 p, λ p. e.1 (sym q ∙ p))

  -- a time call hands back 7 exactly where the original's assertion on time panics
  pub code_7 : (t : ℕ) → t ≤ LAST_TIME → {m' : List ℕ} {r : ℕ} → Called (time t) m m' r → ((replayed (book_said way words) ks >>= λ o. made o (time t)) ≡ panic) ↔ (r ≡ 7)
  code_7 t k c = panics_as (time t) 7 c (panics_as_7 (book_said way words) (said_proper way words) ks t k)

  -- a state call hands back 9 exactly where its `state[*atom]` does
  pub code_9 : (bytes : List ℕ) → length bytes ≤ MOST_ATOMS → {m' : List ℕ} {r : ℕ} → Called (state bytes) m m' r
      → ((replayed (book_said way words) ks >>= λ o. made o (state bytes)) ≡ panic) ↔ (r ≡ 9)
  code_9 bytes k c = panics_as (state bytes) 9 c (panics_as_9 (book_said way words) (said_proper way words) ks bytes k)

-- 4. ALSO BEFORE THE FIRST CALL: what a monitor just loaded answers is what the original just made answers
pub code_before_the_first_call : (way : Loading) → way_in way ≡ ordinary → (words m : List ℕ) → Made way words [] m → Answers m (oracle_of (book_said way words))
unfolding replayed
code_before_the_first_call way plain words m came = code_answers way plain words [] m came (oracle_of (book_said way words)) refl
