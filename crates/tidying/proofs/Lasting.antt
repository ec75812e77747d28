-- The same in the lasting way, of flat books: it is the ordinary way on the history with the calls that are put in, and that is one history for
-- both books. Assumes nothing.
use Prim.Native.Nat.{ℕ, ◌-◌, ◌<◌}
use mathlib.Core.Path.{◌≡◌, refl, sym, ap, ap₂, subst, ◌∙◌}
use mathlib.Core.Bool.{Bool, true, false, cond}
use mathlib.Core.List.{List, [], ◌∷◌, ◌++◌, map}
use lib.ListN.{length}
use lib.Dec.{eqb}
use borrow.Author.Tests.{eqb-true}
use Rattle.numbers.specs.Refusals.{ACCEPTED, NO_ROOM}
use Rattle.pmtl.specs.Book.{Rows, row_at, Ordered, width_of}
use Rattle.pmtl.specs.Monitor.{Snap, State, fullest, value, step_in}
use Rattle.pmtl.specs.Early.{early}
use Rattle.pmtl.specs.Settled.{settled}
use Rattle.pmtl.specs.Calls.{Call, turns, refusal, crowded, Outcome, play, call, History, now_of}
use Rattle.pmtl.specs.Past.{run}
use Rattle.pmtl.proofs.Fullest.{same_crowd}
use Rattle.lasts.specs.Flat.{Taken}
use Rattle.lasts.specs.Lasting.{ticks, filled, lasting_onto, lasting_after, lasting_history}
use Rattle.lasts.proofs.Follows.{Follows, follows_count, step_follows, Going, going_now, follows}
use Rattle.lasts.proofs.Theorems.{value_is, early_is, settled_is, count_is}
use Rattle.book.specs.Reading.{Sections}
use Rattle.book.specs.Judging.{judged, book_in}
use Rattle.trees.specs.Books.{head_in}
use Rattle.trees.proofs.Judged.{HeadGood}
use Rattle.trees.proofs.Sections.{book_ordered}
use Rattle.tidying.specs.declared.Form.TheVariants as form
use Rattle.tidying.specs.declared.Step.{Step}
use Rattle.tidying.specs.Steps.{parts_at, fits}
use Rattle.tidying.proofs.Saying.{Pairs, pairs_map, Says}
use Rattle.tidying.proofs.Values.{now_same, values_same}
use Rattle.tidying.proofs.Answers.{early_same, settled_same}
use Rattle.tidying.proofs.Totals.{most_same}
use Rattle.tidying.proofs.Calls.{width, refusal_same}

module _ (a a' : Sections) (ok : judged a ≡ 0) (ok' : judged a' ≡ 0) (s : Step) (fit : fits (book_in a).rows s ≡ true)
    (good_row : (r : ℕ) → r < length (book_in a).rows → HeadGood (head_in (row_at (book_in a).rows r)) (length (parts_at (book_in a).rows r)))
    (pairs : Pairs (Says (book_in a).rows (book_ordered a ok) s fit good_row (book_in a').rows (book_ordered a' ok')) (a.assumes ++ a.guarantees) (a'.assumes ++ a'.guarantees))
    (taken : Taken (book_in a).rows) (taken' : Taken (book_in a').rows) where
  abbrev b : Rows
  b = (book_in a).rows

  abbrev b' : Rows
  b' = (book_in a').rows

  abbrev w : Ordered b
  w = book_ordered a ok

  abbrev w' : Ordered b'
  w' = book_ordered a' ok'

  abbrev ps : List ℕ
  ps = a.assumes ++ a.guarantees

  abbrev ps' : List ℕ
  ps' = a'.assumes ++ a'.guarantees

  wide : width_of b ≡ width_of b'
  wide = width a a' ok ok' s fit good_row pairs

  now_alike : (h : History) → now_of b h ≡ now_of b' h
  now_alike = now_same b w s fit good_row b' w' wide

  -- ---- the same calls are put in
  filled_same : (h : History) (n : Snap) → filled b h n ≡ filled b' h n
  filled_same h n = ap (λ (now : Snap). ticks now (n.clock - now.clock - 1) ++ h) (now_alike h)

  onto_same : (ns : List Snap) (h : History) → lasting_onto b ns h ≡ lasting_onto b' ns h
  unfolding lasting_onto
  onto_same [] h = refl
  onto_same (n ∷ ns) h = onto_same ns (n ∷ filled b h n) ∙ ap (λ past. lasting_onto b' ns (n ∷ past)) (filled_same h n)

  -- ---- one call, after the same history
  crowded_alike : (st st' : State) (h : History) → Follows b st h → Follows b' st' h → crowded st ≡ crowded st'
  crowded_alike st st' h f f' =
      same_crowd st st' (follows_count b taken st h f ∙ most_same a a' ok ok' s fit good_row pairs h ∙ sym (follows_count b' taken' st' h f'))

  by_room : (old old' : State) (o o' : Outcome) (z z' : Bool) → z ≡ z' → o.number ≡ o'.number
      → (elim z as (λ x. Outcome) [ true ↦ record { number = NO_ROOM; state = old } | false ↦ o ]).number
      ≡ (elim z' as (λ x. Outcome) [ true ↦ record { number = NO_ROOM; state = old' } | false ↦ o' ]).number
  by_room old old' o o' z z' e rest = at z ∙ ap (λ q. (elim q as (λ x. Outcome) [ true ↦ record { number = NO_ROOM; state = old' } | false ↦ o' ]).number) e
    where
      at : (q : Bool) → (elim q as (λ x. Outcome) [ true ↦ record { number = NO_ROOM; state = old } | false ↦ o ]).number
          ≡ (elim q as (λ x. Outcome) [ true ↦ record { number = NO_ROOM; state = old' } | false ↦ o' ]).number
      at true = refl
      at false = rest

  play_same : (old old' st st' : State) (ns : List Snap) (h : History) → Follows b st h → Follows b' st' h → Going b h ns → Going b' h ns → (play b old st ns).number ≡ (play b' old' st' ns).number
  unfolding play
  play_same old old' st st' [] h f f' g g' = refl
  play_same old old' st st' (n ∷ ns) h f f' g g' =
      let past : History = n ∷ filled b h n in
      let q = step_follows b taken st h f n g.0 in
      let q' : Follows b' (step_in b' st' n) past = subst (λ x. Follows b' (step_in b' st' n) (n ∷ x)) (sym (filled_same h n)) (step_follows b' taken' st' h f' n g'.0) in
      let rest' : Going b' past ns = subst (λ x. Going b' (n ∷ x) ns) (sym (filled_same h n)) g'.1 in
      by_room old old' (play b old (step_in b st n) ns) (play b' old' (step_in b' st' n) ns) (crowded (step_in b st n)) (crowded (step_in b' st' n))
      (crowded_alike (step_in b st n) (step_in b' st' n) past q q') (play_same old old' (step_in b st n) (step_in b' st' n) ns past q q' g.1 rest')

  module _ (st st' : State) (h : History) (f : Follows b st h) (f' : Follows b' st' h) (k : Call) where
    now_is : st.now ≡ st'.now
    now_is = f.now_is ∙ now_alike h ∙ sym f'.now_is

    refused_alike : refusal b st.now k ≡ refusal b' st'.now k
    refused_alike = ap (λ n. refusal b n k) now_is ∙ refusal_same a a' ok ok' s fit good_row pairs st'.now k

    played : refusal b st.now k ≡ ACCEPTED → (play b st st (turns st.now k)).number ≡ (play b' st' st' (turns st'.now k)).number
    played e =
        let ns : List Snap = turns st'.now k in
        let same : turns st.now k ≡ ns = ap (λ n. turns n k) now_is in
        ap (λ x. (play b st st x).number) same
        ∙ play_same st st' st st' ns h f f' (subst (Going b h) same (going_now b st h f k e)) (going_now b' st' h f' k (sym refused_alike ∙ e))

    call_same : (call b st k).number ≡ (call b' st' k).number
    unfolding call
    call_same = by_number (refusal b st.now k) (refusal b' st'.now k) refused_alike (λ e. played e) refl
      where
        by_number : (x x' : ℕ) → x ≡ x' → (x ≡ ACCEPTED → (play b st st (turns st.now k)).number ≡ (play b' st' st' (turns st'.now k)).number) → refusal b st.now k ≡ x
            → (elim (eqb x ACCEPTED) as (λ y. Outcome) [ true ↦ play b st st (turns st.now k) | false ↦ record { number = x; state = st } ]).number
            ≡ (elim (eqb x' ACCEPTED) as (λ y. Outcome) [ true ↦ play b' st' st' (turns st'.now k) | false ↦ record { number = x'; state = st' } ]).number
        by_number x x' e p z = at (eqb x ACCEPTED) refl
            ∙ ap (λ q. (elim (eqb q ACCEPTED) as (λ y. Outcome) [ true ↦ play b' st' st' (turns st'.now k) | false ↦ record { number = q; state = st' } ]).number) e
          where
            at : (q : Bool) → eqb x ACCEPTED ≡ q
                → (elim q as (λ y. Outcome) [ true ↦ play b st st (turns st.now k) | false ↦ record { number = x; state = st } ]).number
                ≡ (elim q as (λ y. Outcome) [ true ↦ play b' st' st' (turns st'.now k) | false ↦ record { number = x; state = st' } ]).number
            at true r = p (eqb-true x ACCEPTED r)
            at false r = refl

  -- ---- calls, the newest first: the same ones are accepted
  module _ (ks : List Call) (ih : lasting_history b ks ≡ lasting_history b' ks) where
    after' : Follows b' (lasting_after b' ks) (lasting_history b ks)
    after' = subst (Follows b' (lasting_after b' ks)) (sym ih) (follows b' taken' ks)

    number_next : (k : Call) → (call b (lasting_after b ks) k).number ≡ (call b' (lasting_after b' ks) k).number
    number_next = call_same (lasting_after b ks) (lasting_after b' ks) (lasting_history b ks) (follows b taken ks) after'

    now_next : (lasting_after b ks).now ≡ (lasting_after b' ks).now
    now_next = (follows b taken ks).now_is ∙ now_alike (lasting_history b ks) ∙ sym after'.now_is

  history_same : (ks : List Call) → lasting_history b ks ≡ lasting_history b' ks
  unfolding lasting_history
  history_same [] = refl
  history_same (k ∷ ks) = let ih = history_same ks in
      ap₂ (λ x ns. cond (eqb x ACCEPTED) (lasting_onto b ns (lasting_history b ks)) (lasting_history b ks)) (number_next ks ih k) (ap (λ n. turns n k) (now_next ks ih))
      ∙ ap (λ past. cond (eqb (call b' (lasting_after b' ks) k).number ACCEPTED) past (lasting_history b ks)) (onto_same (turns (lasting_after b' ks).now k) (lasting_history b ks))
      ∙ ap (λ h. cond (eqb (call b' (lasting_after b' ks) k).number ACCEPTED) (lasting_onto b' (turns (lasting_after b' ks).now k) h) h) ih

  module _ (calls : List Call) where
    pub lasting_number : (k : Call) → (call b (lasting_after b calls) k).number ≡ (call b' (lasting_after b' calls) k).number
    lasting_number = number_next calls (history_same calls)

    abbrev h : History
    h = lasting_history b calls

    run' : run b' (lasting_history b' calls) ≡ run b' h
    run' = ap (run b') (sym (history_same calls))

    pub lasting_count : fullest (lasting_after b calls) ≡ fullest (lasting_after b' calls)
    lasting_count = count_is b taken calls ∙ most_same a a' ok ok' s fit good_row pairs h ∙ sym (count_is b' taken' calls ∙ ap fullest run')

    -- of each property, in order
    each : {A : Type 0} (f : Rows → State → ℕ → A) → ((r : ℕ) → f b (lasting_after b calls) r ≡ f b (run b h) r) → ((r : ℕ) → f b' (lasting_after b' calls) r ≡ f b' (run b' (lasting_history b' calls)) r)
        → ((r r' : ℕ) → Says b w s fit good_row b' w' r r' → f b (run b h) r ≡ f b' (run b' h) r') → map (f b (lasting_after b calls)) ps ≡ map (f b' (lasting_after b' calls)) ps'
    each f p q e = pairs_map (f b (lasting_after b calls)) (f b' (lasting_after b' calls))
        (λ r r' y. p r ∙ e r r' y ∙ sym (q r' ∙ ap (λ st. f b' st r') run')) ps ps' pairs

    pub lasting_values : map (value b (lasting_after b calls)) ps ≡ map (value b' (lasting_after b' calls)) ps'
    lasting_values = each value (value_is b taken calls) (value_is b' taken' calls) (λ r r' y. values_same b w s fit good_row b' w' wide y h)

    pub lasting_settled : map (settled b (lasting_after b calls)) ps ≡ map (settled b' (lasting_after b' calls)) ps'
    lasting_settled = each settled (settled_is b taken calls) (settled_is b' taken' calls) (λ r r' y. settled_same b w s fit good_row b' w' wide h (follows b taken calls).legal y)

    pub lasting_early : (s.form ≡ form.Implication → ⊥) → map (early b (lasting_after b calls)) ps ≡ map (early b' (lasting_after b' calls)) ps'
    lasting_early other = each early (early_is b taken calls) (early_is b' taken' calls) (λ r r' y. early_same b w s fit good_row b' w' wide h other y)
