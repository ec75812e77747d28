-- A book before and after a step refuses the same calls, with the same numbers, and after any calls gives each property the same value and
-- settled answer. Assumes nothing.
use Prim.Native.Nat.{ℕ, ◌<◌}
use mathlib.Core.Path.{◌≡◌, refl, sym, ap, ap₂, ◌∙◌}
use mathlib.Core.Bool.{Bool, true, false, cond}
use mathlib.Core.List.{List, [], ◌∷◌, ◌++◌, map}
use lib.ListN.{length}
use lib.Dec.{ltb, eqb}
use Rattle.numbers.specs.Limits.{MOST_ATOMS}
use Rattle.numbers.specs.Refusals.{ACCEPTED, PAST_LIMIT, TOO_NARROW, NOT_A_BIT, NO_ROOM, TOO_WIDE}
use Rattle.pmtl.specs.Book.{Rows, row_at, Ordered, width_of, some}
use Rattle.pmtl.specs.Monitor.{Snap, State, fullest, value}
use Rattle.pmtl.specs.Early.{early}
use Rattle.pmtl.specs.Settled.{settled}
use Rattle.pmtl.specs.Calls.{Call, time, state, stamped, turns, time_refusal, state_refusal, first_of, refusal, crowded, Outcome, play, call, after, History, onto, accepted}
use Rattle.pmtl.specs.Past.{run_by, run}
use Rattle.pmtl.proofs.Answers.{step_ordinary}
use Rattle.pmtl.proofs.History.{now_run, way_run}
use Rattle.pmtl.proofs.Calls.{trail}
use Rattle.book.specs.Reading.{Sections}
use Rattle.book.specs.Judging.{judged, book_in}
use Rattle.trees.specs.Books.{head_in}
use Rattle.trees.proofs.Judged.{HeadGood}
use Rattle.trees.proofs.Sections.{book_ordered}
use Rattle.tidying.specs.declared.Form.TheVariants as form
use Rattle.tidying.specs.declared.Step.{Step}
use Rattle.tidying.specs.Steps.{parts_at, fits}
use Rattle.tidying.proofs.Saying.{Pairs, pairs_map, Says}
use Rattle.tidying.proofs.Values.{now_same, values_same}
use Rattle.tidying.proofs.Answers.{early_same, settled_same}
use Rattle.tidying.proofs.Totals.{wide, crowded_same, most_same}

-- the first of a call's snapshots, made after a history
first_played : (b : Rows) (old : State) (n : Snap) (ns : List Snap) (h : History) → play b old (run b h) (n ∷ ns)
    ≡ elim (crowded (run b (n ∷ h))) as (λ x. Outcome) [ true ↦ record { number = NO_ROOM; state = old } | false ↦ play b old (run b (n ∷ h)) ns ]
unfolding play run_by
first_played b old n ns h =
    ap (λ (st : State). elim (crowded st) as (λ x. Outcome) [ true ↦ record { number = NO_ROOM; state = old } | false ↦ play b old st ns ])
    (step_ordinary b (run b h) n (way_run b h))

module _ (a a' : Sections) (ok : judged a ≡ 0) (ok' : judged a' ≡ 0) (s : Step) (fit : fits (book_in a).rows s ≡ true)
    (good_row : (r : ℕ) → r < length (book_in a).rows → HeadGood (head_in (row_at (book_in a).rows r)) (length (parts_at (book_in a).rows r)))
    (pairs : Pairs (Says (book_in a).rows (book_ordered a ok) s fit good_row (book_in a').rows (book_ordered a' ok')) (a.assumes ++ a.guarantees) (a'.assumes ++ a'.guarantees)) where
  abbrev b : Rows
  b = (book_in a).rows

  abbrev b' : Rows
  b' = (book_in a').rows

  abbrev w : Ordered b
  w = book_ordered a ok

  abbrev w' : Ordered b'
  w' = book_ordered a' ok'

  abbrev ps : List ℕ
  ps = a.assumes ++ a.guarantees

  abbrev ps' : List ℕ
  ps' = a'.assumes ++ a'.guarantees

  pub width : width_of b ≡ width_of b'
  width = wide a a' ok ok' s fit good_row pairs

  -- ---- one call, after the same history
  play_same : (old old' : State) (ns : List Snap) (h : History) → (play b old (run b h) ns).number ≡ (play b' old' (run b' h) ns).number
  unfolding play
  play_same old old' [] h = refl
  play_same old old' (n ∷ ns) h = ap (λ (o : Outcome). o.number) (first_played b old n ns h)
      ∙ by_test (crowded (run b (n ∷ h))) (crowded (run b' (n ∷ h))) (crowded_same a a' ok ok' s fit good_row pairs (n ∷ h)) (play_same old old' ns (n ∷ h))
      ∙ sym (ap (λ (o : Outcome). o.number) (first_played b' old' n ns h))
    where
      at : (z : Bool) → (play b old (run b (n ∷ h)) ns).number ≡ (play b' old' (run b' (n ∷ h)) ns).number
          → (elim z as (λ x. Outcome) [ true ↦ record { number = NO_ROOM; state = old } | false ↦ play b old (run b (n ∷ h)) ns ]).number
          ≡ (elim z as (λ x. Outcome) [ true ↦ record { number = NO_ROOM; state = old' } | false ↦ play b' old' (run b' (n ∷ h)) ns ]).number
      at true rest = refl
      at false rest = rest

      by_test : (z z' : Bool) → z ≡ z' → (play b old (run b (n ∷ h)) ns).number ≡ (play b' old' (run b' (n ∷ h)) ns).number
          → (elim z as (λ x. Outcome) [ true ↦ record { number = NO_ROOM; state = old } | false ↦ play b old (run b (n ∷ h)) ns ]).number
          ≡ (elim z' as (λ x. Outcome) [ true ↦ record { number = NO_ROOM; state = old' } | false ↦ play b' old' (run b' (n ∷ h)) ns ]).number
      by_test z z' e rest = at z rest ∙ ap (λ q. (elim q as (λ x. Outcome) [ true ↦ record { number = NO_ROOM; state = old' } | false ↦ play b' old' (run b' (n ∷ h)) ns ]).number) e

  state_same : (bytes : List ℕ) → state_refusal b bytes ≡ state_refusal b' bytes
  state_same bytes = ap (λ (m : ℕ). cond (ltb MOST_ATOMS (length bytes)) PAST_LIMIT (cond (ltb (length bytes) m) TOO_NARROW (cond (ltb m (length bytes)) TOO_WIDE (cond (some (ltb 1) bytes) NOT_A_BIT ACCEPTED)))) width

  pub refusal_same : (n : Snap) (k : Call) → refusal b n k ≡ refusal b' n k
  unfolding refusal
  refusal_same n (time t) = refl
  refusal_same n (state bytes) = state_same bytes
  refusal_same n (stamped t bytes) = ap (first_of (time_refusal n t)) (state_same bytes)

  run_now : (h : History) → (run b h).now ≡ (run b' h).now
  run_now h = now_run b h ∙ now_same b w s fit good_row b' w' width h ∙ sym (now_run b' h)

  call_same : (h : History) (k : Call) → (call b (run b h) k).number ≡ (call b' (run b' h) k).number
  unfolding call
  call_same h k = by_number (refusal b (run b h).now k) (refusal b' (run b' h).now k) (ap (λ n. refusal b n k) (run_now h) ∙ refusal_same (run b' h).now k)
    where
      plays : (play b (run b h) (run b h) (turns (run b h).now k)).number ≡ (play b' (run b' h) (run b' h) (turns (run b' h).now k)).number
      plays = ap (λ ns. (play b (run b h) (run b h) ns).number) (ap (λ n. turns n k) (run_now h))
          ∙ play_same (run b h) (run b' h) (turns (run b' h).now k) h

      at : (x : ℕ) (z : Bool)
          → (elim z as (λ y. Outcome) [ true ↦ play b (run b h) (run b h) (turns (run b h).now k) | false ↦ record { number = x; state = run b h } ]).number
          ≡ (elim z as (λ y. Outcome) [ true ↦ play b' (run b' h) (run b' h) (turns (run b' h).now k) | false ↦ record { number = x; state = run b' h } ]).number
      at x true = plays
      at x false = refl

      by_number : (x x' : ℕ) → x ≡ x'
          → (elim (eqb x ACCEPTED) as (λ y. Outcome) [ true ↦ play b (run b h) (run b h) (turns (run b h).now k) | false ↦ record { number = x; state = run b h } ]).number
          ≡ (elim (eqb x' ACCEPTED) as (λ y. Outcome) [ true ↦ play b' (run b' h) (run b' h) (turns (run b' h).now k) | false ↦ record { number = x'; state = run b' h } ]).number
      by_number x x' e = at x (eqb x ACCEPTED)
          ∙ ap (λ q. (elim (eqb q ACCEPTED) as (λ y. Outcome) [ true ↦ play b' (run b' h) (run b' h) (turns (run b' h).now k) | false ↦ record { number = q; state = run b' h } ]).number) e

  -- ---- calls, the newest first: the same ones are accepted
  module _ (ks : List Call) (ih : accepted b ks ≡ accepted b' ks) where
    number_next : (k : Call) → (call b (after b ks) k).number ≡ (call b' (after b' ks) k).number
    number_next k = ap (λ st. (call b st k).number) (trail b ks).is
        ∙ call_same (accepted b ks) k
        ∙ ap (λ h. (call b' (run b' h) k).number) ih
        ∙ sym (ap (λ st. (call b' st k).number) (trail b' ks).is)

    now_next : (after b ks).now ≡ (after b' ks).now
    now_next = ap (λ (st : State). st.now) (trail b ks).is ∙ run_now (accepted b ks) ∙ ap (λ h. (run b' h).now) ih ∙ sym (ap (λ (st : State). st.now) (trail b' ks).is)

  accepted_same : (ks : List Call) → accepted b ks ≡ accepted b' ks
  unfolding accepted
  accepted_same [] = refl
  accepted_same (k ∷ ks) = let ih = accepted_same ks in
      ap₂ (λ x ns. cond (eqb x ACCEPTED) (onto ns (accepted b ks)) (accepted b ks)) (number_next ks ih k) (ap (λ n. turns n k) (now_next ks ih))
      ∙ ap (λ h. cond (eqb (call b' (after b' ks) k).number ACCEPTED) (onto (turns (after b' ks).now k) h) h) ih

  module _ (calls : List Call) where
    pub number_same : (k : Call) → (call b (after b calls) k).number ≡ (call b' (after b' calls) k).number
    number_same = number_next calls (accepted_same calls)

    abbrev h : History
    h = accepted b calls

    after' : after b' calls ≡ run b' h
    after' = (trail b' calls).is ∙ ap (run b') (sym (accepted_same calls))

    pub count_same : fullest (after b calls) ≡ fullest (after b' calls)
    count_same = ap fullest (trail b calls).is ∙ most_same a a' ok ok' s fit good_row pairs h ∙ sym (ap fullest after')

    -- of each property, in order
    each : {A : Type 0} (f : Rows → State → ℕ → A) → ((r r' : ℕ) → Says b w s fit good_row b' w' r r' → f b (run b h) r ≡ f b' (run b' h) r') → map (f b (after b calls)) ps ≡ map (f b' (after b' calls)) ps'
    each f e = ap (λ st. map (f b st) ps) (trail b calls).is ∙ pairs_map (f b (run b h)) (f b' (run b' h)) e ps ps' pairs ∙ sym (ap (λ st. map (f b' st) ps') after')

    pub value_same : map (value b (after b calls)) ps ≡ map (value b' (after b' calls)) ps'
    value_same = each value (λ r r' y. values_same b w s fit good_row b' w' width y h)

    pub settled_answers : map (settled b (after b calls)) ps ≡ map (settled b' (after b' calls)) ps'
    settled_answers = each settled (λ r r' y. settled_same b w s fit good_row b' w' width h (trail b calls).legal y)

    pub early_answers : (s.form ≡ form.Implication → ⊥) → map (early b (after b calls)) ps ≡ map (early b' (after b' calls)) ps'
    early_answers other = each early (λ r r' y. early_same b w s fit good_row b' w' width h other y)
