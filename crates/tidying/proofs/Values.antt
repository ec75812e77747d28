-- Rows that say the same have the same values, and the same sets where they are temporal, after every history. Assumes nothing.
use Prim.Native.Nat.{ℕ, ◌<◌}
use mathlib.Core.Path.{◌≡◌, refl, sym, ap, ap₂, ◌∙◌}
use mathlib.Core.Bool.{Bool, true, false, not, ◌&&◌, ◌||◌}
use mathlib.Core.List.{[], ◌∷◌}
use lib.ListN.{length, replicate}
use Rattle.numset.specs.Runs.{Runs, has}
use Rattle.pmtl.specs.Book.{Range, Row, map_row, Rows, row_at, Ordered, width_of, every, some}
use Rattle.pmtl.specs.Book.Row.{neg, historically, once}
use Rattle.pmtl.specs.Sets.{renewed, ordinary, set_rule_by, set_rule}
use Rattle.pmtl.specs.Monitor.{Snap, set_at, value, value_rule}
use Rattle.pmtl.specs.Calls.{History, now_of}
use Rattle.pmtl.specs.Past.{run_by, run}
use Rattle.pmtl.proofs.Answers.{value_fix, set_fix}
use Rattle.pmtl.proofs.History.{now_run, initial_set}
use Rattle.trees.specs.Books.{head_in, parts_in}
use Rattle.trees.proofs.Judged.{HeadGood}
use Rattle.tidying.specs.declared.Step.{Step}
use Rattle.tidying.specs.Steps.{parts_at, fits}
use Rattle.tidying.proofs.Fits.{In}
use Rattle.tidying.proofs.Saying.{Pairs, pairs_map, same_row, Says, Laws, said, said_all}

-- ---- one book: a row's value and set, by its kind
module _ (b : Rows) (w : Ordered b) where
  abbrev pub vals : History → ℕ → Bool
  vals h = value b (run b h)

  abbrev pub set_of : History → ℕ → Runs
  set_of h r = set_at (run b h) r

  pub value_in : (h : History) {r : ℕ} {row : Row ℕ} → In b r row
      → vals h r ≡ value_rule (now_of b h).atoms (has (set_of h r) (now_of b h).clock) (map_row (vals h) row)
  value_in h {r} i = value_fix b w (run b h) r
      ∙ ap (λ (n : Snap). value_rule n.atoms (has (set_of h r) n.clock) (map_row (vals h) (row_at b r))) (now_run b h)
      ∙ ap (λ row. value_rule (now_of b h).atoms (has (set_of h r) (now_of b h).clock) (map_row (vals h) row)) i.is

  pub set_none : (r : ℕ) → set_of [] r ≡ []
  unfolding run_by
  set_none r = initial_set ordinary b r

  pub set_in_lem : (s : Snap) (h : History) {r : ℕ} {row : Row ℕ} → In b r row
      → set_of (s ∷ h) r ≡ set_rule s.clock (set_of h r) (map_row (vals (s ∷ h)) row)
  unfolding run_by
  set_in_lem s h {r} i = set_fix b w (run b h) s r ∙ ap (λ row. set_rule s.clock (set_of h r) (map_row (vals (s ∷ h)) row)) i.is

  pub val_not : {r o : ℕ} → In b r (neg o) → (h : History) → vals h r ≡ not (vals h o)
  unfolding value_rule
  val_not i h = value_in h i

-- ---- bools
twice : (v : Bool) → not (not v) ≡ v
twice true = refl
twice false = refl

and_only : (v : Bool) → (v && true) ≡ v
and_only true = refl
and_only false = refl

or_only : (v : Bool) → (v || false) ≡ v
or_only true = refl
or_only false = refl

-- ---- two books
module _ (b : Rows) (w : Ordered b) (s : Step) (fit : fits b s ≡ true)
    (good_row : (r : ℕ) → r < length b → HeadGood (head_in (row_at b r)) (length (parts_at b r))) (b' : Rows) (w' : Ordered b') (wide : width_of b ≡ width_of b') where
  pub now_same : (h : History) → now_of b h ≡ now_of b' h
  now_same [] = ap (λ n. record { clock = 0; atoms = replicate n false }) wide
  now_same (n ∷ h) = refl

  -- rows whose rules see the same have the same sets
  sets_by : {r r' : ℕ} {row row' : Row ℕ} → In b r row → In b' r' row'
      → ((n : Snap) (h : History) (old : Runs) → set_rule n.clock old (map_row (vals b w (n ∷ h)) row) ≡ set_rule n.clock old (map_row (vals b' w' (n ∷ h)) row'))
      → (h : History) → set_of b w h r ≡ set_of b' w' h r'
  sets_by {r} {r'} {row} {row'} i i' e [] = set_none b w r ∙ sym (set_none b' w' r')
  sets_by {r} {r'} {row} {row'} i i' e (n ∷ h) = set_in_lem b w n h i
      ∙ e n h (set_of b w h r)
      ∙ ap (λ (old : Runs). set_rule n.clock old (map_row (vals b' w' (n ∷ h)) row')) (sets_by i i' e h)
      ∙ sym (set_in_lem b' w' n h i')

  abbrev Equal : ℕ → ℕ → Type 0
  Equal r r' = (h : History) → vals b w h r ≡ vals b' w' h r'

  rows_equal : (row row' : Row ℕ) → head_in row ≡ head_in row' → Pairs Equal (parts_in row) (parts_in row') → (h : History) → map_row (vals b w h) row ≡ map_row (vals b' w' h) row'
  rows_equal row row' k p h = same_row false (vals b w h) (vals b' w' h) row row' k (pairs_map (vals b w h) (vals b' w' h) (λ o o' e. e h) (parts_in row) (parts_in row') p)

  sets_equal : {r r' : ℕ} (row row' : Row ℕ) → In b r row → In b' r' row' → head_in row ≡ head_in row' → Pairs Equal (parts_in row) (parts_in row') → (h : History) → set_of b w h r ≡ set_of b' w' h r'
  sets_equal row row' i i' k p = sets_by i i' (λ n h old. ap (set_rule n.clock old) (rows_equal row row' k p (n ∷ h)))

  -- Historically has the set that Once of Not has
  hist_set : {g : Range} {r x n m x' : ℕ} → In b r (historically g x) → In b' n (once g m) → In b' m (neg x') → Equal x x' → (h : History) → set_of b w h r ≡ set_of b' w' h n
  unfolding set_rule_by
  hist_set {g} i i₂ i₃ e = sets_by i i₂ (λ n h old. ap (λ v. renewed true v g n.clock old) (ap not (e (n ∷ h)) ∙ sym (val_not b' w' i₃ (n ∷ h))))

  value_laws : Laws b w s fit good_row b' w' Equal
  unfolding value_rule every some
  value_laws = record {
    by_same = λ {r} {r'} row row' i i' k y p h. value_in b w h i
        ∙ ap₂ (λ (n : Snap) (u : Runs). value_rule n.atoms (has u n.clock) (map_row (vals b w h) row)) (now_same h) (sets_equal row row' i i' k p h)
        ∙ ap (value_rule (now_of b' h).atoms (has (set_of b' w' h r') (now_of b' h).clock)) (rows_equal row row' k p h)
        ∙ sym (value_in b' w' h i');
    by_not_not = λ {r} {o} {p} i j e h. val_not b w i h ∙ ap not (val_not b w j h) ∙ twice (vals b w h p) ∙ e h;
    by_and = λ {r} {o} i e h. value_in b w h i ∙ and_only (vals b w h o) ∙ e h;
    by_or = λ {r} {o} i e h. value_in b w h i ∙ or_only (vals b w h o) ∙ e h;
    by_implies = λ {r} {x} {y} {r'} {n} {x'} {y'} z i i₁ i₂ p q h. value_in b w h i
        ∙ ap₂ (λ v u. not v || u) (p h) (q h)
        ∙ sym (value_in b' w' h i₁ ∙ ap₂ (λ v u. v || u) (val_not b' w' i₂ h) (or_only (vals b' w' h y')));
    by_history = λ {g} {r} {x} {r'} {n} {m} {x'} i i₁ i₂ i₃ y e h. value_in b w h i
        ∙ ap₂ (λ (u : Runs) (k : Snap). not (has u k.clock)) (hist_set i i₂ i₃ e h) (now_same h)
        ∙ sym (val_not b' w' i₁ h ∙ ap not (value_in b' w' h i₂));
  }

  pub values_same : {r r' : ℕ} → Says b w s fit good_row b' w' r r' → (h : History) → vals b w h r ≡ vals b' w' h r'
  values_same y = said b w s fit good_row b' w' Equal value_laws y

  -- ---- sets
  pub same_sets : {r r' : ℕ} (row row' : Row ℕ) → In b r row → In b' r' row' → head_in row ≡ head_in row' → Pairs (Says b w s fit good_row b' w') (parts_in row) (parts_in row')
      → (h : History) → set_of b w h r ≡ set_of b' w' h r'
  same_sets row row' i i' k p = sets_equal row row' i i' k (said_all b w s fit good_row b' w' Equal value_laws (parts_in row) (parts_in row') p)

  pub history_sets : {g : Range} {r x n m x' : ℕ} → In b r (historically g x) → In b' n (once g m) → In b' m (neg x') → Says b w s fit good_row b' w' x x'
      → (h : History) → set_of b w h r ≡ set_of b' w' h n
  history_sets i i₂ i₃ y = hist_set i i₂ i₃ (values_same y)
