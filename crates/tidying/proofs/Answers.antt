-- Rows that say the same have the same settled answers, and the same early ones but for the step from Implies to Or. Assumes nothing.
use Prim.Native.Nat.{ℕ, ◌<◌}
use mathlib.Core.Path.{◌≡◌, refl, sym, ap, ap₂, ◌∙◌}
use mathlib.Core.Bool.{Bool, true, false, cond, ◌&&◌, ◌||◌}
use mathlib.Core.List.{[], ◌∷◌}
use lib.ListN.{length}
use Rattle.numset.specs.Runs.{Runs, covers}
use Rattle.pmtl.specs.declared.Answer.{Answer}
use Rattle.pmtl.specs.declared.Answer.TheVariants.{False, True, Open}
use Rattle.pmtl.specs.Answer.{is_true, is_false, is_open, reversed, known, decided}
use Rattle.pmtl.specs.Book.{Row, map_row, Rows, row_at, Ordered, width_of, every, some}
use Rattle.pmtl.specs.Book.Row.{historically, once}
use Rattle.pmtl.specs.Sets.{gone}
use Rattle.pmtl.specs.Monitor.{Snap, initial_in}
use Rattle.pmtl.specs.Early.{from_now, early_rule, early}
use Rattle.pmtl.specs.Settled.{settled_true, settled_false, settled_rule, settled}
use Rattle.pmtl.specs.Calls.{History, now_of}
use Rattle.pmtl.specs.Past.{run_by, run}
use Rattle.pmtl.proofs.Answers.{early_fix, settled_fix, settled_before, step_begun}
use Rattle.pmtl.proofs.History.{Legal, now_run, run_canonical}
use Rattle.pmtl.proofs.Settled.{covers_not_gone}
use Rattle.pmtl.proofs.Theorems.{early_historically_is_not_once_not}
use Rattle.trees.specs.Books.{head_in, parts_in}
use Rattle.trees.proofs.Judged.{HeadGood}
use Rattle.tidying.specs.declared.Form.TheVariants as form
use Rattle.tidying.specs.declared.Step.{Step}
use Rattle.tidying.specs.Steps.{parts_at, fits}
use Rattle.tidying.proofs.Fits.{In}
use Rattle.tidying.proofs.Saying.{Pairs, pairs_map, same_row, Says, Laws, said}
use Rattle.tidying.proofs.Values.{set_of, same_sets, history_sets}

-- ---- rules
neg_neg : (x : Answer) → decided (is_false (decided (is_false x) (is_true x))) (is_true (decided (is_false x) (is_true x))) ≡ x
neg_neg False = refl
neg_neg True = refl
neg_neg Open = refl

and_only : (x : Answer) → decided (is_true x && true) (is_false x || false) ≡ x
and_only False = refl
and_only True = refl
and_only Open = refl

or_only : (x : Answer) → decided (is_true x || false) (is_false x && true) ≡ x
or_only False = refl
or_only True = refl
or_only Open = refl

imp_or : (x y : Answer) → let n = decided (is_false x) (is_true x) in
    decided (is_true y || is_false x) (is_false y && is_true x) ≡ decided (is_true n || (is_true y || false)) (is_false n && (is_false y && true))
imp_or False False = refl
imp_or False True = refl
imp_or False Open = refl
imp_or True False = refl
imp_or True True = refl
imp_or True Open = refl
imp_or Open False = refl
imp_or Open True = refl
imp_or Open Open = refl

-- a set never both covers and is gone
not_once : (x : Answer) (c g z : Bool) → (c ≡ true → g ≡ true → ⊥) → let m = decided (is_false x) (is_true x) in
    let n = decided (c || is_true m && z) (is_false m && g) in
    decided (is_true x && g) (c || is_false x && z) ≡ decided (is_false n) (is_true n)
not_once x true true z h = absurd (h refl refl)
not_once False true false z h = refl
not_once False false true true h = refl
not_once False false true false h = refl
not_once False false false true h = refl
not_once False false false false h = refl
not_once True true false z h = refl
not_once True false true z h = refl
not_once True false false z h = refl
not_once Open true false z h = refl
not_once Open false true z h = refl
not_once Open false false z h = refl

early_twice : (x : Answer) → reversed (reversed x) ≡ x
early_twice False = refl
early_twice True = refl
early_twice Open = refl

early_and : (x : Answer) → cond (is_open x || false) Open (known (is_true x && true)) ≡ x
early_and False = refl
early_and True = refl
early_and Open = refl

early_or : (x : Answer) → cond (is_open x || false) Open (known (is_true x || false)) ≡ x
early_or False = refl
early_or True = refl
early_or Open = refl

-- ---- one book
module _ (b : Rows) (w : Ordered b) where
  early_in_lem : (h : History) {r : ℕ} {row : Row ℕ} → In b r row → early b (run b h) r ≡ early_rule (covers (now_of b h).clock (set_of b w h r)) (map_row (early b (run b h)) row)
  early_in_lem h {r} i = early_fix b w (run b h) r i.there
      ∙ ap₂ (λ (n : Snap) row. early_rule (covers n.clock (set_of b w h r)) (map_row (early b (run b h)) row)) (now_run b h) i.is

  settled_in : (h : History) → (run b h).begun ≡ true → {r : ℕ} {row : Row ℕ} → In b r row
      → settled b (run b h) r ≡ settled_rule (covers (now_of b h).clock (set_of b w h r)) (gone (now_of b h).clock (set_of b w h r)) (map_row (settled b (run b h)) row)
  settled_in h e {r} i = settled_fix b w (run b h) e r i.there
      ∙ ap₂ (λ (n : Snap) row. settled_rule (covers n.clock (set_of b w h r)) (gone n.clock (set_of b w h r)) (map_row (settled b (run b h)) row)) (now_run b h) i.is

-- ---- two books
module _ (b : Rows) (w : Ordered b) (s : Step) (fit : fits b s ≡ true)
    (good_row : (r : ℕ) → r < length b → HeadGood (head_in (row_at b r)) (length (parts_at b r))) (b' : Rows) (w' : Ordered b') (wide : width_of b ≡ width_of b') where
  abbrev sets : {r r' : ℕ} (row row' : Row ℕ) → In b r row → In b' r' row' → head_in row ≡ head_in row' → Pairs (Says b w s fit good_row b' w') (parts_in row) (parts_in row')
      → (h : History) → set_of b w h r ≡ set_of b' w' h r'
  sets = same_sets b w s fit good_row b' w' wide

  clock_same : (h : History) → (now_of b h).clock ≡ (now_of b' h).clock
  clock_same [] = refl
  clock_same (n ∷ h) = refl

  module _ (h : History) where
    abbrev f : ℕ → Answer
    f = early b (run b h)

    abbrev f' : ℕ → Answer
    f' = early b' (run b' h)

    early_laws : (s.form ≡ form.Implication → ⊥) → Laws b w s fit good_row b' w' (λ r r'. f r ≡ f' r')
    unfolding early_rule every some
    early_laws other = record {
      by_same = λ {r} {r'} row row' i i' k y p. early_in_lem b w h i
          ∙ ap₂ (λ c (u : Runs). early_rule (covers c u) (map_row f row)) (clock_same h) (sets row row' i i' k y h)
          ∙ ap (early_rule (covers (now_of b' h).clock (set_of b' w' h r'))) (same_row Open f f' row row' k (pairs_map f f' (λ o o' e. e) (parts_in row) (parts_in row') p))
          ∙ sym (early_in_lem b' w' h i');
      by_not_not = λ {r} {o} {p} i j e. early_in_lem b w h i ∙ ap reversed (early_in_lem b w h j) ∙ early_twice (f p) ∙ e;
      by_and = λ {r} {o} i e. early_in_lem b w h i ∙ early_and (f o) ∙ e;
      by_or = λ {r} {o} i e. early_in_lem b w h i ∙ early_or (f o) ∙ e;
      by_implies = λ z i i₁ i₂ p q. absurd (other z);
      by_history = λ {g} {r} {x} {r'} {n} {m} {x'} i i₁ i₂ i₃ y e. early_in_lem b w h i
          ∙ early_historically_is_not_once_not (covers (now_of b h).clock (set_of b w h r)) g (f x)
          ∙ ap₂ (λ c (u : Runs). reversed (early_rule (covers c u) (once g (reversed (f x))))) (clock_same h) (history_sets b w s fit good_row b' w' wide i i₂ i₃ y h)
          ∙ ap (λ a. reversed (early_rule (covers (now_of b' h).clock (set_of b' w' h n)) (once g (reversed a)))) e
          ∙ sym (early_in_lem b' w' h i₁ ∙ ap reversed (early_in_lem b' w' h i₂ ∙ ap (λ a. early_rule (covers (now_of b' h).clock (set_of b' w' h n)) (once g a)) (early_in_lem b' w' h i₃)));
    }

    pub early_same : (s.form ≡ form.Implication → ⊥) → {r r' : ℕ} → Says b w s fit good_row b' w' r r' → early b (run b h) r ≡ early b' (run b' h) r'
    early_same other y = said b w s fit good_row b' w' (λ r r'. f r ≡ f' r') (early_laws other) y

  module _ (n : Snap) (past : History) (legal : Legal b (n ∷ past)) where
    abbrev now : History
    now = n ∷ past

    abbrev g : ℕ → Answer
    g = settled b (run b now)

    abbrev g' : ℕ → Answer
    g' = settled b' (run b' now)

    at : {r : ℕ} {row : Row ℕ} → In b r row → g r ≡ settled_rule (covers n.clock (set_of b w now r)) (gone n.clock (set_of b w now r)) (map_row g row)
    unfolding run_by
    at = settled_in b w now (step_begun b (run b past) n)

    at' : {r : ℕ} {row : Row ℕ} → In b' r row → g' r ≡ settled_rule (covers n.clock (set_of b' w' now r)) (gone n.clock (set_of b' w' now r)) (map_row g' row)
    unfolding run_by
    at' = settled_in b' w' now (step_begun b' (run b' past) n)

    settled_laws : Laws b w s fit good_row b' w' (λ r r'. g r ≡ g' r')
    unfolding settled_true settled_false every some
    settled_laws = record {
      by_same = λ {r} {r'} row row' i i' k y p. at i
          ∙ ap₂ (λ (q : Runs) x. settled_rule (covers n.clock q) (gone n.clock q) x) (sets row row' i i' k y now) (same_row Open g g' row row' k (pairs_map g g' (λ o o' e. e) (parts_in row) (parts_in row') p))
          ∙ sym (at' i');
      by_not_not = λ {r} {o} {p} i j e. at i ∙ ap (λ x. decided (is_false x) (is_true x)) (at j) ∙ neg_neg (g p) ∙ e;
      by_and = λ {r} {o} i e. at i ∙ and_only (g o) ∙ e;
      by_or = λ {r} {o} i e. at i ∙ or_only (g o) ∙ e;
      by_implies = λ {r} {x} {y} {r'} {n = m} {x'} {y'} z i i₁ i₂ p q. at i
          ∙ ap₂ (λ u v. decided (is_true v || is_false u) (is_false v && is_true u)) p q
          ∙ imp_or (g' x') (g' y')
          ∙ sym (at' i₁ ∙ ap (λ u. decided (is_true u || (is_true (g' y') || false)) (is_false u && (is_false (g' y') && true))) (at' i₂));
      by_history = λ {g = k} {r} {x} {r'} {n = m} {m = o} {x'} i i₁ i₂ i₃ y e. at i
          ∙ ap₂ (λ (u : Runs) v. settled_rule (covers n.clock u) (gone n.clock u) (historically k v)) (history_sets b w s fit good_row b' w' wide i i₂ i₃ y now) e
          ∙ not_once (g' x') (covers n.clock (set_of b' w' now m)) (gone n.clock (set_of b' w' now m)) (from_now k)
          (covers_not_gone n.clock (set_of b' w' now m) (run_canonical b' now m) legal.1)
          ∙ sym (at' i₁ ∙ ap (λ u. decided (is_false u) (is_true u)) (at' i₂ ∙ ap (λ u. settled_rule (covers n.clock (set_of b' w' now m)) (gone n.clock (set_of b' w' now m)) (once k u)) (at' i₃)));
    }

  -- open before the first call
  open_same : (r r' : ℕ) → settled b (run b []) r ≡ settled b' (run b' []) r'
  unfolding run_by initial_in
  open_same r r' = settled_before b (run b []) refl r ∙ sym (settled_before b' (run b' []) refl r')

  pub settled_same : (h : History) → Legal b h → {r r' : ℕ} → Says b w s fit good_row b' w' r r' → settled b (run b h) r ≡ settled b' (run b' h) r'
  settled_same [] l {r} {r'} y = open_same r r'
  settled_same (n ∷ h) l {r} {r'} y = said b w s fit good_row b' w' (λ r r'. settled b (run b (n ∷ h)) r ≡ settled b' (run b' (n ∷ h)) r') (settled_laws n h l) y
