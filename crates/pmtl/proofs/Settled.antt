-- Demand 3: a settled answer is the value, and stays; and the two tests of settled never both pass. Assumes nothing.
use Prim.Native.Nat.{ℕ, zero, suc, ◌+◌, ◌<◌, ◌≤◌}
use native.Mathlib.Omega.{arith}
use native.Mathlib.Decide.{dec_lt}
use mathlib.Core.Path.{◌≡◌, refl, sym, ap, ◌∙◌}
use mathlib.Core.Bool.{Bool, true, false, cond, not, ◌&&◌, ◌||◌, false≢true}
use mathlib.Core.List.{List, [], ◌∷◌, ◌++◌, map}
use lib.ListN.{length}
use lib.Dec.{eqb}
use borrow.Author.Tests.{eqb-true, eqb-false, not-true}
use Rattle.numbers.specs.Limits.{MAX}
use Rattle.numset.specs.Runs.{Runs, has, covers, Canonical}
use Rattle.lists.proofs.Tests.{clash, and_left, and_right, and_intro, and_no_left, and_no_right, or_left, or_right, or_no, or_elim, not_yes, not_no, and_mono, or_mono, or_not_and, and_not_or}
use Rattle.numset.proofs.Laws.{inside, outside_above}
use Rattle.numset.proofs.Covering.{covers_all, all_covers}
use Rattle.pmtl.specs.declared.Answer.{Answer}
use Rattle.pmtl.specs.declared.Answer.TheVariants.{False, True, Open}
use Rattle.pmtl.specs.Answer.{is_true, is_false, known, decided}
use Rattle.pmtl.specs.Book.{Range, start, stop, in_range, Row, map_row, Rows, row_at, AllBelow, Below, Ordered, every, some, itself}
use Rattle.pmtl.specs.Book.Row.{never, always, atom, conj, disj, neg, implies, historically, once, since}
use Rattle.pmtl.specs.Sets.{gone, renewed, set_rule_by, set_rule}
use Rattle.pmtl.specs.Monitor.{Snap, State, set_at, value_rule, initial_in, initial, step_by, step, value}
use Rattle.pmtl.specs.Early.{from_now}
use Rattle.pmtl.specs.Settled.{settled_true, settled_false, settled}
use Rattle.pmtl.specs.Calls.{History}
use Rattle.pmtl.proofs.Table.{by_rows}
use Rattle.pmtl.proofs.Answers.{value_fix, set_fix, settled_fix, settled_out, settled_before}
use Rattle.pmtl.proofs.Seams.{gone_has, gone_later}
use Rattle.pmtl.proofs.Renewed.{renewed_canonical, renewed_has, renewed_gone, renewed_lawful, rule_canonical}
use Rattle.pmtl.specs.Past.{run_by, run}
use Rattle.pmtl.proofs.History.{Legal, run_canonical}

-- two tests, of true and of false, are right of a value
abbrev Right : Bool → Bool → Bool → Type 0
Right y n v = (y ≡ true → v ≡ true) × (n ≡ true → v ≡ false)

abbrev Sound : Answer → Bool → Type 0
Sound a v = Right (is_true a) (is_false a) v

-- what is settled stays so
abbrev pub Stays : Answer → Answer → Type 0
Stays a b = (is_true a ≡ true → is_true b ≡ true) × (is_false a ≡ true → is_false b ≡ true)

right_sound : (y n v : Bool) → Right y n v → Sound (decided y n) v
right_sound true n v h = (h.0, λ x. absurd (false≢true x))
right_sound false true v h = (λ x. absurd (false≢true x), h.1)
right_sound false false v h = (λ x. absurd (false≢true x), λ x. absurd (false≢true x))

right_stays : (y n y' n' v : Bool) → (y ≡ true → y' ≡ true) → (n ≡ true → n' ≡ true) → Right y' n' v → Stays (decided y n) (decided y' n')
right_stays true n true n' v f g h = (λ x. x, λ x. absurd (false≢true x))
right_stays true n false n' v f g h = absurd (false≢true (f refl))
right_stays false true true n' v f g h = absurd (clash (h.0 refl) (h.1 (g refl)))
right_stays false true false true v f g h = (λ x. x, λ x. x)
right_stays false true false false v f g h = absurd (false≢true (g refl))
right_stays false false y' n' v f g h = (λ x. absurd (false≢true x), λ x. absurd (false≢true x))

open_sound : (a : Answer) (v : Bool) → a ≡ Open → Sound a v
open_sound a v e = rw e (λ x. absurd (false≢true x), λ x. absurd (false≢true x))

pub open_stays : (a b : Answer) → a ≡ Open → Stays a b
open_stays a b e = rw e (λ x. absurd (false≢true x), λ x. absurd (false≢true x))

-- lists of operands
module _ (r : ℕ) (a : ℕ → Answer) (v : ℕ → Bool) (below : (o : ℕ) → o < r → Sound (a o) (v o)) where
  all_right : (os : List ℕ) → AllBelow r os → Right (every is_true (map a os)) (some is_false (map a os)) (every itself (map v os))
  unfolding every some
  all_right [] w = (λ h. h, λ h. absurd (false≢true h))
  all_right (o ∷ os) w = (and_mono _ _ _ _ (below o w.0).0 (all_right os w.1).0, or_not_and _ _ _ _ (below o w.0).1 (all_right os w.1).1)

  any_right : (os : List ℕ) → AllBelow r os → Right (some is_true (map a os)) (every is_false (map a os)) (some itself (map v os))
  unfolding every some
  any_right [] w = (λ h. h, λ h. refl)
  any_right (o ∷ os) w = (or_mono _ _ _ _ (below o w.0).0 (any_right os w.1).0, and_not_or _ _ _ _ (below o w.0).1 (any_right os w.1).1)

module _ (r : ℕ) (a b : ℕ → Answer) (p : Answer → Bool) (below : (o : ℕ) → o < r → p (a o) ≡ true → p (b o) ≡ true) where
  pub every_stays : (os : List ℕ) → AllBelow r os → every p (map a os) ≡ true → every p (map b os) ≡ true
  unfolding every
  every_stays [] w = λ h. h
  every_stays (o ∷ os) w = and_mono _ _ _ _ (below o w.0) (every_stays os w.1)

  pub some_stays : (os : List ℕ) → AllBelow r os → some p (map a os) ≡ true → some p (map b os) ≡ true
  unfolding some
  some_stays [] w = λ h. h
  some_stays (o ∷ os) w = or_mono _ _ _ _ (below o w.0) (some_stays os w.1)

-- a range counted from the clock
pub stop_after : (g : Range) (c : ℕ) → c ≤ MAX → c ≤ stop g c
unfolding stop
stop_after g c h = elim (eqb g.upper MAX) as (λ x. c ≤ cond x MAX (c + g.upper)) [ true ↦ h | false ↦ omega arith ]

reaches : (g : Range) (c : ℕ) → c ≤ MAX → from_now g ≡ true → in_range g c c ≡ true
reaches g c h z = inside (start g c) (stop g c) c (omega (arith, eqb-true g.lower 0 z)) (stop_after g c h)

later : (g : Range) (c : ℕ) → from_now g ≡ false → in_range g c c ≡ false
later g c z = outside_above (start g c) (stop g c) c (above g.lower (eqb-false g.lower 0 z))
  where
    above : (n : ℕ) → (n ≡ 0 → ⊥) → c < c + n
    above zero h = absurd (h refl)
    above (suc n) h = omega arith

covers_has : (c : ℕ) (s : Runs) → c ≤ MAX → covers c s ≡ true → has s c ≡ true
covers_has c s small h = covers_all c s h c (omega arith) small

gone_now : (c : ℕ) (s : Runs) → Canonical s → gone c s ≡ true → has s c ≡ false
gone_now c s w h = gone_has c c s w (omega arith) h

-- s is the set of a temporal row after a call at clock c, in which it stayed (k) and was added to (x)
module _ (k x : Bool) (g : Range) (c : ℕ) (old : Runs) (ok : Canonical old) (small : c ≤ MAX) (s : Runs) (is : s ≡ renewed k x g c old) where
  renewed_at : (t : ℕ) → c ≤ t → has s t ≡ (x && in_range g c t || k && has old t)
  renewed_at t l = ap (λ (q : Runs). has q t) is ∙ renewed_has k x g c old ok t l

  added : x ≡ true → from_now g ≡ true → has s c ≡ true
  added h z = renewed_at c (omega arith) ∙ or_left _ _ (and_intro _ _ h (reaches g c small z))

  dropped : k ≡ false → from_now g ≡ false → has s c ≡ false
  dropped h z = renewed_at c (omega arith) ∙ or_no _ _ (and_no_right x _ (later g c z)) (and_no_left _ _ h)

  -- what is settled by the set before stays settled by the set after
  covers_stays : (d : ℕ) → d ≤ c → k ≡ true → covers d old ≡ true → covers c s ≡ true
  covers_stays d le h q = all_covers c s (rw is (renewed_canonical k x g c old ok)) small λ t l m.
      renewed_at t l ∙ or_right (x && in_range g c t) _ (and_intro _ _ h (covers_all d old q t (omega arith) m))

  gone_stays : (d : ℕ) → d ≤ c → x ≡ false → gone d old ≡ true → gone c s ≡ true
  gone_stays d le h q = rw is (renewed_gone k x g c old ok h (gone_later d c old le q))

-- one row in one state: its tests are right of its value
module _ (now : Snap) (small : now.clock ≤ MAX) (r : ℕ) (a : ℕ → Answer) (v : ℕ → Bool) (below : (o : ℕ) → o < r → Sound (a o) (v o))
    (old : Runs) (ok : Canonical old) where
  made : (row : Row Bool) (s : Runs) → s ≡ set_rule now.clock old row → Canonical s
  made row s e = rw e (rule_canonical renewed renewed_lawful now.clock old ok row)

  row_right : (row : Row ℕ) → Below r row → (s : Runs) → s ≡ set_rule now.clock old (map_row v row)
      → Right (settled_true (covers now.clock s) (gone now.clock s) (map_row a row)) (settled_false (covers now.clock s) (gone now.clock s) (map_row a row))
      (value_rule now.atoms (has s now.clock) (map_row v row))
  unfolding settled_true settled_false value_rule set_rule_by
  row_right never w s e = (λ h. h, λ h. refl)
  row_right always w s e = (λ h. refl, λ h. sym h)
  row_right (atom n) w s e = (λ h. absurd (false≢true h), λ h. absurd (false≢true h))
  row_right (conj os) w s e = all_right r a v below os w
  row_right (disj os) w s e = any_right r a v below os w
  row_right (neg o) w s e = (λ h. not_yes _ ((below o w).1 h), λ h. not_no _ ((below o w).0 h))
  row_right (implies x y) w s e = (
    or_elim _ _ (λ h. or_right (not (v x)) _ ((below y w.1).0 h)) (λ h. or_left _ _ (not_yes _ ((below x w.0).1 h))),
    λ h. or_no _ _ (not_no _ ((below x w.0).0 (and_right (is_false (a y)) _ h))) ((below y w.1).1 (and_left _ _ h)),
  )
  row_right (historically g o) w s e = (
    λ h. not_yes _ (gone_now _ s (made (map_row v (historically g o)) s e) (and_right (is_true (a o)) _ h)),
    or_elim _ _ (λ h. not_no _ (covers_has _ s small h))
        (λ h. not_no _ (added true (not (v o)) g _ old ok small s e (not_yes _ ((below o w).1 (and_left _ _ h))) (and_right (is_false (a o)) _ h))),
  )
  row_right (once g o) w s e = (
    or_elim _ _ (covers_has _ s small)
        (λ h. added true (v o) g _ old ok small s e ((below o w).0 (and_left _ _ h)) (and_right (is_true (a o)) _ h)),
    λ h. gone_now _ s (made (map_row v (once g o)) s e) (and_right (is_false (a o)) _ h),
  )
  row_right (since g x y) w s e = (
    or_elim _ _ (λ h. covers_has _ s small (and_right (is_true (a x)) _ h))
        (λ h. added (v x) (v y) g _ old ok small s e ((below y w.1).0 (and_left _ _ h)) (and_right (is_true (a y)) _ h)),
    or_elim _ _ (λ h. gone_now _ s (made (map_row v (since g x y)) s e) (and_right (is_false (a y)) _ h))
        (λ h. dropped (v x) (v y) g _ old ok small s e ((below x w.0).1 (and_left _ _ h)) (not-true _ (and_right (is_false (a x)) _ h))),
  )

-- one row from one state to the next: its tests stay. d, old and a are of the state before; now, b and v of the state after
module _ (now : Snap) (small : now.clock ≤ MAX) (d : ℕ) (le : d ≤ now.clock) (r : ℕ) (a b : ℕ → Answer) (v : ℕ → Bool)
    (below : (o : ℕ) → o < r → Stays (a o) (b o)) (right : (o : ℕ) → o < r → Sound (b o) (v o)) (old : Runs) (ok : Canonical old) where
  true_stays : (row : Row ℕ) → Below r row → (s : Runs) → s ≡ set_rule now.clock old (map_row v row)
      → settled_true (covers d old) (gone d old) (map_row a row) ≡ true → settled_true (covers now.clock s) (gone now.clock s) (map_row b row) ≡ true
  unfolding settled_true set_rule_by
  true_stays never w s e = λ h. h
  true_stays always w s e = λ h. h
  true_stays (atom n) w s e = λ h. h
  true_stays (conj os) w s e = every_stays r a b is_true (λ o l. (below o l).0) os w
  true_stays (disj os) w s e = some_stays r a b is_true (λ o l. (below o l).0) os w
  true_stays (neg o) w s e = (below o w).1
  true_stays (implies x y) w s e = or_mono _ _ _ _ (below y w.1).0 (below x w.0).1
  true_stays (historically g o) w s e = λ h. let x = (below o w).0 (and_left _ _ h) in
      and_intro _ _ x (gone_stays true (not (v o)) g _ old ok small s e d le (not_no _ ((right o w).0 x)) (and_right (is_true (a o)) _ h))
  true_stays (once g o) w s e = or_mono _ _ _ _ (covers_stays true (v o) g _ old ok small s e d le refl) (and_mono _ _ _ _ (below o w).0 (λ z. z))
  true_stays (since g x y) w s e = or_mono _ _ _ _
      (λ h. let l = (below x w.0).0 (and_left _ _ h) in
      and_intro _ _ l (covers_stays (v x) (v y) g _ old ok small s e d le ((right x w.0).0 l) (and_right (is_true (a x)) _ h)))
      (and_mono _ _ _ _ (below y w.1).0 (λ z. z))

  false_stays : (row : Row ℕ) → Below r row → (s : Runs) → s ≡ set_rule now.clock old (map_row v row)
      → settled_false (covers d old) (gone d old) (map_row a row) ≡ true → settled_false (covers now.clock s) (gone now.clock s) (map_row b row) ≡ true
  unfolding settled_false set_rule_by
  false_stays never w s e = λ h. h
  false_stays always w s e = λ h. h
  false_stays (atom n) w s e = λ h. h
  false_stays (conj os) w s e = some_stays r a b is_false (λ o l. (below o l).1) os w
  false_stays (disj os) w s e = every_stays r a b is_false (λ o l. (below o l).1) os w
  false_stays (neg o) w s e = (below o w).0
  false_stays (implies x y) w s e = and_mono _ _ _ _ (below y w.1).1 (below x w.0).0
  false_stays (historically g o) w s e = or_mono _ _ _ _ (covers_stays true (not (v o)) g _ old ok small s e d le refl) (and_mono _ _ _ _ (below o w).1 (λ z. z))
  false_stays (once g o) w s e = λ h. let x = (below o w).1 (and_left _ _ h) in
      and_intro _ _ x (gone_stays true (v o) g _ old ok small s e d le ((right o w).1 x) (and_right (is_false (a o)) _ h))
  false_stays (since g x y) w s e = or_mono _ _ _ _
      (λ h. let q = (below y w.1).1 (and_left _ _ h) in
      and_intro _ _ q (gone_stays (v x) (v y) g _ old ok small s e d le ((right y w.1).1 q) (and_right (is_false (a y)) _ h)))
      (and_mono _ _ _ _ (below x w.0).1 (λ z. z))

-- a book
module _ (b : Rows) (w : Ordered b) where
  -- after a call
  module _ (st : State) (now : Snap) (ok : (r : ℕ) → Canonical (set_at st r)) (small : now.clock ≤ MAX) where
    -- a row's two tests
    abbrev yes? : ℕ → Bool
    yes? r = settled_true (covers now.clock (set_at (step b st now) r)) (gone now.clock (set_at (step b st now) r)) (map_row (settled b (step b st now)) (row_at b r))

    abbrev no? : ℕ → Bool
    no? r = settled_false (covers now.clock (set_at (step b st now) r)) (gone now.clock (set_at (step b st now) r)) (map_row (settled b (step b st now)) (row_at b r))

    answer_is : (r : ℕ) → r < length b → settled b (step b st now) r ≡ decided (yes? r) (no? r)
    unfolding step_by
    answer_is r h = settled_fix b w (step b st now) refl r h

    value_is : (r : ℕ) → value b (step b st now) r
        ≡ value_rule now.atoms (has (set_at (step b st now) r) now.clock) (map_row (value b (step b st now)) (row_at b r))
    unfolding step_by
    value_is r = value_fix b w (step b st now) r

    tests_right : (r : ℕ) → ((o : ℕ) → o < r → Sound (settled b (step b st now) o) (value b (step b st now) o)) → Right (yes? r) (no? r) (value b (step b st now) r)
    tests_right r below = rw (value_is r)
        (row_right now small r (settled b (step b st now)) (value b (step b st now)) below (set_at st r) (ok r) (row_at b r) (w r) (set_at (step b st now) r) (set_fix b w st now r))

    -- what is settled is the value
    step_right : (r : ℕ) → Sound (settled b (step b st now) r) (value b (step b st now) r)
    step_right = by_rows (λ r. Sound (settled b (step b st now) r) (value b (step b st now) r)) λ r below. go r below (dec_lt r (length b))
      where
        go : (r : ℕ) → ((o : ℕ) → o < r → Sound (settled b (step b st now) o) (value b (step b st now) o)) → Dec (r < length b)
            → Sound (settled b (step b st now) r) (value b (step b st now) r)
        go r below (yes l) = rw (answer_is r l) (right_sound (yes? r) (no? r) (value b (step b st now) r) (tests_right r below))
        go r below (no l) = open_sound _ _ (settled_out b (step b st now) r (omega arith))

  settled_value : (s : Snap) (h : History) → Legal b (s ∷ h) → (r : ℕ) → Sound (settled b (run b (s ∷ h)) r) (value b (run b (s ∷ h)) r)
  unfolding run_by
  settled_value s h l r = step_right (run b h) s (run_canonical b h) l.1 r

  -- and the next call leaves it so
  module _ (st : State) (s t : Snap) (ok : (r : ℕ) → Canonical (set_at st r)) (ok' : (r : ℕ) → Canonical (set_at (step b st s) r))
      (le : s.clock ≤ t.clock) (small : s.clock ≤ MAX) (small' : t.clock ≤ MAX) where
    abbrev before : ℕ → Answer
    before = settled b (step b st s)

    abbrev next : ℕ → Answer
    next = settled b (step b (step b st s) t)

    there_stays : (r : ℕ) → r < length b → ((o : ℕ) → o < r → Stays (before o) (next o)) → Stays (before r) (next r)
    there_stays r h below =
        let right = step_right (step b st s) t ok' small' in
        let v = value b (step b (step b st s) t) in
        rw (answer_is st s ok small r h, answer_is (step b st s) t ok' small' r h)
        (right_stays (yes? st s ok small r) (no? st s ok small r) (yes? (step b st s) t ok' small' r) (no? (step b st s) t ok' small' r) (v r)
        (true_stays t small' s.clock le r before next v below (λ o k. right o) (set_at (step b st s) r) (ok' r) (row_at b r) (w r) _ (set_fix b w (step b st s) t r))
        (false_stays t small' s.clock le r before next v below (λ o k. right o) (set_at (step b st s) r) (ok' r) (row_at b r) (w r) _ (set_fix b w (step b st s) t r))
        (tests_right (step b st s) t ok' small' r (λ o k. right o)))

    step_stays : (r : ℕ) → Stays (before r) (next r)
    step_stays = by_rows (λ r. Stays (before r) (next r)) λ r below. go r below (dec_lt r (length b))
      where
        go : (r : ℕ) → ((o : ℕ) → o < r → Stays (before o) (next o)) → Dec (r < length b) → Stays (before r) (next r)
        go r below (yes l) = there_stays r l below
        go r below (no l) = open_stays (before r) (next r) (settled_out b (step b st s) r (omega arith))

  settled_next : (t s : Snap) (h : History) → Legal b (t ∷ s ∷ h) → (r : ℕ) → Stays (settled b (run b (s ∷ h)) r) (settled b (run b (t ∷ s ∷ h)) r)
  unfolding run_by
  settled_next t s h l r = step_stays (run b h) s t (run_canonical b h) (run_canonical b (s ∷ h)) l.0 l.2.1 l.1 r

  to_sound : (a : Answer) (v x : Bool) → Sound a v → a ≡ known x → v ≡ x
  to_sound a v true h e = h.0 (ap is_true e)
  to_sound a v false h e = h.1 (ap is_false e)

  pub to_stays : (a a' : Answer) (x : Bool) → Stays a a' → a ≡ known x → a' ≡ known x
  to_stays a False true h e = absurd (false≢true (h.0 (ap is_true e)))
  to_stays a True true h e = refl
  to_stays a Open true h e = absurd (false≢true (h.0 (ap is_true e)))
  to_stays a False false h e = refl
  to_stays a True false h e = absurd (false≢true (h.1 (ap is_false e)))
  to_stays a Open false h e = absurd (false≢true (h.1 (ap is_false e)))

  not_yet : (r : ℕ) (x : Bool) → settled b (run b []) r ≡ known x → ⊥
  unfolding run_by initial_in
  not_yet r true e = false≢true (ap is_true (sym (settled_before b (initial b) refl r) ∙ e))
  not_yet r false e = false≢true (ap is_false (sym (settled_before b (initial b) refl r) ∙ e))

  settled_on : (r : ℕ) (x : Bool) (t : Snap) (h : History) → Legal b (t ∷ h) → settled b (run b h) r ≡ known x
      → (value b (run b (t ∷ h)) r ≡ x) × (settled b (run b (t ∷ h)) r ≡ known x)
  settled_on r x t [] l e = absurd (not_yet r x e)
  settled_on r x t (s ∷ h) l e =
      let e' = to_stays (settled b (run b (s ∷ h)) r) (settled b (run b (t ∷ s ∷ h)) r) x (settled_next t s h l r) e in
      (to_sound (settled b (run b (t ∷ s ∷ h)) r) (value b (run b (t ∷ s ∷ h)) r) x (settled_value t (s ∷ h) l r) e', e')

  -- once the settled answer is x after the calls of h, then and after every further calls the value is x and the settled answer x
  pub settles : (r : ℕ) (x : Bool) (more h : History) → Legal b (more ++ h) → settled b (run b h) r ≡ known x
      → (value b (run b (more ++ h)) r ≡ x) × (settled b (run b (more ++ h)) r ≡ known x)
  settles r x [] [] l e = absurd (not_yet r x e)
  settles r x [] (s ∷ h) l e = (to_sound _ _ x (settled_value s h l r) e, e)
  settles r x (t ∷ more) h l e = settled_on r x t (more ++ h) l (settles r x more h l.2 e).1

-- ---- the tests of true and of false never both pass
one_answer : (x : Answer) → is_true x ≡ true → is_false x ≡ true → ⊥
one_answer False h k = false≢true h
one_answer True h k = false≢true k
one_answer Open h k = false≢true h

module _ (p q : Answer → Bool) (apart : (x : Answer) → p x ≡ true → q x ≡ true → ⊥) where
  lists_apart : (xs : List Answer) → every p xs ≡ true → some q xs ≡ true → ⊥
  unfolding every some
  lists_apart [] h k = false≢true k
  lists_apart (x ∷ xs) h k = or_elim (q x) _ (apart x (and_left _ _ h)) (lists_apart xs (and_right (p x) _ h)) k

-- of a set that does not both cover and be gone
pub tests_apart : (cv gn : Bool) → (cv ≡ true → gn ≡ true → ⊥) → (row : Row Answer) → settled_true cv gn row ≡ true → settled_false cv gn row ≡ true → ⊥
unfolding settled_true settled_false
tests_apart cv gn n never h k = false≢true h
tests_apart cv gn n always h k = false≢true k
tests_apart cv gn n (atom a) h k = false≢true h
tests_apart cv gn n (conj xs) h k = lists_apart is_true is_false one_answer xs h k
tests_apart cv gn n (disj xs) h k = lists_apart is_false is_true (λ x f t. one_answer x t f) xs k h
tests_apart cv gn n (neg x) h k = one_answer x k h
tests_apart cv gn n (implies l r) h k = or_elim (is_true r) _ (λ t. one_answer r t (and_left _ _ k)) (one_answer l (and_right (is_false r) _ k)) h
tests_apart cv gn n (historically g x) h k = or_elim cv _ (λ c. n c (and_right (is_true x) _ h)) (λ f. one_answer x (and_left _ _ h) (and_left _ _ f)) k
tests_apart cv gn n (once g x) h k = or_elim cv _ (λ c. n c (and_right (is_false x) _ k)) (λ t. one_answer x (and_left _ _ t) (and_left _ _ k)) h
tests_apart cv gn n (since g l r) h k = or_elim (is_true l && cv) _
    (λ t. or_elim (is_false r && gn) _ (λ f. n (and_right (is_true l) _ t) (and_right (is_false r) _ f)) (λ f. one_answer l (and_left _ _ t) (and_left _ _ f)) k)
    (λ t. or_elim (is_false r && gn) _ (λ f. one_answer r (and_left _ _ t) (and_left _ _ f))
    (λ f. clash (and_right (is_true r) _ t) (not-true _ (and_right (is_false l) _ f))) k) h

-- a set that covers from a clock is not gone there
pub covers_not_gone : (c : ℕ) (s : Runs) → Canonical s → c ≤ MAX → covers c s ≡ true → gone c s ≡ true → ⊥
covers_not_gone c s w small v n = clash (covers_has c s small v) (gone_now c s w n)
