-- Demand 2: values are what they mean on the history of accepted calls, and sets are those of REFERENCE 3.5. Assumes nothing.
use Prim.Native.Nat.{ℕ, ◌<◌, ◌≤◌}
use native.Mathlib.Omega.{arith}
use mathlib.Core.Path.{◌≡◌, refl, sym, ap, ap₂, ◌∙◌}
use mathlib.Core.Bool.{Bool, true, false, not, ◌&&◌, ◌||◌}
use mathlib.Core.List.{List, [], ◌∷◌, map}
use Rattle.numset.specs.Runs.{Runs, has, Canonical}
use Rattle.pmtl.specs.Book.{Range, in_range, Row, map_row, Rows, row_at, AllBelow, Below, Ordered, every, some, itself}
use Rattle.pmtl.specs.Book.Row.{never, always, atom, conj, disj, neg, implies, historically, once, since}
use Rattle.pmtl.specs.Sets.{Renew, renewed, ordinary, set_rule_by}
use Rattle.pmtl.specs.Monitor.{Snap, set_at, value_rule, value}
use Rattle.pmtl.specs.Calls.{History, now_of}
use Rattle.pmtl.specs.Meaning.{Fact, since_some, instants, meaning_rule, meaning}
use Rattle.pmtl.specs.Past.{run_by, run, held}
use Rattle.pmtl.proofs.Table.{by_rows, answer_fix}
use Rattle.pmtl.proofs.Answers.{value_fix, set_fix_by}
use Rattle.pmtl.proofs.Renewed.{Lawful, renewed_lawful}
use Rattle.pmtl.proofs.History.{Legal, now_run_by, initial_set, run_canonical_by}

pub meaning_fix : (b : Rows) → Ordered b → (r : ℕ) → meaning b r ≡ meaning_rule b r (map_row (meaning b) (row_at b r))
unfolding meaning meaning_rule
meaning_fix b w r = answer_fix b (λ h. false) (meaning_rule b) w r refl

-- lists of operands
module _ (r : ℕ) (v : ℕ → Bool) (m : ℕ → Fact) (h : History) (below : (o : ℕ) → o < r → v o ≡ m o h) where
  every_same : (os : List ℕ) → AllBelow r os → every itself (map v os) ≡ every (λ (f : Fact). f h) (map m os)
  unfolding every
  every_same [] w = refl
  every_same (o ∷ os) w = ap₂ ◌&&◌ (below o w.0) (every_same os w.1)

  some_same : (os : List ℕ) → AllBelow r os → some itself (map v os) ≡ some (λ (f : Fact). f h) (map m os)
  unfolding some
  some_same [] w = refl
  some_same (o ∷ os) w = ap₂ ◌||◌ (below o w.0) (some_same os w.1)

  -- a row's value, if its set is as REFERENCE 3.5 defines it
  pub row_value : (b : Rows) (row : Row ℕ) → Below r row → (x : Bool) → x ≡ instants (map_row m row) h (now_of b h).clock
      → value_rule (now_of b h).atoms x (map_row v row) ≡ meaning_rule b r (map_row m row) h
  unfolding value_rule meaning_rule
  row_value b never w x e = refl
  row_value b always w x e = refl
  row_value b (atom a) w x e = refl
  row_value b (conj os) w x e = every_same os w
  row_value b (disj os) w x e = some_same os w
  row_value b (neg o) w x e = ap not (below o w)
  row_value b (implies p q) w x e = ap₂ (λ y z. not y || z) (below p w.0) (below q w.1)
  row_value b (historically g o) w x e = ap not e
  row_value b (once g o) w x e = e
  row_value b (since g p q) w x e = e

pub instants_none : (row : Row Fact) (t : ℕ) → instants row [] t ≡ false
unfolding instants since_some
instants_none never t = refl
instants_none always t = refl
instants_none (atom a) t = refl
instants_none (conj fs) t = refl
instants_none (disj fs) t = refl
instants_none (neg f) t = refl
instants_none (implies f k) t = refl
instants_none (historically g f) t = refl
instants_none (once g f) t = refl
instants_none (since g f k) t = refl

-- sets are renewed in any way that has the laws
module _ (renew : Renew) (horizon : ℕ → ℕ) (lw : Lawful renew horizon) where
  -- one call renews a row's set as REFERENCE 3.5 says
  module _ (r : ℕ) (v : ℕ → Bool) (m : ℕ → Fact) (s : Snap) (h : History) (below : (o : ℕ) → o < r → v o ≡ m o (s ∷ h))
      (old : Runs) (ok : Canonical old) (t : ℕ) (near : horizon s.clock ≤ t) where
    since_step : (g : Range) (f q : Fact) (k x : Bool) → k ≡ f (s ∷ h) → x ≡ q (s ∷ h) → has old t ≡ since_some g f q h t
        → has (renew k x g s.clock old) t ≡ since_some g f q (s ∷ h) t
    unfolding since_some
    since_step g f q k x ek ex e = lw.members k x g s.clock old ok t near
        ∙ ap₂ ◌||◌ (ap (λ y. y && in_range g s.clock t) ex) (ap₂ ◌&&◌ ek e)

    row_set : (row : Row ℕ) → Below r row → has old t ≡ instants (map_row m row) h t
        → has (set_rule_by renew s.clock old (map_row v row)) t ≡ instants (map_row m row) (s ∷ h) t
    unfolding has set_rule_by instants
    row_set never w e = refl
    row_set always w e = refl
    row_set (atom a) w e = refl
    row_set (conj fs) w e = refl
    row_set (disj fs) w e = refl
    row_set (neg f) w e = refl
    row_set (implies f k) w e = refl
    row_set (historically g o) w e = since_step g (λ k. true) (λ k. not (m o k)) true (not (v o)) refl (ap not (below o w)) e
    row_set (once g o) w e = since_step g (λ k. true) (m o) true (v o) refl (below o w) e
    row_set (since g x y) w e = since_step g (m x) (m y) (v x) (v y) (below x w.0) (below y w.1) e

  -- what a row's value was after the calls of a history
  abbrev held_by : Rows → ℕ → Fact
  held_by b o h = value b (run_by renew b h) o

  module _ (b : Rows) (w : Ordered b) where
    -- m says what the operands' values are: then a row's set has, from the horizon on, the instants that REFERENCE 3.5 defines, and its value is
    -- what the rule says
    module _ (r : ℕ) (m : ℕ → Fact) (below : (o : ℕ) → o < r → (h : History) → Legal b h → held_by b o h ≡ m o h) where
      set_instants : (h : History) → Legal b h → (t : ℕ) → horizon (now_of b h).clock ≤ t
          → has (set_at (run_by renew b h) r) t ≡ instants (map_row m (row_at b r)) h t
      unfolding run_by has
      set_instants [] l t n = ap (λ (s : Runs). has s t) (initial_set ordinary b r) ∙ sym (instants_none (map_row m (row_at b r)) t)
      set_instants (s ∷ h) l t n = ap (λ (x : Runs). has x t) (set_fix_by b w renew (run_by renew b h) s r)
          ∙ row_set r (value b (run_by renew b (s ∷ h))) m s h (λ o k. below o k (s ∷ h) l) (set_at (run_by renew b h) r) (run_canonical_by renew lw b h r) t n (row_at b r) (w r)
          (set_instants h l.2 t (omega (arith, lw.later (now_of b h).clock s.clock l.0)))

      value_by : (h : History) → Legal b h → held_by b r h ≡ meaning_rule b r (map_row m (row_at b r)) h
      value_by h l = value_fix b w (run_by renew b h) r
          ∙ ap (λ (n : Snap). value_rule n.atoms (has (set_at (run_by renew b h) r) n.clock) (map_row (value b (run_by renew b h)) (row_at b r))) (now_run_by renew b h)
          ∙ row_value r (value b (run_by renew b h)) m h (λ o k. below o k h l) b (row_at b r) (w r) (has (set_at (run_by renew b h) r) (now_of b h).clock)
          (set_instants h l (now_of b h).clock (lw.now (now_of b h).clock))

    -- over the values themselves: each row's value is what REFERENCE 4.1 says of the values that its operands had after the calls so far
    pub value_held_by : (r : ℕ) (h : History) → Legal b h → held_by b r h ≡ meaning_rule b r (map_row (held_by b) (row_at b r)) h
    value_held_by r = value_by r (held_by b) (λ o k h l. refl)

    -- over the meaning that is defined by the book and the history alone
    pub values_mean_by : (r : ℕ) (h : History) → Legal b h → value b (run_by renew b h) r ≡ meaning b r h
    values_mean_by = by_rows (λ r. (h : History) → Legal b h → held_by b r h ≡ meaning b r h) λ r below h l.
        value_by r (meaning b) below h l ∙ sym (ap (λ (f : Fact). f h) (meaning_fix b w r))

    -- a row's set: from the horizon on the instants that REFERENCE 3.5 defines
    pub sets_mean_by : (r : ℕ) (h : History) → Legal b h → (t : ℕ) → horizon (now_of b h).clock ≤ t
        → has (set_at (run_by renew b h) r) t ≡ instants (map_row (meaning b) (row_at b r)) h t
    sets_mean_by r = set_instants r (meaning b) (λ o k h l. values_mean_by o h l)

-- as the monitor does it
module _ (b : Rows) (w : Ordered b) where
  pub value_held : (r : ℕ) (h : History) → Legal b h → held b r h ≡ meaning_rule b r (map_row (held b) (row_at b r)) h
  value_held = value_held_by renewed (λ c. c) renewed_lawful b w

  pub values_mean : (r : ℕ) (h : History) → Legal b h → value b (run b h) r ≡ meaning b r h
  values_mean = values_mean_by renewed (λ c. c) renewed_lawful b w

  pub sets_mean : (r : ℕ) (h : History) → Legal b h → (t : ℕ) → (now_of b h).clock ≤ t
      → has (set_at (run b h) r) t ≡ instants (map_row (meaning b) (row_at b r)) h t
  sets_mean = sets_mean_by renewed (λ c. c) renewed_lawful b w
