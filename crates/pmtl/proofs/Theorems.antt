-- What is proved of the definitions, in the words of REFERENCE 3 and 4. Of a book it is asked at most that operands are below their owners (`Ordered`);
-- the calls are any list, the newest first, refused ones among them; r is any number, of a row or of none. Nothing is assumed.
use Prim.Native.Nat.{ℕ, ◌≤◌}
use native.Mathlib.Omega.{arith}
use mathlib.Core.Path.{◌≡◌, refl, ap, ◌∙◌}
use mathlib.Core.Logic.{◌↔◌}
use mathlib.Core.Bool.{Bool, true, false, cond, not, ◌&&◌}
use mathlib.Core.List.{List, ◌∷◌, ◌++◌}
use Rattle.numbers.specs.Limits.{MAX}
use Rattle.numset.specs.Runs.{Runs, has, Covers, covers, Canonical}
use Rattle.numset.proofs.Covering.{covers_iff}
use Rattle.pmtl.specs.declared.Answer.{Answer}
use Rattle.pmtl.specs.declared.Answer.TheVariants.{False, True, Open}
use Rattle.pmtl.specs.Answer.{is_true, is_false, known, reversed}
use Rattle.pmtl.specs.Early.{from_now, early_rule}
use Rattle.pmtl.specs.Book.{Range, Row, map_row, Rows, row_at, Ordered}
use Rattle.pmtl.specs.Book.Row.{historically, once, since}
use Rattle.pmtl.specs.Sets.{gone, ordinary, set_rule_by, set_rule}
use Rattle.pmtl.specs.Monitor.{Snap, State, set_at, value_rule, value}
use Rattle.pmtl.specs.Settled.{settled_true, settled_false, settled}
use Rattle.pmtl.specs.Calls.{Call, call, after, accepted, now_of}
use Rattle.pmtl.specs.Meaning.{instants, meaning}
use Rattle.pmtl.specs.Past.{run, held, SomeCall, SinceCall}
use Rattle.pmtl.proofs.History.{small_clock, now_run, run_canonical}
use Rattle.pmtl.proofs.Values.{values_mean, sets_mean}
use Rattle.pmtl.proofs.Ago.{once_held, historically_held, since_held}
use Rattle.pmtl.proofs.Settled.{settles, tests_apart, covers_not_gone}
use Rattle.pmtl.proofs.Calls.{trail, further, refused_stays, after_refused, accepted_refused}

-- the state after calls is that of the history of the accepted ones
pub after_is : (b : Rows) (calls : List Call) → after b calls ≡ run b (accepted b calls)
after_is b calls = (trail b calls).is

clock_is : (b : Rows) (calls : List Call) → (after b calls).now.clock ≡ (now_of b (accepted b calls)).clock
clock_is b calls = ap (λ (st : State). st.now.clock) (after_is b calls) ∙ ap (λ (s : Snap). s.clock) (now_run b (accepted b calls))

-- the clock is never above MAX
pub clock_small : (b : Rows) (calls : List Call) → (after b calls).now.clock ≤ MAX
clock_small b calls = rw (clock_is b calls) (small_clock b (accepted b calls) (trail b calls).legal)

-- a set's runs are sorted, disjoint and never adjacent: they are the longest stretches of consecutive instants
pub sets_are_canonical : (b : Rows) (calls : List Call) (r : ℕ) → Canonical (set_at (after b calls) r)
sets_are_canonical b calls r = rw (after_is b calls) (run_canonical b (accepted b calls) r)

module _ (b : Rows) (w : Ordered b) (calls : List Call) (r : ℕ) where
  -- each temporal row has, from the clock on, the set of instants that REFERENCE 3.5 defines from the accepted calls so far
  pub sets_are_instants : (t : ℕ) → (after b calls).now.clock ≤ t → has (set_at (after b calls) r) t ≡ instants (map_row (meaning b) (row_at b r)) (accepted b calls) t
  sets_are_instants t n = rw (after_is b calls) (sets_mean b w r (accepted b calls) (trail b calls).legal t (omega (arith, clock_is b calls)))

  -- DEMAND 2: a row's value is what the row means on the history of the accepted calls
  pub demand_2 : value b (after b calls) r ≡ meaning b r (accepted b calls)
  demand_2 = rw (after_is b calls) (values_mean b w r (accepted b calls) (trail b calls).legal)

  value_run : value b (after b calls) r ≡ held b r (accepted b calls)
  value_run = ap (λ st. value b st r) (after_is b calls)

  -- Once holds exactly if its argument held after some call so far whose range, counted from that call, contains now
  pub once_holds : (g : Range) (o : ℕ) → row_at b r ≡ once g o
      → (value b (after b calls) r ≡ true) ↔ SomeCall b g (held b o) (accepted b calls) (after b calls).now.clock
  once_holds g o e = rw value_run (once_held b w r (accepted b calls) (trail b calls).legal (after b calls).now.clock (clock_is b calls) g o e)

  -- Historically holds exactly if its argument failed after no such call
  pub historically_holds : (g : Range) (o : ℕ) → row_at b r ≡ historically g o
      → (value b (after b calls) r ≡ true) ↔ ¬ (SomeCall b g (λ past. not (held b o past)) (accepted b calls) (after b calls).now.clock)
  historically_holds g o e = rw value_run (historically_held b w r (accepted b calls) (trail b calls).legal (after b calls).now.clock (clock_is b calls) g o e)

  -- Since holds exactly if right held after some such call and left after every later one
  pub since_holds : (g : Range) (left right : ℕ) → row_at b r ≡ since g left right
      → (value b (after b calls) r ≡ true) ↔ SinceCall b g (held b left) (held b right) (accepted b calls) (after b calls).now.clock
  since_holds g x y e = rw value_run (since_held b w r (accepted b calls) (trail b calls).legal (after b calls).now.clock (clock_is b calls) g x y e)

  -- DEMAND 3: if settled is true or false, then now and after every further list of calls the value is that and settled is that
  pub demand_3 : (more : List Call) (x : Bool) → settled b (after b calls) r ≡ known x
      → (value b (after b (more ++ calls)) r ≡ x) × (settled b (after b (more ++ calls)) r ≡ known x)
  demand_3 more x e =
      let f = further b more calls in
      let t = trail b (more ++ calls) in
      let s = settles b w r x f.0 (accepted b calls) (rw f.1 at t.legal) (rw (after_is b calls) at e) in
      rw (t.is, f.1) s

-- a refused call changes no clock, atom or set
pub refused_changes_nothing : (b : Rows) (st : State) (k : Call) → ¬ ((call b st k).number ≡ 0) → (call b st k).state ≡ st
refused_changes_nothing b st k n = refused_stays b st k n

-- and no later answer: further calls leave the state, and the history, that they leave without it
pub refused_leaves_no_trace : (b : Rows) (calls more : List Call) (k : Call) → ¬ ((call b (after b calls) k).number ≡ 0)
    → (after b (more ++ k ∷ calls) ≡ after b (more ++ calls)) × (accepted b (more ++ k ∷ calls) ≡ accepted b (more ++ calls))
refused_leaves_no_trace b calls more k n = (after_refused ordinary b k calls n more, accepted_refused b k calls n more)

-- "covers" means that every instant from the clock to MAX is in the set
pub covers_is : (b : Rows) (calls : List Call) (r : ℕ)
    → (covers (after b calls).now.clock (set_at (after b calls) r) ≡ true) ↔ Covers (after b calls).now.clock (set_at (after b calls) r)
covers_is b calls r = covers_iff (after b calls).now.clock (set_at (after b calls) r) (sets_are_canonical b calls r) (clock_small b calls)

-- the rules for settled true and settled false never both apply
pub never_both : (c : ℕ) (s : Runs) → Canonical s → c ≤ MAX → (row : Row Answer)
    → ¬ ((settled_true (covers c s) (gone c s) row ≡ true) × (settled_false (covers c s) (gone c s) row ≡ true))
never_both c s w small row h = tests_apart (covers c s) (gone c s) (covers_not_gone c s w small) row h.0 h.1

-- Historically is Not Once Not: its set and value
pub historically_is_not_once_not : (c : ℕ) (s : Runs) (atoms : List Bool) (here : Bool) (g : Range) (v : Bool)
    → (set_rule c s (historically g v) ≡ set_rule c s (once g (not v)))
    × (value_rule atoms here (historically g v) ≡ not (value_rule atoms here (once g (not v))))
unfolding set_rule_by value_rule
historically_is_not_once_not c s atoms here g v = (refl, refl)

-- its early answer
pub early_historically_is_not_once_not : (covers : Bool) (g : Range) (x : Answer)
    → early_rule covers (historically g x) ≡ reversed (early_rule covers (once g (reversed x)))
unfolding early_rule
early_historically_is_not_once_not covers g x = by_tests x covers (from_now g)
  where
    by_tests : (x : Answer) (covers zero : Bool)
        → cond (is_true x) True (cond (is_false x && zero) False (cond covers False Open))
        ≡ reversed (cond (is_false (reversed x)) False (cond (is_true (reversed x) && zero) True (cond covers True Open)))
    by_tests False true true = refl
    by_tests False true false = refl
    by_tests False false true = refl
    by_tests False false false = refl
    by_tests True covers zero = refl
    by_tests Open true zero = refl
    by_tests Open false zero = refl

-- its settled answer: true as the other is false, false as the other is true
pub settled_historically_is_not_once_not : (covers gone : Bool) (g : Range) (x : Answer)
    → (settled_true covers gone (historically g x) ≡ settled_false covers gone (once g (reversed x)))
    × (settled_false covers gone (historically g x) ≡ settled_true covers gone (once g (reversed x)))
unfolding settled_true settled_false
settled_historically_is_not_once_not covers gone g False = (refl, refl)
settled_historically_is_not_once_not covers gone g True = (refl, refl)
settled_historically_is_not_once_not covers gone g Open = (refl, refl)
