-- What is proved of the lasting way. Of a book it is asked that operands are below their owners, that no temporal row lies below another, and that no
-- lower is above its upper (`Taken`); the calls are any list, the newest first, refused ones among them; r is any number, of a row or of none.
-- Nothing is assumed.
use Prim.Native.Nat.{ℕ, zero, suc, ◌+◌, ◌-◌, ◌≤◌}
use native.Mathlib.Omega.{arith}
use mathlib.Core.Path.{◌≡◌, refl, sym, ap, ap₂, ◌∙◌}
use mathlib.Core.Logic.{inl, inr, ◌↔◌}
use mathlib.Core.Bool.{Bool, true, false, cond, not}
use mathlib.Core.List.{List, [], ◌∷◌, ◌++◌, append_assoc}
use lib.ListN.{length}
use lib.Dec.{eqb}
use borrow.Author.Tests.{ne_eqb}
use Rattle.numset.specs.Runs.{has, Canonical}
use Rattle.pmtl.specs.Answer.{known}
use Rattle.pmtl.specs.Book.{Range, map_row, Rows, row_at}
use Rattle.pmtl.specs.Book.Row.{historically, once, since}
use Rattle.pmtl.specs.Sets.{lasting}
use Rattle.pmtl.specs.Monitor.{Snap, State, set_at, fullest, value, step, step_in}
use Rattle.pmtl.specs.Early.{early}
use Rattle.pmtl.specs.Settled.{settled}
use Rattle.pmtl.specs.Calls.{Call, timed, turns, refusal, call, History, now_of}
use Rattle.pmtl.specs.Meaning.{instants, meaning}
use Rattle.pmtl.specs.Past.{run_by, run, held, SomeCall, SinceCall}
use Rattle.pmtl.specs.Kept.{NoneBefore, Full}
use Rattle.pmtl.specs.Strict.{Strict}
use Rattle.pmtl.proofs.History.{Legal, now_run}
use Rattle.pmtl.proofs.Values.{values_mean}
use Rattle.pmtl.proofs.Ago.{once_held, historically_held, since_held}
use Rattle.pmtl.proofs.Settled.{settles}
use Rattle.pmtl.proofs.Calls.{after_refused}
use Rattle.pmtl.proofs.Alike.{Alike, value_alike, early_alike, settled_alike}
use Rattle.pmtl.proofs.Eleven.{crowded_is, Told, eleven_iff}
use Rattle.pmtl.proofs.Strict.{never_full as strict-never-full}
use Rattle.lasts.specs.Flat.{Taken}
use Rattle.lasts.specs.Lasting.{ticks, filled, lasting_onto, lasting_after, lasting_history, FullLasting}
use Rattle.lasts.proofs.Stretch.{next_legal}
use Rattle.lasts.proofs.Follows.{Follows, follows_alike, follows_runs, follows_count, step_follows, Going, going_now, follows}

-- each call that is put in is a time call of the ordinary monitor, at the next instant
pub put_in_is_a_time_call : (b : Rows) (h : History) (i : ℕ)
    → let before = run b (ticks (now_of b h) i ++ h) in
    run b (ticks (now_of b h) (suc i) ++ h) ≡ step b before (timed before.now ((now_of b h).clock + suc i))
unfolding run_by ticks
put_in_is_a_time_call b h zero = ap (λ (n : Snap). step b (run b h) (timed n ((now_of b h).clock + 1))) (sym (now_run b h))
put_in_is_a_time_call b h (suc i) = let past = ticks (now_of b h) (suc i) ++ h in
    ap (λ (n : Snap). step b (run b past) (timed n ((now_of b h).clock + suc (suc i)))) (sym (now_run b past))

module _ (b : Rows) (taken : Taken b) (calls : List Call) where
  abbrev st : State
  st = lasting_after b calls

  abbrev h : History
  h = lasting_history b calls

  alike : Alike st (run b h)
  alike = follows_alike b taken st h (follows b taken calls)

  clock_is : st.now.clock ≡ (now_of b h).clock
  clock_is = ap (λ (n : Snap). n.clock) (follows b taken calls).now_is

  legal : Legal b h
  legal = (follows b taken calls).legal

  -- its answers are those of the ordinary monitor on the accepted calls with those that are put in
  pub value_is : (r : ℕ) → value b (lasting_after b calls) r ≡ value b (run b (lasting_history b calls)) r
  value_is = value_alike b st (run b h) alike taken.ordered

  pub early_is : (r : ℕ) → early b (lasting_after b calls) r ≡ early b (run b (lasting_history b calls)) r
  early_is = early_alike b st (run b h) alike

  pub settled_is : (r : ℕ) → settled b (lasting_after b calls) r ≡ settled b (run b (lasting_history b calls)) r
  settled_is = settled_alike b st (run b h) alike

  -- its sets have as many runs, row by row, and so is the count
  pub runs_are : (r : ℕ) → length (set_at (lasting_after b calls) r) ≡ length (set_at (run b (lasting_history b calls)) r)
  runs_are = follows_runs b taken st h (follows b taken calls)

  pub count_is : fullest (lasting_after b calls) ≡ fullest (run b (lasting_history b calls))
  count_is = follows_count b taken st h (follows b taken calls)

  -- each set has, from the clock on, the instants that REFERENCE 3.5 defines from that history, and no run that ends before the clock
  pub sets_are_instants : (r t : ℕ) → (lasting_after b calls).now.clock ≤ t
      → has (set_at (lasting_after b calls) r) t ≡ instants (map_row (meaning b) (row_at b r)) (lasting_history b calls) t
  sets_are_instants r t l = (follows b taken calls).members r t (omega (arith, clock_is))

  pub no_older_run : (r : ℕ) → NoneBefore (lasting_after b calls).now.clock (set_at (lasting_after b calls) r)
  no_older_run r = rw clock_is ((follows b taken calls).none_before r)

  pub sets_are_canonical : (r : ℕ) → Canonical (set_at (lasting_after b calls) r)
  sets_are_canonical = (follows b taken calls).canonical

  -- DEMAND 2: a row's value is what the row means on that history
  pub demand_2 : (r : ℕ) → value b (lasting_after b calls) r ≡ meaning b r (lasting_history b calls)
  demand_2 r = value_is r ∙ values_mean b taken.ordered r h legal

  -- in words, as in the ordinary way: calls that are put in count as any
  pub once_holds : (r : ℕ) (g : Range) (o : ℕ) → row_at b r ≡ once g o
      → (value b (lasting_after b calls) r ≡ true) ↔ SomeCall b g (held b o) (lasting_history b calls) (lasting_after b calls).now.clock
  once_holds r g o e = rw (value_is r) (once_held b taken.ordered r h legal st.now.clock clock_is g o e)

  pub historically_holds : (r : ℕ) (g : Range) (o : ℕ) → row_at b r ≡ historically g o
      → (value b (lasting_after b calls) r ≡ true)
      ↔ ¬ (SomeCall b g (λ past. not (held b o past)) (lasting_history b calls) (lasting_after b calls).now.clock)
  historically_holds r g o e = rw (value_is r) (historically_held b taken.ordered r h legal st.now.clock clock_is g o e)

  pub since_holds : (r : ℕ) (g : Range) (left right : ℕ) → row_at b r ≡ since g left right
      → (value b (lasting_after b calls) r ≡ true)
      ↔ SinceCall b g (held b left) (held b right) (lasting_history b calls) (lasting_after b calls).now.clock
  since_holds r g x y e = rw (value_is r) (since_held b taken.ordered r h legal st.now.clock clock_is g x y e)

-- ---- further calls only add to the history
onto_adds : (b : Rows) (ns h : History) → (m : History) × (lasting_onto b ns h ≡ m ++ h)
unfolding lasting_onto
onto_adds b [] h = ([], refl)
onto_adds b (n ∷ ns) h =
    let q = onto_adds b ns (n ∷ filled b h n) in
    let put = n ∷ ticks (now_of b h) (n.clock - (now_of b h).clock - 1) in
    (q.0 ++ put, q.1 ∙ sym (append_assoc q.0 put h))

further : (b : Rows) (more ks : List Call) → (h : History) × (lasting_history b (more ++ ks) ≡ h ++ lasting_history b ks)
unfolding lasting_history
further b [] ks = ([], refl)
further b (k ∷ more) ks = go (eqb (call b (lasting_after b (more ++ ks)) k).number 0) (further b more ks)
  where
    ns : List Snap
    ns = turns (lasting_after b (more ++ ks)).now k

    go : (z : Bool) → (h : History) × (lasting_history b (more ++ ks) ≡ h ++ lasting_history b ks)
        → (h : History) × (cond z (lasting_onto b ns (lasting_history b (more ++ ks))) (lasting_history b (more ++ ks)) ≡ h ++ lasting_history b ks)
    go true ih = let q = onto_adds b ns (lasting_history b (more ++ ks)) in
        (q.0 ++ ih.0, q.1 ∙ ap (λ x. q.0 ++ x) ih.1 ∙ sym (append_assoc q.0 ih.0 (lasting_history b ks)))
    go false ih = ih

-- DEMAND 3: if settled is true or false, then now and after every further list of calls the value is that and settled is that
pub demand_3 : (b : Rows) → Taken b → (calls : List Call) (r : ℕ) (more : List Call) (x : Bool) → settled b (lasting_after b calls) r ≡ known x
    → (value b (lasting_after b (more ++ calls)) r ≡ x) × (settled b (lasting_after b (more ++ calls)) r ≡ known x)
demand_3 b taken calls r more x e =
    let f = further b more calls in
    let s = settles b taken.ordered r x f.0 (lasting_history b calls) (rw f.1 at (legal b taken (more ++ calls))) (sym (settled_is b taken calls r) ∙ e) in (
      value_is b taken (more ++ calls) r ∙ ap (λ h. value b (run b h) r) f.1 ∙ s.0,
      settled_is b taken (more ++ calls) r ∙ ap (λ h. settled b (run b h) r) f.1 ∙ s.1,
    )

-- ---- a refused call leaves no trace: further calls leave the state, and the history, that they leave without it
module _ (b : Rows) (k : Call) (calls : List Call) (n : ¬ ((call b (lasting_after b calls) k).number ≡ 0)) where
  history_refused : (more : List Call) → lasting_history b (more ++ k ∷ calls) ≡ lasting_history b (more ++ calls)
  unfolding lasting_history
  history_refused [] = rw (ne_eqb (call b (lasting_after b calls) k).number 0 n)
  history_refused (m ∷ more) =
      ap₂ (λ st h. cond (eqb (call b st m).number 0) (lasting_onto b (turns st.now m) h) h) (after_refused lasting b k calls n more) (history_refused more)

  pub refused_leaves_no_trace : (more : List Call)
      → (lasting_after b (more ++ k ∷ calls) ≡ lasting_after b (more ++ calls)) × (lasting_history b (more ++ k ∷ calls) ≡ lasting_history b (more ++ calls))
  refused_leaves_no_trace more = (after_refused lasting b k calls n more, history_refused more)

-- ---- room
module _ (b : Rows) (taken : Taken b) where
  told : (st : State) (h : History) → Follows b st h → (ns : List Snap) → Going b h ns → Told (filled b) b st h ns
  told st h f [] g = tt
  told st h f (n ∷ ns) g =
      let q = step_follows b taken st h f n g.0 in
      (crowded_is b (step_in b st n) (n ∷ filled b h n) q.canonical q.none_before q.members, told (step_in b st n) (n ∷ filled b h n) q ns g.1)

  -- 11 exactly when the call is not refused for what it is, and the instants of some row at or after the new clock, by the history with the calls that
  -- are put in, form more than 64 runs
  pub eleven_is : (calls : List Call) (k : Call) → ((call b (lasting_after b calls) k).number ≡ 11)
      ↔ ((refusal b (lasting_after b calls).now k ≡ 0) × FullLasting b (lasting_history b calls) (turns (lasting_after b calls).now k))
  eleven_is calls k = let f = follows b taken calls in
      eleven_iff (filled b) b (lasting_after b calls) (lasting_history b calls) k
      (λ e. told (lasting_after b calls) (lasting_history b calls) f (turns (lasting_after b calls).now k)
      (going_now b (lasting_after b calls) (lasting_history b calls) f k e))

  -- a book that no calls can fill is never refused a call with 11
  module _ (never_full : (h : History) → Legal b h → Full b h → ⊥) where
    never_in : (h : History) → Legal b h → (ns : List Snap) → Going b h ns → FullLasting b h ns → ⊥
    never_in h l [] g f = f
    never_in h l (n ∷ ns) g (inl f) = never_full (n ∷ filled b h n) (next_legal b h l n g.0) f
    never_in h l (n ∷ ns) g (inr f) = never_in (n ∷ filled b h n) (next_legal b h l n g.0) ns g.1 f

    never_eleven : (calls : List Call) (k : Call) → ¬ ((call b (lasting_after b calls) k).number ≡ 11)
    never_eleven calls k e =
        let f = follows b taken calls in
        let q = (eleven_is calls k).0 e in
        never_in (lasting_history b calls) f.legal (turns (lasting_after b calls).now k)
        (going_now b (lasting_after b calls) (lasting_history b calls) f k q.0) q.1

-- so no call of a strict book is
pub strict_never_eleven : (b : Rows) → Taken b → Strict b → (calls : List Call) (k : Call) → ¬ ((call b (lasting_after b calls) k).number ≡ 11)
strict_never_eleven b taken strict = never_eleven b taken (strict-never-full b taken.ordered strict)
