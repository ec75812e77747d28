-- The lasting way follows the history in which a time call stands at every instant between. Assumes nothing.
use Prim.Native.Nat.{ℕ, ◌≤◌, ◌<◌}
use native.Mathlib.Omega.{arith}
use mathlib.Core.Path.{◌≡◌, refl, sym, ap, ◌∙◌}
use mathlib.Core.Bool.{Bool, true, false, cond}
use mathlib.Core.List.{List, [], ◌∷◌}
use lib.ListN.{length}
use lib.Dec.{eqb}
use borrow.Author.Tests.{eqb-true, eqb-false}
use Rattle.numbers.specs.Limits.{MAX}
use Rattle.numset.specs.Runs.{Runs, has, Canonical}
use Rattle.pmtl.specs.Book.{Range, map_row, Rows, row_at}
use Rattle.pmtl.specs.Sets.{Way, lasting, lasted, renewed_in, set_rule_by}
use Rattle.pmtl.specs.Monitor.{Snap, State, set_at, fullest, value, initial_in, step_by, step_in}
use Rattle.pmtl.specs.Calls.{Call, time, state, stamped, timed, stated, turns, time_refusal, state_refusal, refusal, Outcome, call, after_in, History, now_of}
use Rattle.pmtl.specs.Meaning.{instants, meaning}
use Rattle.pmtl.specs.Past.{run_by, run}
use Rattle.pmtl.specs.Kept.{AllRuns, NoneBefore}
use Rattle.pmtl.proofs.Table.{by_rows}
use Rattle.pmtl.proofs.Answers.{value_fix, set_fix_by, set_made_by}
use Rattle.pmtl.proofs.Renewed.{lasted_canonical, rule_any}
use Rattle.pmtl.proofs.EachRun.{lasted_none_before}
use Rattle.pmtl.proofs.History.{Legal, now_run, small_clock, initial_set, run_canonical}
use Rattle.pmtl.proofs.Values.{meaning_fix, row_value, instants_none, sets_mean}
use Rattle.pmtl.proofs.Cut.{same_count}
use Rattle.pmtl.proofs.Fullest.{most_at, most_least}
use Rattle.pmtl.proofs.Kept.{run_none_before}
use Rattle.pmtl.proofs.Alike.{Alike}
use Rattle.pmtl.proofs.Flat.{row_flat}
use Rattle.pmtl.proofs.Calls.{firsts_zero, timely, refused_stays, steps, call_accepts, accepts_call}
use Rattle.lasts.specs.Flat.{Taken}
use Rattle.lasts.specs.Lasting.{filled, lasting_onto, lasting_after, lasting_history}
use Rattle.lasts.proofs.Stretch.{Next, next_legal, row_put}

-- a monitor follows a history: its way is the lasting one, and from the clock on its sets have the instants that REFERENCE 3.5 defines from the history
pub record Follows (b : Rows) (st : State) (h : History) : Type 0 where
  pub way_is : st.way ≡ lasting
  pub now_is : st.now ≡ now_of b h
  pub begun_is : st.begun ≡ (run b h).begun
  pub legal : Legal b h
  pub canonical : (r : ℕ) → Canonical (set_at st r)
  pub none_before : (r : ℕ) → NoneBefore (now_of b h).clock (set_at st r)
  pub members : (r t : ℕ) → (now_of b h).clock ≤ t → has (set_at st r) t ≡ instants (map_row (meaning b) (row_at b r)) h t

-- then it answers as the ordinary monitor does on that history
pub follows_alike : (b : Rows) → Taken b → (st : State) (h : History) → Follows b st h → Alike st (run b h)
follows_alike b taken st h f = record {
  now_same = f.now_is ∙ sym (now_run b h);
  begun_same = f.begun_is;
  small = rw f.now_is (small_clock b h f.legal);
  first_ok = f.canonical;
  second_ok = run_canonical b h;
  members = λ r t l. let l' : (now_of b h).clock ≤ t = rw f.now_is at l in
      f.members r t l' ∙ sym (sets_mean b taken.ordered r h f.legal t l');
}

-- its sets have as many runs, row by row, and so has the fullest
module _ (b : Rows) (taken : Taken b) (st : State) (h : History) (f : Follows b st h) where
  pub follows_runs : (r : ℕ) → length (set_at st r) ≡ length (set_at (run b h) r)
  follows_runs r =
      same_count (now_of b h).clock (set_at st r) (set_at (run b h) r) (f.canonical r) (run_canonical b h r) (f.none_before r) (run_none_before b h f.legal r)
      (λ t l. f.members r t l ∙ sym (sets_mean b taken.ordered r h f.legal t l))

  pub follows_count : fullest st ≡ fullest (run b h)
  follows_count =
      let p = most_least st.sets (fullest (run b h)) (λ r l. omega (arith, follows_runs r, most_at (run b h).sets r)) in
      let q = most_least (run b h).sets (fullest st) (λ r l. omega (arith, follows_runs r, most_at st.sets r)) in
      omega arith

-- a fresh one follows the empty history
follows_none : (b : Rows) → Follows b (initial_in lasting b) []
unfolding initial_in run_by AllRuns Canonical has
follows_none b = record {
  way_is = refl;
  now_is = refl;
  begun_is = refl;
  legal = tt;
  canonical = λ r. rw (initial_set lasting b r) tt;
  none_before = λ r. rw (initial_set lasting b r) tt;
  members = λ r t l. ap (λ (s : Runs). has s t) (initial_set lasting b r) ∙ sym (instants_none (map_row (meaning b) (row_at b r)) t);
}

-- ---- one step
module _ (b : Rows) (taken : Taken b) (st : State) (h : History) (f : Follows b st h) (n : Snap) (nx : Next b h n) where
  abbrev before : ℕ
  before = st.now.clock

  abbrev st' : State
  st' = step_by (lasted before) b st n

  abbrev h' : History
  h' = n ∷ filled b h n

  set_follows : (r : ℕ) → ((o : ℕ) → o < r → value b st' o ≡ meaning b o h') → (t : ℕ) → n.clock ≤ t
      → has (set_at st' r) t ≡ instants (map_row (meaning b) (row_at b r)) h' t
  set_follows r below t l = ap (λ (s : Runs). has s t) (set_fix_by b taken.ordered (lasted before) st n r)
      ∙ ap (λ (q : Snap). has (set_rule_by (lasted q.clock) n.clock (set_at st r) (map_row (value b st') (row_at b r))) t) f.now_is
      ∙ row_put b h f.legal n nx taken.ordered r (value b st') below (set_at st r) (f.canonical r) t l (row_at b r)
      (taken.ordered r) (row_flat b taken.flat_rows r) (taken.ranges r) (f.members r t (omega (arith, nx.up)))

  value_follows : (r : ℕ) → value b st' r ≡ meaning b r h'
  unfolding step_by
  value_follows = by_rows (λ r. value b st' r ≡ meaning b r h') λ r below.
      value_fix b taken.ordered st' r
      ∙ row_value r (value b st') (meaning b) h' below b (row_at b r) (taken.ordered r) (has (set_at st' r) n.clock) (set_follows r below n.clock (omega arith))
      ∙ sym (ap (λ (k : History → Bool). k h') (meaning_fix b taken.ordered r))

  -- what is so of no runs and of every set that was changed is so of each set
  each_set : (P : Runs → Type 0) → P [] → (r : ℕ) → ((k x : Bool) (g : Range) → P (lasted before k x g n.clock (set_at st r))) → P (set_at st' r)
  each_set P e r q = let m = set_made_by (lasted before) b st n r in
      rw m.1 (rule_any P e (lasted before) n.clock (set_at st r) q m.0)

  lasted_follows : Follows b st' h'
  unfolding step_by run_by AllRuns Canonical
  lasted_follows = record {
    way_is = f.way_is;
    now_is = refl;
    begun_is = refl;
    legal = next_legal b h f.legal n nx;
    canonical = λ r. each_set Canonical tt r (λ k x g. lasted_canonical before k x g n.clock (set_at st r) (f.canonical r));
    none_before = λ r. each_set (NoneBefore n.clock) tt r (λ k x g. lasted_none_before before k x g n.clock (set_at st r) nx.small);
    members = λ r t l. set_follows r (λ o k. value_follows o) t l;
  }

  pub step_follows : Follows b (step_in b st n) h'
  step_follows = rw (ap (λ (w : Way). step_by (renewed_in w before) b st n) f.way_is) lasted_follows

-- ---- snapshots in turn
abbrev pub Going : Rows → History → List Snap → Type 0
Going b h [] = Unit {0}
Going b h (n ∷ ns) = Next b h n × Going b (n ∷ filled b h n) ns

steps_follow : (b : Rows) → Taken b → (st : State) (h : History) → Follows b st h → (ns : List Snap) → Going b h ns
    → Follows b (steps b st ns) (lasting_onto b ns h)
unfolding steps lasting_onto
steps_follow b taken st h f [] g = f
steps_follow b taken st h f (n ∷ ns) g =
    steps_follow b taken (step_in b st n) (n ∷ filled b h n) (step_follows b taken st h f n g.0) ns g.1

-- those of a call that is not refused for what it is
time_next : (b : Rows) (h : History) (t : ℕ) → time_refusal (now_of b h) t ≡ 0 → Next b h (timed (now_of b h) t)
time_next b h t e = let p = timely (now_of b h) t e in record { up = p.0; small = omega (arith, p.1); lasts = λ l. refl }

state_next : (b : Rows) (h : History) (bytes : List ℕ) → (now_of b h).clock ≤ MAX → Next b h (stated (now_of b h) bytes)
state_next b h bytes m = record { up = omega arith; small = m; lasts = λ l. absurd (omega arith) }

call_goes : (b : Rows) (h : History) → (now_of b h).clock ≤ MAX → (k : Call) → refusal b (now_of b h) k ≡ 0 → Going b h (turns (now_of b h) k)
unfolding refusal
call_goes b h m (time t) e = (time_next b h t e, tt)
call_goes b h m (state bytes) e = (state_next b h bytes m, tt)
call_goes b h m (stamped t bytes) e =
    let n = time_next b h t (firsts_zero (time_refusal (now_of b h) t) (state_refusal b bytes) e).0 in
    (n, (state_next b (timed (now_of b h) t ∷ filled b h (timed (now_of b h) t)) bytes n.small, tt))

pub going_now : (b : Rows) (st : State) (h : History) → Follows b st h → (k : Call) → refusal b st.now k ≡ 0 → Going b h (turns st.now k)
going_now b st h f k = rw f.now_is (call_goes b h (small_clock b h f.legal) k)

-- ---- calls, refused ones among them
pub follows : (b : Rows) → Taken b → (ks : List Call) → Follows b (lasting_after b ks) (lasting_history b ks)
unfolding after_in lasting_history
follows b taken [] = follows_none b
follows b taken (k ∷ ks) = go (eqb (call b (lasting_after b ks) k).number 0) refl (follows b taken ks)
  where
    go : (z : Bool) → eqb (call b (lasting_after b ks) k).number 0 ≡ z → Follows b (lasting_after b ks) (lasting_history b ks)
        → Follows b (call b (lasting_after b ks) k).state (cond z (lasting_onto b (turns (lasting_after b ks).now k) (lasting_history b ks)) (lasting_history b ks))
    go true z f =
        let a = call_accepts b (lasting_after b ks) k (eqb-true (call b (lasting_after b ks) k).number 0 z) in
        rw (ap (λ (o : Outcome). o.state) (accepts_call b (lasting_after b ks) k a))
        (steps_follow b taken (lasting_after b ks) (lasting_history b ks) f (turns (lasting_after b ks).now k)
        (going_now b (lasting_after b ks) (lasting_history b ks) f k a.fine))
    go false z f = rw (refused_stays b (lasting_after b ks) k (eqb-false (call b (lasting_after b ks) k).number 0 z)) f
