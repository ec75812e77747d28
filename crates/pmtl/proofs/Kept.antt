-- A monitor keeps only runs that end at or after the clock, answers as one that keeps everything and has no limit, and refuses with 11 exactly
-- where the instants at or after the new clock form too many runs. Assumes nothing.
use Prim.Native.Nat.{ℕ}
use native.Mathlib.Omega.{arith}
use mathlib.Core.Path.{◌≡◌, ap, ◌∙◌}
use mathlib.Core.Logic.{◌↔◌}
use mathlib.Core.Bool.{true}
use mathlib.Core.List.{List, [], ◌∷◌}
use Rattle.numset.specs.Runs.{has}
use Rattle.pmtl.specs.Book.{map_row, Rows, row_at, Ordered}
use Rattle.pmtl.specs.Sets.{renewed, renewed_all, ordinary}
use Rattle.pmtl.specs.Monitor.{Snap, State, set_at, value}
use Rattle.pmtl.specs.Early.{early}
use Rattle.pmtl.specs.Settled.{settled}
use Rattle.pmtl.specs.Calls.{Call, turns, refusal, crowds, call, after, History, now_of, onto, accepted}
use Rattle.pmtl.specs.Meaning.{instants, meaning}
use Rattle.pmtl.specs.Past.{run_by, run}
use Rattle.pmtl.specs.Kept.{AllRuns, NoneBefore, keeps_all, Full, FullIn}
use Rattle.pmtl.proofs.Answers.{set_made_by, step_ordinary}
use Rattle.pmtl.proofs.Renewed.{rule_any, renewed_lawful, all_lawful}
use Rattle.pmtl.proofs.History.{Legal, now_run, way_run, initial_set, run_canonical}
use Rattle.pmtl.proofs.Values.{sets_mean, sets_mean_by}
use Rattle.pmtl.proofs.Calls.{trail, legal_call}
use Rattle.pmtl.proofs.EachRun.{renewed_none_before}
use Rattle.pmtl.proofs.Alike.{Alike, value_alike, early_alike, settled_alike, runs_alike}
use Rattle.pmtl.proofs.Eleven.{crowded_is, Told, eleven_iff}

-- ---- along a history
-- in the ordinary way nothing is put in
abbrev none_put : History → Snap → History
none_put h n = h

pub run_none_before : (b : Rows) (h : History) → Legal b h → (r : ℕ) → NoneBefore (now_of b h).clock (set_at (run b h) r)
unfolding run_by AllRuns
run_none_before b [] l r = rw (initial_set ordinary b r) tt
run_none_before b (s ∷ h) l r =
    let m = set_made_by renewed b (run b h) s r in
    let old = set_at (run b h) r in
    rw m.1 (rule_any (NoneBefore s.clock) tt renewed s.clock old (λ k x g. renewed_none_before k x g s.clock old l.1) m.0)

pub legal_first : (b : Rows) (ns : List Snap) (h : History) → Legal b (onto ns h) → Legal b h
unfolding onto
legal_first b [] h l = l
legal_first b (n ∷ ns) h l = (legal_first b ns (n ∷ h) l).2

module _ (b : Rows) (w : Ordered b) where
  run_crowds : (n : Snap) (h : History) → Legal b (n ∷ h) → (crowds b (run b h) n ≡ true) ↔ Full b (n ∷ h)
  unfolding run_by
  run_crowds n h l = rw (step_ordinary b (run b h) n (way_run b h)) (crowded_is b (run b (n ∷ h)) (n ∷ h) (run_canonical b (n ∷ h)) (run_none_before b (n ∷ h) l) (λ r. sets_mean b w r (n ∷ h) l))

  told_run : (ns : List Snap) (h : History) → Legal b (onto ns h) → Told none_put b (run b h) h ns
  unfolding onto run_by
  told_run [] h l = tt
  told_run (n ∷ ns) h l = (
    run_crowds n h (legal_first b ns (n ∷ h) l),
    rw (step_ordinary b (run b h) n (way_run b h)) (told_run ns (n ∷ h) l),
  )

  pub legal_now : (h : History) → Legal b h → (k : Call) → refusal b (run b h).now k ≡ 0 → Legal b (onto (turns (run b h).now k) h)
  legal_now h l k = rw (now_run b h) (legal_call b h l k)

-- ---- after any calls, refused ones among them
module _ (b : Rows) (calls : List Call) where
  now_is : (after b calls).now ≡ now_of b (accepted b calls)
  now_is = ap (λ (st : State). st.now) (trail b calls).is ∙ now_run b (accepted b calls)

  -- no run of any set ends before the clock
  pub no_older_run : (r : ℕ) → NoneBefore (after b calls).now.clock (set_at (after b calls) r)
  no_older_run r = rw (now_is, (trail b calls).is) (run_none_before b (accepted b calls) (trail b calls).legal r)

  module _ (w : Ordered b) where
    -- the sets of the monitor that keeps everything are, at every instant, those that REFERENCE 3.5 defines from the accepted calls
    pub all_are_instants : (r t : ℕ) → has (set_at (keeps_all b calls) r) t ≡ instants (map_row (meaning b) (row_at b r)) (accepted b calls) t
    all_are_instants r t = sets_mean_by renewed_all (λ c. 0) all_lawful b w r (accepted b calls) (trail b calls).legal t (omega arith)

    alike : Alike (after b calls) (keeps_all b calls)
    alike = rw (trail b calls).is (runs_alike renewed renewed_all (λ c. c) (λ c. 0) renewed_lawful all_lawful b w (accepted b calls) (trail b calls).legal)

    -- its answers are ours
    pub value_stays : (r : ℕ) → value b (after b calls) r ≡ value b (keeps_all b calls) r
    value_stays = value_alike b (after b calls) (keeps_all b calls) alike w

    pub early_stays : (r : ℕ) → early b (after b calls) r ≡ early b (keeps_all b calls) r
    early_stays = early_alike b (after b calls) (keeps_all b calls) alike

    pub settled_stays : (r : ℕ) → settled b (after b calls) r ≡ settled b (keeps_all b calls) r
    settled_stays = settled_alike b (after b calls) (keeps_all b calls) alike

    -- 11 exactly when the call is not refused for what it is, and the instants of some row at or after the new clock form more than 64 runs
    pub eleven_is : (k : Call) → ((call b (after b calls) k).number ≡ 11)
        ↔ ((refusal b (after b calls).now k ≡ 0) × FullIn b (accepted b calls) (turns (after b calls).now k))
    eleven_is k = rw (trail b calls).is (eleven_iff none_put b (run b (accepted b calls)) (accepted b calls) k
        (λ e. told_run b w (turns (run b (accepted b calls)).now k) (accepted b calls) (legal_now b w (accepted b calls) (trail b calls).legal k e)))
