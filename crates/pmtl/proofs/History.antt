-- The state that the accepted calls leave, one snapshot after the other, and its sets. Assumes nothing.
use Prim.Native.Nat.{ℕ, zero, suc, ◌≤◌}
use mathlib.Core.Path.{◌≡◌, refl}
use mathlib.Core.List.{[], ◌∷◌}
use lib.ListN.{length, get_or, replicate}
use lib.Dec.{lit≤}
use Rattle.numbers.specs.Limits.{MAX}
use Rattle.numset.specs.Runs.{Canonical}
use Rattle.pmtl.specs.Book.{Rows}
use Rattle.pmtl.specs.Sets.{Renew, renewed, Way, ordinary}
use Rattle.pmtl.specs.Monitor.{set_at, initial_in, step_by}
use Rattle.pmtl.specs.Calls.{History, now_of}
use Rattle.pmtl.specs.Past.{run_by, run}
use Rattle.pmtl.proofs.Answers.{set_made_by}
use Rattle.pmtl.proofs.Renewed.{Lawful, renewed_lawful, rule_canonical}

-- clocks never fall, and none is above MAX
abbrev pub Legal : Rows → History → Type 0
Legal b [] = Unit {0}
Legal b (s ∷ h) = ((now_of b h).clock ≤ s.clock) × (s.clock ≤ MAX) × Legal b h

pub now_run_by : (renew : Renew) (b : Rows) (h : History) → (run_by renew b h).now ≡ now_of b h
unfolding run_by step_by initial_in
now_run_by renew b [] = refl
now_run_by renew b (s ∷ h) = refl

pub now_run : (b : Rows) (h : History) → (run b h).now ≡ now_of b h
now_run = now_run_by renewed

pub way_run_by : (renew : Renew) (b : Rows) (h : History) → (run_by renew b h).way ≡ ordinary
unfolding run_by step_by initial_in
way_run_by renew b [] = refl
way_run_by renew b (s ∷ h) = way_run_by renew b h

pub way_run : (b : Rows) (h : History) → (run b h).way ≡ ordinary
way_run = way_run_by renewed

pub small_clock : (b : Rows) (h : History) → Legal b h → (now_of b h).clock ≤ MAX
small_clock b [] l = lit≤ tt
small_clock b (s ∷ h) l = l.1

get_or_same : {A : Type 0} (n i : ℕ) (a : A) → get_or (replicate n a) i a ≡ a
get_or_same zero i a = refl
get_or_same (suc n) zero a = refl
get_or_same (suc n) (suc i) a = get_or_same n i a

-- with no call yet the sets are empty
pub initial_set : (way : Way) (b : Rows) (r : ℕ) → set_at (initial_in way b) r ≡ []
unfolding initial_in
initial_set way b r = get_or_same (length b) r []

pub run_canonical_by : (renew : Renew) {horizon : ℕ → ℕ} → Lawful renew horizon → (b : Rows) (h : History) (r : ℕ) → Canonical (set_at (run_by renew b h) r)
unfolding run_by Canonical
run_canonical_by renew lw b [] r = rw (initial_set ordinary b r) tt
run_canonical_by renew lw b (s ∷ h) r = let m = set_made_by renew b (run_by renew b h) s r in
    rw m.1 (rule_canonical renew lw s.clock (set_at (run_by renew b h) r) (run_canonical_by renew lw b h r) m.0)

pub run_canonical : (b : Rows) (h : History) (r : ℕ) → Canonical (set_at (run b h) r)
run_canonical = run_canonical_by renewed renewed_lawful
