-- What a monitor keeps of its sets, and when there is no room: the words in which that is stated, apart from how the monitor does it.
-- Definitions only.
use Rattle.std.specs.Prelude.{ℕ, ◌≤◌, ◌<◌, ◌≡◌, ◌⊎◌, Bool, ◌&&◌, List, [], ◌∷◌, length, leb}
use Rattle.numbers.specs.Limits.{MOST_RUNS}
use Rattle.numset.specs.Runs.{run, Runs, has, Canonical}
use Rattle.pmtl.specs.Book.{map_row, Rows, row_at}
use Rattle.pmtl.specs.Sets.{renewed_all}
use Rattle.pmtl.specs.Monitor.{Snap, State}
use Rattle.pmtl.specs.Calls.{Call, History, now_of, accepted}
use Rattle.pmtl.specs.Meaning.{instants, meaning}
use Rattle.pmtl.specs.Past.{run_by}

-- what is so of the lower and the upper end of every run
unfoldable pub AllRuns : (ℕ → ℕ → Type 0) → Runs → Type 0
AllRuns P [] = Unit {0}
AllRuns P (run l u ∷ rs) = P l u × AllRuns P rs

-- no run ends before c
abbrev pub NoneBefore : ℕ → Runs → Type 0
NoneBefore c = AllRuns (λ l u. c ≤ u)

-- a monitor that keeps everything and has no limit, after the accepted ones of the calls
abbrev pub keeps_all : Rows → List Call → State
keeps_all b calls = run_by renewed_all b (accepted b calls)

-- the instants at or after c for which f holds form more than n runs
pub record MoreRuns (n c : ℕ) (f : ℕ → Bool) : Type 0 where
  pub runs : Runs
  pub longest : Canonical runs
  pub members : (t : ℕ) → has runs t ≡ (leb c t && f t)
  pub more : n < length runs

-- after the calls of h the instants of some row, as REFERENCE 3.5 defines them, form at or after the clock more runs than a set may have
abbrev pub Full : Rows → History → Type 0
Full b h = (r : ℕ) × MoreRuns MOST_RUNS (now_of b h).clock (instants (map_row (meaning b) (row_at b r)) h)

-- so it is after one of the snapshots ns, made in turn after the calls of h; before each of them the history may have got calls that were put in
abbrev pub FullBy : (History → Snap → History) → Rows → History → List Snap → Type 0
FullBy put b h [] = ⊥
FullBy put b h (n ∷ ns) = Full b (n ∷ put h n) ⊎ FullBy put b (n ∷ put h n) ns

-- in the ordinary way nothing is put in
abbrev pub FullIn : Rows → History → List Snap → Type 0
FullIn = FullBy (λ h n. h)
