-- REFERENCE 3.5 and 3.9: how a call changes the set of a temporal row. Definitions only.
use Rattle.std.specs.Prelude.{ℕ, ◌+◌, ◌≤◌, min, ◌≡◌, Bool, true, false, cond, not, [], ◌∷◌, ltb}
use Rattle.numset.specs.Runs.{run, Runs, has, kept, union}
use Rattle.pmtl.specs.Book.{Range, start, stop, Row}
use Rattle.pmtl.specs.Book.Row.{never, always, atom, conj, disj, neg, implies, historically, once, since}

-- the set is gone: it has no instant at or after c
abbrev pub Gone : ℕ → Runs → Type 0
Gone c s = (t : ℕ) → c ≤ t → has s t ≡ false

-- the same as a test: the newest run ends before c, or there is none
unfoldable pub gone : ℕ → Runs → Bool
gone c [] = true
gone c (run l u ∷ rs) = ltb u c

-- the set stays, or is dropped
unfoldable pub stays_if : Bool → Runs → Runs
stays_if true s = s
stays_if false s = []

-- the ranges counted from every instant from one to another are added, as one interval, or are not
unfoldable pub added_if : Bool → Range → ℕ → ℕ → Runs → Runs
added_if true g from to s = union (start g from) (stop g to) s
added_if false g from to s = s

-- how a call changes a set, from whether it stays, whether the range is added, the range, the clock and the set before
abbrev pub Renew : Type 0
Renew = Bool → Bool → Range → ℕ → Runs → Runs

-- first the runs that end before the clock are dropped, then the set stays or is dropped whole, then the range is added or not
unfoldable pub renewed : Renew
renewed stays adds g c s = added_if adds g c c (stays_if stays (kept c s))

-- the same where everything is kept
unfoldable pub renewed_all : Renew
renewed_all stays adds g c s = added_if adds g c c (stays_if stays s)

-- ---- where a state lasts until the next call
-- the first instant from which a call at clock c counts: the one after the clock before it; where the set is dropped, or no time passes, c alone
abbrev pub firstly : ℕ → Bool → ℕ → ℕ
firstly before stays c = cond stays (min (before + 1) c) c

-- as `renewed`, but that the range is counted from every instant of that stretch
unfoldable pub lasted : ℕ → Renew
lasted before stays adds g c s = added_if adds g (firstly before stays c) c (stays_if stays (kept c s))

-- the ways of monitoring: in the ordinary way only calls count, in the lasting way a state lasts until the next call
pub data Way : Type 0 where
  ordinary lasting : Way

-- how a call changes a set, from the way and the clock before
abbrev pub renewed_in : Way → ℕ → Renew
renewed_in ordinary before = renewed
renewed_in lasting before = lasted before

-- ---- rows
-- a row's set after a call at clock c, from the set before it and the operands' values after it
unfoldable pub set_rule_by : Renew → ℕ → Runs → Row Bool → Runs
set_rule_by renew c s never = []
set_rule_by renew c s always = []
set_rule_by renew c s (atom a) = []
set_rule_by renew c s (conj vs) = []
set_rule_by renew c s (disj vs) = []
set_rule_by renew c s (neg v) = []
set_rule_by renew c s (implies l r) = []
set_rule_by renew c s (historically g v) = renew true (not v) g c s
set_rule_by renew c s (once g v) = renew true v g c s
set_rule_by renew c s (since g l r) = renew l r g c s

abbrev pub set_rule : ℕ → Runs → Row Bool → Runs
set_rule = set_rule_by renewed
