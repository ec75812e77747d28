-- What held after the calls of a history, and k calls ago: the words in which Once, Historically and Since are stated. A stamped call counts there
-- as its time call and its state call, so that each leaves one snapshot: with h the history of the accepted calls, drop k h is the history as it was
-- k calls ago. Definitions only.
use Rattle.std.specs.Prelude.{ℕ, ◌<◌, ◌≡◌, true, cond, List, [], ◌∷◌, ◌++◌, length, drop, eqb}
use Rattle.numbers.specs.Refusals.{ACCEPTED}
use Rattle.pmtl.specs.Book.{Range, in_range, Rows}
use Rattle.pmtl.specs.Sets.{Renew, renewed}
use Rattle.pmtl.specs.Monitor.{State, initial, step_by, value}
use Rattle.pmtl.specs.Calls.{Call, time, state, stamped, call, after, History, now_of}
use Rattle.pmtl.specs.Meaning.{Fact}

-- the state after a history
unfoldable pub run_by : Renew → Rows → History → State
run_by renew b [] = initial b
run_by renew b (s ∷ h) = step_by renew b (run_by renew b h) s

abbrev pub run : Rows → History → State
run = run_by renewed

-- a call in its parts, the newest first
abbrev pub parts : Call → List Call
parts (time t) = time t ∷ []
parts (state bytes) = state bytes ∷ []
parts (stamped t bytes) = state bytes ∷ time t ∷ []

-- the accepted calls, each in its parts, the newest first
unfoldable pub halves : Rows → List Call → List Call
halves b [] = []
halves b (k ∷ ks) = cond (eqb (call b (after b ks) k).number ACCEPTED) (parts k ++ halves b ks) (halves b ks)

-- what a row's value was after the calls of a history
abbrev pub held : Rows → ℕ → Fact
held b o h = value b (run b h) o

-- the call k calls ago is one of those so far, f held after it, and the range counted from it contains t
pub record HeldAfter (b : Rows) (g : Range) (f : Fact) (h : History) (t k : ℕ) : Type 0 where
  pub so_far : k < length h
  pub held_then : f (drop k h) ≡ true
  pub in_range_then : in_range g (now_of b (drop k h)).clock t ≡ true

-- f held after some call so far whose range, counted from that call, contains t
abbrev pub SomeCall : Rows → Range → Fact → History → ℕ → Type 0
SomeCall b g f h t = (k : ℕ) × HeldAfter b g f h t k

-- f held after every call later than the one k calls ago
abbrev pub EveryLater : Fact → History → ℕ → Type 0
EveryLater f h k = (j : ℕ) → j < k → f (drop j h) ≡ true

-- right held after some such call and left after every later one
abbrev pub SinceCall : Rows → Range → Fact → Fact → History → ℕ → Type 0
SinceCall b g left right h t = (k : ℕ) × HeldAfter b g right h t k × EveryLater left h k
