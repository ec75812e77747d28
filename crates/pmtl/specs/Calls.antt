-- REFERENCE 3 and 5.3: calls, refused or accepted. Definitions only.
use Rattle.std.specs.Prelude.{ℕ, Bool, true, false, cond, List, [], ◌∷◌, map, length, ltb, eqb}
use Rattle.numset.specs.Runs.{Runs}
use Rattle.numbers.specs.Limits.{LAST_TIME, MOST_ATOMS, MOST_RUNS}
use Rattle.numbers.specs.Refusals.{ACCEPTED, PAST_LIMIT, TOO_EARLY, TOO_LATE, TOO_NARROW, NOT_A_BIT, NO_ROOM, TOO_WIDE}
use Rattle.pmtl.specs.Book.{Rows, width_of, some}
use Rattle.pmtl.specs.Sets.{Way, ordinary}
use Rattle.pmtl.specs.Monitor.{Snap, State, fresh, initial_in, step_in}

-- a time call, a state call, and a stamped call: a time and a state together
pub data Call : Type 0 where
  time : ℕ → Call
  state : List ℕ → Call
  stamped : ℕ → List ℕ → Call

-- a time sets the clock
abbrev pub timed : Snap → ℕ → Snap
timed now t = record { clock = t; atoms = now.atoms }

-- a state sets atom n from byte n
abbrev pub stated : Snap → List ℕ → Snap
stated now bytes = record { clock = now.clock; atoms = map (λ x. eqb x 1) bytes }

-- what a call leaves if it is accepted, one snapshot after the other: a stamped call does the time call and then the state call
abbrev pub turns : Snap → Call → List Snap
turns now (time t) = timed now t ∷ []
turns now (state bytes) = stated now bytes ∷ []
turns now (stamped t bytes) = timed now t ∷ stated (timed now t) bytes ∷ []

-- the number of what is wrong with a time: below the clock, above the last
abbrev pub time_refusal : Snap → ℕ → ℕ
time_refusal now t = cond (ltb t now.clock) TOO_EARLY (cond (ltb LAST_TIME t) TOO_LATE ACCEPTED)

-- with a state: past the limit, shorter or longer than the largest atom plus 1, a byte other than 0 or 1
abbrev pub state_refusal : Rows → List ℕ → ℕ
state_refusal b bytes =
    cond (ltb MOST_ATOMS (length bytes)) PAST_LIMIT
    (cond (ltb (length bytes) (width_of b)) TOO_NARROW
    (cond (ltb (width_of b) (length bytes)) TOO_WIDE (cond (some (ltb 1) bytes) NOT_A_BIT ACCEPTED)))

-- the first of two numbers that refuses
unfoldable pub first_of : ℕ → ℕ → ℕ
first_of n m = cond (eqb n ACCEPTED) m n

-- with a call itself: of a stamped call first with its time
unfoldable pub refusal : Rows → Snap → Call → ℕ
refusal b now (time t) = time_refusal now t
refusal b now (state bytes) = state_refusal b bytes
refusal b now (stamped t bytes) = first_of (time_refusal now t) (state_refusal b bytes)

-- a set has more runs than it may
unfoldable pub crowded : State → Bool
crowded st = some (λ (s : Runs). ltb MOST_RUNS (length s)) st.sets

-- it has after the snapshot n, once old runs are dropped
abbrev pub crowds : Rows → State → Snap → Bool
crowds b st n = crowded (step_in b st n)

-- what a call hands back and leaves
pub record Outcome : Type 0 where
  pub number : ℕ
  pub state : State

-- the state after each snapshot in turn; or, where a set would have more runs than it may, the state as it was
unfoldable pub play : Rows → State → State → List Snap → Outcome
play b old st [] = record { number = ACCEPTED; state = st }
play b old st (n ∷ ns) =
    elim (crowds b st n) [ true ↦ record { number = NO_ROOM; state = old } | false ↦ play b old (step_in b st n) ns ]

-- a call: refused, and the state unchanged; or its snapshots in turn
unfoldable pub call : Rows → State → Call → Outcome
call b st k = elim (eqb (refusal b st.now k) ACCEPTED) [
  | true ↦ play b st st (turns st.now k)
  | false ↦ record { number = refusal b st.now k; state = st }
]

-- the state after calls, the newest first, refused ones among them
unfoldable pub after_in : Way → Rows → List Call → State
after_in way b [] = initial_in way b
after_in way b (k ∷ ks) = (call b (after_in way b ks) k).state

-- in the ordinary way
abbrev pub after : Rows → List Call → State
after = after_in ordinary

-- a history: what each accepted call left, the newest first; a stamped call leaves two snapshots
abbrev pub History : Type 0
History = List Snap

-- the clock and atoms now
abbrev pub now_of : Rows → History → Snap
now_of b [] = fresh b
now_of b (s ∷ h) = s

-- snapshots in turn onto a history
unfoldable pub onto : List Snap → History → History
onto [] h = h
onto (n ∷ ns) h = onto ns (n ∷ h)

-- the history of the accepted calls
unfoldable pub accepted : Rows → List Call → History
accepted b [] = []
accepted b (k ∷ ks) = cond (eqb (call b (after b ks) k).number ACCEPTED) (onto (turns (after b ks).now k) (accepted b ks)) (accepted b ks)
