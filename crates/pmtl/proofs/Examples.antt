-- P1 to P12 of REFERENCE, what lapses, how many runs a range can need, states of another width, stamped calls, and states that last,
-- computed by the definitions.
use Prim.Native.Nat.{ℕ, zero, suc, ◌*◌}
use mathlib.Core.Path.{◌≡◌, refl}
use mathlib.Core.List.{List, [], ◌∷◌, ◌++◌, map}
use lib.ListN.{replicate}
use Rattle.numbers.specs.Limits.{MAX, LAST_TIME, MOST_ATOMS}
use Rattle.numset.specs.Runs.{run, Runs, has, covers, kept, insert, union}
use Rattle.pmtl.specs.Answer.{bit_of, digit_of}
use Rattle.pmtl.specs.Book.{Range, stop, Row, Rows, width_of, table, answer, every, some}
use Rattle.pmtl.specs.Book.Row.{never, always, atom, conj, disj, historically, once, since}
use Rattle.pmtl.specs.Sets.{gone, stays_if, added_if, renewed, lasted, Way, ordinary, lasting, set_rule_by}
use Rattle.pmtl.specs.Monitor.{State, set_at, most_runs, fullest, initial_in, value_rule, value, step_by}
use Rattle.pmtl.specs.Early.{early_rule, early}
use Rattle.pmtl.specs.Settled.{settled_true, settled_false, settled}
use Rattle.pmtl.specs.Calls.{Call, time, state, stamped, first_of, refusal, crowded, play, call, after_in, after}
use Rattle.pmtl.specs.Strict.{needed}

-- what an example gives: a set; a row's value after each of some calls; its value, early and settled answer after each
pub data Result : Type 0 where
  set : Runs → Result
  values : List ℕ → Result
  answers : List (List ℕ) → Result

-- what the definitions give, and what is stated
pub record Example : Type 0 where
  pub found : Result
  pub stated : Result

abbrev pub found_in : Example → Result
found_in x = x.found

abbrev pub stated_in : Example → Result
stated_in x = x.stated

infixl 20 ◌gives◌
abbrev pub ◌gives◌ : Result → Result → Example
found gives stated = record { found = found; stated = stated }

-- after each call of a list, the oldest first, made after those of `done`, the newest first
unfoldable pub each_after : {A : Type 0} → Way → (State → A) → Rows → List Call → List Call → List A
each_after way f b done [] = []
each_after way f b done (k ∷ ks) = f (after_in way b (k ∷ done)) ∷ each_after way f b (k ∷ done) ks

-- of row r
abbrev pub values_in : Way → Rows → ℕ → List Call → List Call → Result
values_in way b r done ks = values (each_after way (λ st. bit_of (value b st r)) b done ks)

abbrev pub values_of : Rows → ℕ → List Call → List Call → Result
values_of = values_in ordinary

abbrev pub answers_of : Rows → ℕ → List Call → Result
answers_of b r ks = answers (each_after ordinary (λ st. bit_of (value b st r) ∷ digit_of (early b st r) ∷ digit_of (settled b st r) ∷ []) b [] ks)

abbrev pub range : ℕ → ℕ → Range
range l u = record { lower = l; upper = u }

-- state calls of one atom and of two
abbrev pub s0 : Call
s0 = state (0 ∷ [])

abbrev pub s1 : Call
s1 = state (1 ∷ [])

abbrev pub s : ℕ → ℕ → Call
s x y = state (x ∷ y ∷ [])

abbrev pub examples : List Example
examples =
    -- P1 {[0,1]} add [2,3]: {[0,3]}
    (set (union 2 3 (run 0 1 ∷ [])) gives set (run 0 3 ∷ []))
    -- P2 {[0,1],[4,5]} add [2,3]: {[0,5]}
    ∷ (set (union 2 3 (run 4 5 ∷ run 0 1 ∷ [])) gives set (run 0 5 ∷ []))
    -- P3 {[0,1]} add [3,2]: unchanged
    ∷ (set (union 3 2 (run 0 1 ∷ [])) gives set (run 0 1 ∷ []))
    -- P4 {[0,1],[10,20]} add [5,9]: {[0,1],[5,20]}
    ∷ (set (union 5 9 (run 10 20 ∷ run 0 1 ∷ [])) gives set (run 5 20 ∷ run 0 1 ∷ []))
    -- P5 {[0,1],[10,20],[30,40]} add [15,29]: {[0,1],[10,40]}
    ∷ (set (union 15 29 (run 30 40 ∷ run 10 20 ∷ run 0 1 ∷ [])) gives set (run 10 40 ∷ run 0 1 ∷ []))
    -- P6 Once[2,3] a; s1, s0, then t1, t2, t3, t4: values 0, 1, 1, 0
    ∷ (values_of (atom 0 ∷ once (range 2 3) 0 ∷ []) 1 (s0 ∷ s1 ∷ []) (time 1 ∷ time 2 ∷ time 3 ∷ time 4 ∷ []) gives values (0 ∷ 1 ∷ 1 ∷ 0 ∷ []))
    -- P7 Once[1,1] a; s1, t5: value 0, though a held throughout
    ∷ (values_of (atom 0 ∷ once (range 1 1) 0 ∷ []) 1 (s1 ∷ []) (time 5 ∷ []) gives values (0 ∷ []))
    -- P8 Historically[0,0] a; t4, s1: value 0
    ∷ (values_of (atom 0 ∷ historically (range 0 0) 0 ∷ []) 1 (time 4 ∷ []) (s1 ∷ []) gives values (0 ∷ []))
    -- P9 Since(a,b)[0,MAX]; s01, s10, t7, s00: values 1, 1, 1, 0
    ∷ (values_of (atom 0 ∷ atom 1 ∷ since (range 0 MAX) 0 1 ∷ []) 2 [] (s 0 1 ∷ s 1 0 ∷ time 7 ∷ s 0 0 ∷ []) gives values (1 ∷ 1 ∷ 1 ∷ 0 ∷ []))
    -- P10 Since(False,True)[0,MAX]; t0: 101
    ∷ (answers_of (never ∷ always ∷ since (range 0 MAX) 0 1 ∷ []) 2 (time 0 ∷ []) gives answers ((1 ∷ 0 ∷ 1 ∷ []) ∷ []))
    -- P11 And(False,a); s1: 022 is wrong, 020 is right. After t0, empty And 111, empty Or 000
    ∷ (answers_of (never ∷ atom 0 ∷ conj (0 ∷ 1 ∷ []) ∷ []) 2 (s1 ∷ []) gives answers ((0 ∷ 2 ∷ 0 ∷ []) ∷ []))
    ∷ (answers_of (conj [] ∷ []) 0 (time 0 ∷ []) gives answers ((1 ∷ 1 ∷ 1 ∷ []) ∷ []))
    ∷ (answers_of (disj [] ∷ []) 0 (time 0 ∷ []) gives answers ((0 ∷ 0 ∷ 0 ∷ []) ∷ []))
    -- P12 Once[0,MAX] Historically[0,MAX] a; s1, s0: 111, then 101
    ∷ (answers_of (atom 0 ∷ historically (range 0 MAX) 0 ∷ once (range 0 MAX) 1 ∷ []) 2 (s1 ∷ s0 ∷ []) gives answers ((1 ∷ 1 ∷ 1 ∷ []) ∷ (1 ∷ 0 ∷ 1 ∷ []) ∷ []))
    ∷ []

-- each gives what is stated
pub P1_to_P12 : map found_in examples ≡ map stated_in examples
unfolding each_after has covers insert union stop width_of table answer every some kept gone stays_if added_if renewed set_rule_by initial_in value_rule value step_by early_rule early settled_true settled_false settled refusal crowded play call after_in
P1_to_P12 = refl

-- ---- what lapses
-- the set of row 1 of a book with one atom, after calls, the newest first
abbrev pub set_of : Row ℕ → List Call → Result
set_of row calls = let b : Rows = atom 0 ∷ row ∷ [] in set (set_at (after b calls) 1)

abbrev pub lapses : List Example
lapses =
    -- Once[0,5] a; s1, s0, t5: the run ends at the clock, and stays. t6: it is over
    (set_of (once (range 0 5) 0) (time 5 ∷ s0 ∷ s1 ∷ []) gives set (run 0 5 ∷ []))
    ∷ (set_of (once (range 0 5) 0) (time 6 ∷ s0 ∷ s1 ∷ []) gives set [])
    -- Once[0,4] a; s1, t5: what ended at 4 is dropped before [5,9] is added, which it touches
    ∷ (set_of (once (range 0 4) 0) (time 5 ∷ s1 ∷ []) gives set (run 5 9 ∷ []))
    -- Once[0,5] a; s1, t5: what ends at 5 is joined
    ∷ (set_of (once (range 0 5) 0) (time 5 ∷ s1 ∷ []) gives set (run 0 10 ∷ []))
    -- Historically[0,0] a; s0, s1, t3: dropped though the call adds nothing
    ∷ (set_of (historically (range 0 0) 0) (time 3 ∷ s1 ∷ s0 ∷ []) gives set [])
    ∷ []

pub lapses_so : map found_in lapses ≡ map stated_in lapses
unfolding has covers insert union stop width_of table answer every some kept gone stays_if added_if renewed set_rule_by initial_in value_rule value step_by early_rule early settled_true settled_false settled refusal crowded play call after_in
lapses_so = refl

-- a first call, then t2, t4 up to t126, the newest first
unfoldable pub evens : Call → ℕ → List Call
evens first zero = first ∷ []
evens first (suc n) = time (2 * suc n) ∷ evens first n

-- the number that a time call hands back after s1 and those, where the rule is Once g a
abbrev pub number_at : Range → ℕ → ℕ
number_at g t = let b : Rows = atom 0 ∷ once g 0 ∷ [] in (call b (after b (evens s1 63)) (time t)).number

-- Once[0,0] a: every episode is over at the next. Once[127,127] a: the oldest is over at 128. Once[128,128] a: it is over at 129, and not yet at 128,
-- where the 65th is refused
pub room_again : number_at (range 0 0) 128 ∷ number_at (range 127 127) 128 ∷ number_at (range 128 128) 128 ∷ number_at (range 128 128) 129 ∷ [] ≡ 0 ∷ 0 ∷ 11 ∷ 0 ∷ []
unfolding evens has covers insert union stop width_of table answer every some kept gone stays_if added_if renewed set_rule_by initial_in value_rule value step_by early_rule early settled_true settled_false settled refusal crowded play call after_in
room_again = refl

-- Once[127,127] a can need 64 runs, and has them after these calls; Once[128,128] a, whose 65th was refused above, can need 65; Once[0,*] a can need one
pub needs_so : let b : Rows = atom 0 ∷ once (range 127 127) 0 ∷ [] in
    needed (range 127 127) ∷ fullest (after b (evens s1 63)) ∷ needed (range 128 128) ∷ needed (range 0 MAX) ∷ [] ≡ 64 ∷ 64 ∷ 65 ∷ 1 ∷ []
unfolding evens has covers insert union stop width_of table answer every some kept gone stays_if added_if renewed set_rule_by initial_in value_rule value step_by refusal crowded play call after_in most_runs needed
needs_so = refl

-- ---- states of another width
-- the numbers that a fresh monitor hands back for states
abbrev pub numbers_of : Rows → List (List ℕ) → List ℕ
numbers_of b states = map (λ bytes. (call b (after b []) (state bytes)).number) states

-- where the book has one atom: past the limit, too short, too long, a byte 2, accepted; and where it has none: too long, accepted
pub states_refused :
    numbers_of (atom 0 ∷ []) (replicate (suc MOST_ATOMS) 2 ∷ [] ∷ (0 ∷ 2 ∷ []) ∷ (2 ∷ []) ∷ (1 ∷ []) ∷ []) ++ numbers_of (always ∷ []) ((2 ∷ []) ∷ [] ∷ [])
    ≡ 2 ∷ 9 ∷ 16 ∷ 10 ∷ 0 ∷ 16 ∷ 0 ∷ []
unfolding has covers insert union stop width_of table answer every some kept gone stays_if added_if renewed set_rule_by initial_in value_rule value step_by refusal crowded play call after_in
states_refused = refl

-- ---- stamped calls
abbrev pub stamps : List Example
stamps =
    -- P8 as one call, Historically[0,0] a; (t4, s1): the old state is still seen at the new time
    (values_of (atom 0 ∷ historically (range 0 0) 0 ∷ []) 1 [] (stamped 4 (1 ∷ []) ∷ []) gives values (0 ∷ []))
    -- the other order, s1 and then t4, would give 1
    ∷ (values_of (atom 0 ∷ historically (range 0 0) 0 ∷ []) 1 (s1 ∷ []) (time 4 ∷ []) gives values (1 ∷ []))
    ∷ []

pub stamps_so : map found_in stamps ≡ map stated_in stamps
unfolding each_after has covers insert union stop width_of table answer every some kept gone stays_if added_if renewed set_rule_by initial_in value_rule value step_by first_of refusal crowded play call after_in
stamps_so = refl

-- what is refused, in order: at clock 5 a time too early, too late, then with the time in order a state past the limit, too short, too long, with a
-- byte 2
pub stamped_refused : let b : Rows = atom 0 ∷ [] in
    map (λ k. (call b (after b (time 5 ∷ [])) k).number)
    (stamped 4 (replicate (suc MOST_ATOMS) 2) ∷ stamped (suc LAST_TIME) [] ∷ stamped 6 (replicate (suc MOST_ATOMS) 2) ∷ stamped 6 [] ∷ stamped 6 (0 ∷ 2 ∷ []) ∷ stamped 6 (2 ∷ []) ∷ stamped 5 (1 ∷ []) ∷ [])
    ≡ 7 ∷ 8 ∷ 2 ∷ 9 ∷ 16 ∷ 10 ∷ 0 ∷ []
unfolding has covers insert union stop width_of table answer every some kept gone stays_if added_if renewed set_rule_by initial_in value_rule value step_by first_of refusal crowded play call after_in
stamped_refused = refl

-- Since(a, b)[200,200] with 64 runs: at 128 there is no room for one more, whether the state that comes would drop the set or not; at 126 that state drops it
pub stamped_between : let b : Rows = atom 0 ∷ atom 1 ∷ since (range 200 200) 0 1 ∷ [] in
    map (λ k. (call b (after b (evens (s 1 1) 63)) k).number) (stamped 128 (0 ∷ 0 ∷ []) ∷ stamped 128 (1 ∷ 0 ∷ []) ∷ stamped 126 (0 ∷ 0 ∷ []) ∷ []) ≡ 11 ∷ 11 ∷ 0 ∷ []
unfolding evens has covers insert union stop width_of table answer every some kept gone stays_if added_if renewed set_rule_by initial_in value_rule value step_by first_of refusal crowded play call after_in
stamped_between = refl

-- ---- states that last until the next call: by one interval for each stretch of time
-- rules over one atom a, and over two
abbrev pub once_of : ℕ → ℕ → Rows
once_of l u = atom 0 ∷ once (range l u) 0 ∷ []

abbrev pub historically_of : ℕ → ℕ → Rows
historically_of l u = atom 0 ∷ historically (range l u) 0 ∷ []

abbrev pub since_of : ℕ → ℕ → Rows
since_of l u = atom 0 ∷ atom 1 ∷ since (range l u) 0 1 ∷ []

abbrev pub lasts : List Example
lasts =
    -- P7 Once[1,1] a; s1, t5: value 1, since a held at 4, too
    (values_in lasting (once_of 1 1) 1 (s1 ∷ []) (time 5 ∷ []) gives values (1 ∷ []))
    -- P8 Historically[0,0] a; t4, s1: value 0, as in the ordinary way; so as one call
    ∷ (values_in lasting (historically_of 0 0) 1 (time 4 ∷ []) (s1 ∷ []) gives values (0 ∷ []))
    ∷ (values_in lasting (historically_of 0 0) 1 [] (stamped 4 (1 ∷ []) ∷ []) gives values (0 ∷ []))
    -- Historically[5,5] a; t5: value 1, since no call is put in at 0 itself
    ∷ (values_in lasting (historically_of 5 5) 1 [] (time 5 ∷ []) gives values (1 ∷ []))
    -- Since(a,b)[1,1]; s01, t5: value 0: where left fails, each call drops what stood there
    ∷ (values_in lasting (since_of 1 1) 2 (s 0 1 ∷ []) (time 5 ∷ []) gives values (0 ∷ []))
    -- Once[1,1] a; (t5, s1): value 0, since the old state lasted up to 5
    ∷ (values_in lasting (once_of 1 1) 1 [] (stamped 5 (1 ∷ []) ∷ []) gives values (0 ∷ []))
    -- Once[0,0] a; s1, t5: one interval. Instant by instant {[5,5]} would be left, since what lapses is dropped before it is joined
    ∷ (set (set_at (after_in lasting (once_of 0 0) (time 5 ∷ s1 ∷ [])) 1) gives set (run 1 5 ∷ []))
    ∷ []

pub lasts_so : map found_in lasts ≡ map stated_in lasts
unfolding each_after has covers insert union stop width_of table answer every some kept gone stays_if added_if renewed lasted set_rule_by initial_in value_rule value step_by first_of refusal crowded play call after_in
lasts_so = refl
