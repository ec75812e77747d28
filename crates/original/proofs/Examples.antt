-- P1 to P12 of REFERENCE on the original, computed by the transcription: P4 panics, P5 loses 10 to 14. `faults` in compare/ reads P1 to P5 here.
use Prim.Native.Nat.{ℕ}
use mathlib.Core.Path.{◌≡◌, refl}
use mathlib.Core.Bool.{Bool, true, false}
use mathlib.Core.List.{List, [], ◌∷◌, map}
use Rattle.numbers.specs.Limits.{MAX}
use Rattle.numset.specs.Runs.{run}
use Rattle.pmtl.specs.Book.{stop, Rows, table, answer}
use Rattle.pmtl.specs.Book.Row.{never, always, atom, conj, disj, historically, once, since}
use Rattle.pmtl.specs.Calls.{Call, time, state, stamped}
use Rattle.original.specs.Rust.{Ran, each, index, last, binary_search_by_key}
use Rattle.original.specs.Rust.Ran.{panic, done}
use Rattle.original.specs.Rust.Option.{None, Some}
use Rattle.original.specs.TimeRange.{◌to◌}
use Rattle.original.specs.NumSet.{NumSet, add_assign, first_then, ok_then, err_then, contains, contains_at, contains_unbounded_interval}
use Rattle.original.specs.ValPmtl.{from, output, add_if, since_if, update_state as update-state-of, update_time as update-time-of, valuation}
use Rattle.original.specs.PmtlOracle.{update_state, update_time}
use Rattle.original.specs.Formulas.{vec, formula_rule, formula, oracle_of}
use Rattle.original.specs.Replay.{made}
use Rattle.original.specs.Recorded.{Example, found_in, stated_in, ◌gives◌, Answered, answered, trace}

-- ---- the set alone
abbrev pub additions : List (Example (Ran NumSet))
additions =
    -- P1 {[0,1]} add [2,3]: {[0,3]}
    (add_assign (run 0 1 ∷ []) (2 to 3) gives done (run 0 3 ∷ []))
    -- P2 {[0,1],[4,5]} add [2,3]: {[0,5]}
    ∷ (add_assign (run 0 1 ∷ run 4 5 ∷ []) (2 to 3) gives done (run 0 5 ∷ []))
    -- P3 {[0,1]} add [3,2]: unchanged
    ∷ (add_assign (run 0 1 ∷ []) (3 to 2) gives done (run 0 1 ∷ []))
    -- P4 {[0,1],[10,20]} add [5,9]: the Rust panics
    ∷ (add_assign (run 0 1 ∷ run 10 20 ∷ []) (5 to 9) gives panic)
    -- P5 {[0,1],[10,20],[30,40]} add [15,29]: the Rust loses 10 to 14
    ∷ (add_assign (run 0 1 ∷ run 10 20 ∷ run 30 40 ∷ []) (15 to 29) gives done (run 0 1 ∷ run 15 40 ∷ []))
    ∷ []

pub P1_to_P5 : map found_in additions ≡ map stated_in additions
unfolding add_assign first_then ok_then err_then index binary_search_by_key
P1_to_P5 = refl

-- the instants 9 to 15 of P5 before the addition, and after it
pub P5_had : each (contains (run 0 1 ∷ run 10 20 ∷ run 30 40 ∷ [])) (9 ∷ 10 ∷ 11 ∷ 12 ∷ 13 ∷ 14 ∷ 15 ∷ []) ≡ done (false ∷ true ∷ true ∷ true ∷ true ∷ true ∷ true ∷ [])
unfolding each contains contains_at index binary_search_by_key
P5_had = refl

pub P5_lost : each (contains (run 0 1 ∷ run 15 40 ∷ [])) (9 ∷ 10 ∷ 11 ∷ 12 ∷ 13 ∷ 14 ∷ 15 ∷ []) ≡ done (false ∷ false ∷ false ∷ false ∷ false ∷ false ∷ true ∷ [])
unfolding each contains contains_at index binary_search_by_key
P5_lost = refl

-- ---- the oracle: row r of a book, before the first call and after each
abbrev pub ran : Rows → ℕ → List Call → List (Ran Answered)
ran b r ks = trace ks (done (oracle_of (record { rows = b; assumes = r ∷ []; guarantees = [] })))

-- a value whose early answer is open, and one with its early answer
abbrev pub untold : Bool → Ran Answered
untold value = done (None ∷ [], value ∷ [])

abbrev pub told : Bool → Bool → Ran Answered
told value early = done (Some early ∷ [], value ∷ [])

-- state calls of one atom and of two, as REFERENCE writes them
abbrev pub s0 : Call
s0 = state (0 ∷ [])

abbrev pub s1 : Call
s1 = state (1 ∷ [])

abbrev pub s : ℕ → ℕ → Call
s x y = state (x ∷ y ∷ [])

abbrev pub traces : List (Example (List (Ran Answered)))
traces =
    -- P6 Once[2,3] a; s1, s0, then t1, t2, t3, t4: values 0, 1, 1, 0
    (ran (atom 0 ∷ once (2 to 3) 0 ∷ []) 1 (s1 ∷ s0 ∷ time 1 ∷ time 2 ∷ time 3 ∷ time 4 ∷ [])
    gives untold false ∷ untold false ∷ untold false ∷ untold false ∷ untold true ∷ untold true ∷ untold false ∷ [])
    -- P7 Once[1,1] a; s1, t5: value 0
    ∷ (ran (atom 0 ∷ once (1 to 1) 0 ∷ []) 1 (s1 ∷ time 5 ∷ []) gives untold false ∷ untold false ∷ untold false ∷ [])
    -- P8 Historically[0,0] a; t4, s1: value 0
    ∷ (ran (atom 0 ∷ historically (0 to 0) 0 ∷ []) 1 (time 4 ∷ s1 ∷ []) gives untold true ∷ untold false ∷ untold false ∷ [])
    -- the same as one stamped call, (t4, s1)
    ∷ (ran (atom 0 ∷ historically (0 to 0) 0 ∷ []) 1 (stamped 4 (1 ∷ []) ∷ []) gives untold true ∷ untold false ∷ [])
    -- P9 Since(a,b)[0,MAX]; s01, s10, t7, s00: values 1, 1, 1, 0
    ∷ (ran (atom 0 ∷ atom 1 ∷ since (0 to MAX) 0 1 ∷ []) 2 (s 0 1 ∷ s 1 0 ∷ time 7 ∷ s 0 0 ∷ [])
    gives untold false ∷ untold true ∷ untold true ∷ untold true ∷ untold false ∷ [])
    -- P10 Since(False,True)[0,MAX]; t0: 10
    ∷ (ran (never ∷ always ∷ since (0 to MAX) 0 1 ∷ []) 2 (time 0 ∷ []) gives untold false ∷ told true false ∷ [])
    -- P11 And(False,a); s1: 02. After t0, empty And 11, empty Or 00
    ∷ (ran (never ∷ atom 0 ∷ conj (0 ∷ 1 ∷ []) ∷ []) 2 (s1 ∷ []) gives untold false ∷ untold false ∷ [])
    ∷ (ran (conj [] ∷ []) 0 (time 0 ∷ []) gives told true true ∷ told true true ∷ [])
    ∷ (ran (disj [] ∷ []) 0 (time 0 ∷ []) gives told false false ∷ told false false ∷ [])
    -- P12 Once[0,MAX] Historically[0,MAX] a; s1, s0: 11, then 10
    ∷ (ran (atom 0 ∷ historically (0 to MAX) 0 ∷ once (0 to MAX) 1 ∷ []) 2 (s1 ∷ s0 ∷ []) gives untold false ∷ told true true ∷ told true false ∷ [])
    ∷ []

pub P6_to_P12 : map found_in traces ≡ map stated_in traces
unfolding trace answered made update_state update_time update-state-of update-time-of each output valuation from add_if since_if add_assign first_then ok_then err_then index contains contains_at contains_unbounded_interval last binary_search_by_key stop table answer oracle_of formula formula_rule vec
P6_to_P12 = refl
