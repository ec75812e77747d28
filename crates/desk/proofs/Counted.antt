-- The calls of a scan: their numbers, and what they leave in a ledger. Assumes nothing.
use Prim.Native.Nat.{ℕ, ◌≤◌, ◌<◌}
use native.Mathlib.Omega.{arith}
use mathlib.Core.Path.{◌≡◌}
use mathlib.Core.Bool.{Bool, true, false, cond}
use mathlib.Core.List.{List, [], ◌∷◌}
use lib.ListN.{length}
use lib.Dec.{ltb, eqb}
use borrow.Author.Tests.{eq-eqb, ne_eqb, lt-ltb, le-ltb}
use Rattle.numbers.specs.Limits.{LAST_TIME, MOST_ATOMS}
use Rattle.numbers.specs.Refusals.{ACCEPTED, PAST_LIMIT, TOO_EARLY, TOO_LATE, TOO_NARROW, NOT_A_BIT, TOO_WIDE, UNKNOWN_BARCODE}
use Rattle.pmtl.specs.Book.{Rows, Book, width_of, some}
use Rattle.pmtl.specs.Monitor.{Snap, State, step_in}
use Rattle.pmtl.specs.Calls.{Call, time, stamped, state, turns, time_refusal, state_refusal, first_of, refusal, crowds, Outcome, play, call}
use Rattle.ledger.specs.Ledger.{Ledger, next, ledger_from}
use Rattle.desk_rules.specs.Desk.{clear, one_on}
use Rattle.desk.specs.Counted.{pulse_calls, calls_at}

-- ---- no call is refused as a scan of an unknown barcode is
either_small : (z : Bool) (x y : ℕ) → x < UNKNOWN_BARCODE → y < UNKNOWN_BARCODE → cond z x y < UNKNOWN_BARCODE
either_small true x y h k = h
either_small false x y h k = k

time_small : (now : Snap) (t : ℕ) → time_refusal now t < UNKNOWN_BARCODE
time_small now t =
    either_small (ltb t now.clock) TOO_EARLY (cond (ltb LAST_TIME t) TOO_LATE ACCEPTED) (omega arith)
    (either_small (ltb LAST_TIME t) TOO_LATE ACCEPTED (omega arith) (omega arith))

state_small : (b : Rows) (bytes : List ℕ) → state_refusal b bytes < UNKNOWN_BARCODE
state_small b bytes = go (ltb MOST_ATOMS (length bytes)) (ltb (length bytes) (width_of b)) (ltb (width_of b) (length bytes)) (some (ltb 1) bytes)
  where
    go : (past narrow wide odd : Bool) → cond past PAST_LIMIT (cond narrow TOO_NARROW (cond wide TOO_WIDE (cond odd NOT_A_BIT ACCEPTED))) < UNKNOWN_BARCODE
    go true narrow wide odd = omega arith
    go false true wide odd = omega arith
    go false false true odd = omega arith
    go false false false true = omega arith
    go false false false false = omega arith

refusal_small : (b : Rows) (now : Snap) (k : Call) → refusal b now k < UNKNOWN_BARCODE
unfolding refusal first_of
refusal_small b now (time t) = time_small now t
refusal_small b now (state bytes) = state_small b bytes
refusal_small b now (stamped t bytes) = either_small (eqb (time_refusal now t) ACCEPTED) (state_refusal b bytes) (time_refusal now t) (state_small b bytes) (time_small now t)

play_small : (b : Rows) (old st : State) (ns : List Snap) → (play b old st ns).number < UNKNOWN_BARCODE
unfolding play
play_small b old st [] = omega arith
play_small b old st (n ∷ ns) = go (crowds b st n) (play_small b old (step_in b st n) ns)
  where
    go : (z : Bool) → (play b old (step_in b st n) ns).number < UNKNOWN_BARCODE
        → let o = elim z as (λ z. Outcome) [ true ↦ record { number = 11; state = old } | false ↦ play b old (step_in b st n) ns ] in o.number < UNKNOWN_BARCODE
    go true h = omega arith
    go false h = h

pub call_small : (b : Rows) (st : State) (k : Call) → (call b st k).number < UNKNOWN_BARCODE
unfolding call
call_small b st k = go (eqb (refusal b st.now k) ACCEPTED)
  where
    go : (z : Bool)
        → let o = elim z as (λ z. Outcome) [ true ↦ play b st st (turns st.now k) | false ↦ record { number = refusal b st.now k; state = st } ] in o.number < UNKNOWN_BARCODE
    go true = play_small b st st (turns st.now k)
    go false = refusal_small b st.now k

-- ---- a stamped state and a clear one, in a ledger: the first alone where it is refused
module _ (b : Book) (width : ℕ) (st : State) (l : Ledger) (t place : ℕ) where
  abbrev first : Outcome
  first = call b.rows st (stamped t (one_on width place))

  pub one_counted : ¬ (first.number ≡ ACCEPTED) → ledger_from b st l (pulse_calls b.rows width st t place) ≡ next b first l
  unfolding pulse_calls ledger_from
  one_counted n = rw (ne_eqb first.number ACCEPTED n)

  pub both_counted : first.number ≡ ACCEPTED
      → ledger_from b st l (pulse_calls b.rows width st t place) ≡ next b (call b.rows first.state (state (clear width))) (next b first l)
  unfolding pulse_calls ledger_from
  both_counted z = rw (eq-eqb first.number ACCEPTED z)

-- ---- a scan by its barcode's place
module _ (b : Rows) (width : ℕ) (st : State) (t place : ℕ) where
  pub known_calls : place < width → calls_at b width st t place ≡ pulse_calls b width st t place
  unfolding calls_at
  known_calls h = rw (lt-ltb place width h)

  pub unknown_calls : width ≤ place → calls_at b width st t place ≡ []
  unfolding calls_at
  unknown_calls h = rw (le-ltb place width h)
