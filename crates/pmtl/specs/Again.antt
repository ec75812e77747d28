-- REFERENCE 3.10: a call that says what stands there already. Definitions only.
use Rattle.std.specs.Prelude.{◌≡◌, true}
use Rattle.numbers.specs.Refusals.{ACCEPTED}
use Rattle.pmtl.specs.Book.{Rows}
use Rattle.pmtl.specs.Monitor.{Snap, State, step_in}
use Rattle.pmtl.specs.Calls.{Call, time, state, stamped, stated, Outcome}

-- its time is the clock, and its state has the atoms that stand
abbrev pub SaysAgain : Snap → Call → Type 0
SaysAgain now (time t) = t ≡ now.clock
SaysAgain now (state bytes) = (stated now bytes).atoms ≡ now.atoms
SaysAgain now (stamped t bytes) = (t ≡ now.clock) × ((stated now bytes).atoms ≡ now.atoms)

-- accepted, and the state as it was
abbrev pub unchanged : State → Outcome
unchanged st = record { number = ACCEPTED; state = st }

-- a monitor rests: once a call was accepted, a step at the clock and with the atoms that stand changes nothing
abbrev pub Rests : Rows → State → Type 0
Rests b st = st.begun ≡ true → step_in b st st.now ≡ st
