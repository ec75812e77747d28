-- REFERENCE 3.9: what the lasting way means: the calls that are put in, and the history that the accepted calls make with them. Definitions only.
use Rattle.std.specs.Prelude.{ℕ, zero, suc, ◌+◌, ◌-◌, cond, List, [], ◌∷◌, ◌++◌, eqb}
use Rattle.numbers.specs.Refusals.{ACCEPTED}
use Rattle.pmtl.specs.Book.{Rows}
use Rattle.pmtl.specs.Sets.{Way, ordinary, lasting}
use Rattle.pmtl.specs.Monitor.{Snap, State}
use Rattle.pmtl.specs.Calls.{Call, timed, turns, call, after_in, History, now_of, accepted}
use Rattle.pmtl.specs.Kept.{FullBy}

-- what time calls leave at the n instants after a snapshot, one at each, the newest first
unfoldable pub ticks : Snap → ℕ → History
ticks now zero = []
ticks now (suc n) = timed now (now.clock + suc n) ∷ ticks now n

-- a history with a time call put in at every instant strictly between its clock and that of a snapshot that is to come
abbrev pub filled : Rows → History → Snap → History
filled b h n = ticks (now_of b h) (n.clock - (now_of b h).clock - 1) ++ h

-- snapshots in turn onto a history, with the calls that are put in before each
unfoldable pub lasting_onto : Rows → List Snap → History → History
lasting_onto b [] h = h
lasting_onto b (n ∷ ns) h = lasting_onto b ns (n ∷ filled b h n)

-- the state after calls in the lasting way, the newest first, refused ones among them
abbrev pub lasting_after : Rows → List Call → State
lasting_after = after_in lasting

-- the lasting history: what each accepted call left, with the calls that are put in; a refused call puts nothing in
unfoldable pub lasting_history : Rows → List Call → History
lasting_history b [] = []
lasting_history b (k ∷ ks) =
    cond (eqb (call b (lasting_after b ks) k).number ACCEPTED)
    (lasting_onto b (turns (lasting_after b ks).now k) (lasting_history b ks))
    (lasting_history b ks)

-- the history that a monitor's answers are about, by its way: of the accepted calls alone, or with those that are put in
abbrev pub history_in : Way → Rows → List Call → History
history_in ordinary = accepted
history_in lasting = lasting_history

-- after one of the snapshots ns, made in turn, the instants of some row form at or after the clock more runs than a set may have. It is not asked of the
-- calls that are put in: they are never refused for room
abbrev pub FullLasting : Rows → History → List Snap → Type 0
FullLasting b = FullBy (filled b) b
