-- A scan as calls of the desk's monitor. Definitions only.
use Rattle.std.specs.Prelude.{ℕ, suc, true, false, cond, List, [], ◌∷◌, length, set, replicate, eqb, ltb}
use Rattle.numbers.specs.Refusals.{ACCEPTED, UNKNOWN_BARCODE}
use Rattle.pmtl.specs.Book.{Rows}
use Rattle.pmtl.specs.Monitor.{State, initial}
use Rattle.pmtl.specs.Calls.{stamped, state, Outcome, call}
use Rattle.desk_rules.specs.Scans.{Kit, Scan, codes, windows}
use Rattle.desk_rules.specs.Rows.{desk_rows}

-- where a barcode stands among others; after them if it is none of them
unfoldable pub place_of : ℕ → List ℕ → ℕ
place_of c [] = 0
place_of c (x ∷ xs) = cond (eqb c x) 0 (suc (place_of c xs))

-- a state of so many atoms with nothing on, and one with one atom on
abbrev pub clear : ℕ → List ℕ
clear width = replicate width 0

abbrev pub one_on : ℕ → ℕ → List ℕ
one_on width i = set (clear width) i 1

-- what a call hands back and leaves; where it is refused, the state as it was before others
unfoldable pub or_as_before : State → Outcome → Outcome
or_as_before old o = elim (eqb o.number ACCEPTED) [ true ↦ o | false ↦ record { number = o.number; state = old } ]

-- a state all clear after a stamped one, where `old` was the state before both: both or neither
unfoldable pub cleared : Rows → ℕ → State → Outcome → Outcome
cleared b width old o = elim (eqb o.number ACCEPTED) [
  | true ↦ or_as_before old (call b o.state (state (clear width)))
  | false ↦ record { number = o.number; state = old }
]

-- a stamped state with atom i on, and after it, at the same clock, a state all clear
unfoldable pub pulse : Rows → ℕ → State → ℕ → ℕ → Outcome
pulse b width st t i = cleared b width st (call b st (stamped t (one_on width i)))

-- a scan of the barcode at a place among so many: refused if the place is after them, else its atom goes on and off
unfoldable pub scanned_at : Rows → ℕ → State → ℕ → ℕ → Outcome
scanned_at b width st t place = elim (ltb place width) [
  | true ↦ pulse b width st t place
  | false ↦ record { number = UNKNOWN_BARCODE; state = st }
]

-- a scan where these are the barcodes of the rows' atoms, in order
abbrev pub scanned_in : Rows → List ℕ → State → Scan → Outcome
scanned_in b cs st e = scanned_at b (length cs) st e.hour (place_of e.barcode cs)

-- a scan at a desk of kits
abbrev pub scanned : List Kit → State → Scan → Outcome
scanned kits st e = scanned_in (desk_rows (windows kits)) (codes kits) st e

-- the monitor's state after scans, the newest first, refused ones among them
unfoldable pub desk_after : List Kit → List Scan → State
desk_after kits [] = initial (desk_rows (windows kits))
desk_after kits (e ∷ es) = (scanned kits (desk_after kits es) e).state
