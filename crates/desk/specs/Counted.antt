-- What is counted of scans: the calls that a scan makes, and the ledger of a desk's monitor. Definitions only.
use Rattle.std.specs.Prelude.{ℕ, cond, List, [], ◌∷◌, length, eqb, ltb}
use Rattle.numbers.specs.Refusals.{ACCEPTED}
use Rattle.pmtl.specs.Book.{Rows, Book}
use Rattle.pmtl.specs.Monitor.{State}
use Rattle.pmtl.specs.Calls.{Call, stamped, state, call}
use Rattle.ledger.specs.Ledger.{Ledger, blank_ledger, ledger_from}
use Rattle.desk_rules.specs.Scans.{Kit, Scan, codes, windows}
use Rattle.desk_rules.specs.Rows.{desk_book}
use Rattle.desk_rules.specs.Desk.{place_of, clear, one_on, desk_after}

-- the calls of `pulse`, the oldest first: where the stamped state is refused, no state all clear follows
unfoldable pub pulse_calls : Rows → ℕ → State → ℕ → ℕ → List Call
pulse_calls b width st t i =
    let on = stamped t (one_on width i) in
    on ∷ cond (eqb (call b st on).number ACCEPTED) (state (clear width) ∷ []) []

-- of `scanned_at`: none where the place is after the barcodes
unfoldable pub calls_at : Rows → ℕ → State → ℕ → ℕ → List Call
calls_at b width st t place = cond (ltb place width) (pulse_calls b width st t place) []

-- of `scanned_in`
abbrev pub calls_in : Rows → List ℕ → State → Scan → List Call
calls_in b cs st e = calls_at b (length cs) st e.hour (place_of e.barcode cs)

-- the ledger after a scan, from a state and a ledger on, where these are the barcodes of the book's atoms, in order
abbrev pub ledger_with : Book → List ℕ → State → Ledger → Scan → Ledger
ledger_with b cs st l e = ledger_from b st l (calls_in b.rows cs st e)

-- after scans at a desk of kits, the newest first, refused ones among them
unfoldable pub desk_ledger : List Kit → List Scan → Ledger
desk_ledger kits [] = blank_ledger (desk_book (windows kits))
desk_ledger kits (e ∷ es) = ledger_with (desk_book (windows kits)) (codes kits) (desk_after kits es) (desk_ledger kits es) e
