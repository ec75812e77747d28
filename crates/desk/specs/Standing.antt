-- What a desk's memory holds, and what opening it and scanning at it owe. Definitions only.
use Rattle.std.specs.Prelude.{ℕ, ◌+◌, ◌/◌, ◌<◌, ◌≡◌, cond, Option, Some, None, List, [], ◌∷◌, length, get_or, replicate}
use Rattle.std.proofs.lemmas.List.Edits.{sets}
use Rattle.numbers.specs.Limits.{MOST_TEMPORALS}
use Rattle.numbers.specs.Refusals.{ACCEPTED, UNKNOWN_BARCODE, refused_with}
use Rattle.lists.specs.Lists.{part}
use Rattle.pmtl.specs.declared.Answer.{Answer}
use Rattle.pmtl.specs.Answer.{is_false}
use Rattle.pmtl.specs.Calls.{Call, Outcome}
use Rattle.ledger.specs.Ledger.{ledger_from}
use Rattle.memory.specs.Memory.{turn_at, book_of, state_of, ledger_of}
use Rattle.memory.specs.Kept.{Kept}
use Rattle.notes.specs.Noting.{numbered}
use Rattle.calls.specs.Called.{Turned}
use Rattle.property_answers.specs.Verdict.{verdict_of}
use Rattle.desk_rules.specs.Scans.{Kit, Scan, codes, windows, open_number, desk_of}
use Rattle.desk_rules.specs.Rows.{KIT_ATOMS, desk_book}
use Rattle.desk_rules.specs.Desk.{place_of, scanned_in, desk_after}
use Rattle.desk.specs.declared.Scanned.{Scanned}
use Rattle.desk.specs.Kits.{MOST_BARCODES}
use Rattle.desk.specs.Counted.{calls_in, desk_ledger}

-- ---- the table of barcodes
abbrev pub TABLE_SIZE : ℕ
TABLE_SIZE = MOST_BARCODES + 1

-- how many barcodes there are, and they; words not in use are 0
unfoldable pub table_of : List Kit → List ℕ
table_of kits = sets (replicate TABLE_SIZE 0) 0 (length (codes kits) ∷ codes kits)

-- the barcodes that a table has
abbrev pub codes_in : List ℕ → List ℕ
codes_in table = part 1 (get_or table 0 0) table

-- how many kits they are of
abbrev pub kit_count : List ℕ → ℕ
kit_count table = get_or table 0 0 / KIT_ATOMS

-- ---- a desk
-- the table and the monitor's memory came of opening a desk of these kits and of these scans, the newest first, refused ones among them
pub record After (kits : List Kit) (scans : List Scan) (table m : List ℕ) : Type 0 where
  pub barcodes : table ≡ table_of (desk_of kits)
  pub book : book_of m ≡ desk_book (windows (desk_of kits))
  pub state : state_of m ≡ desk_after (desk_of kits) scans
  pub ledger : ledger_of m ≡ desk_ledger (desk_of kits) scans
  pub kept : Kept m

-- they came from calls made here
pub record Stands (table m : List ℕ) : Type 0 where
  pub kits : List Kit
  pub scans : List Scan
  pub after : After kits scans table m

-- ---- what is owed
-- opening a desk of kits handed back r: the desk has had no scan, and its monitor's rings begin at their first places; a refused one has no kit
pub record Opens (kits : List Kit) (table m : List ℕ) (r : ℕ) : Type 0 where
  pub number : r ≡ open_number kits
  pub after : After kits [] table m
  pub turns : (j : ℕ) → j < MOST_TEMPORALS → turn_at m j ≡ 0
  pub stands : Stands table m

-- where a scan has this outcome and makes these calls, it handed back r and left m' of m; an unknown barcode changed nothing, and what else is refused is
-- one call: all but its number is as it was
pub record Leaves (o : Outcome) (calls : List Call) (m m' : List ℕ) (r : ℕ) : Type 0 where
  pub number : r ≡ o.number
  pub state : state_of m' ≡ o.state
  pub book : book_of m' ≡ book_of m
  pub ledger : ledger_of m' ≡ ledger_from (book_of m) (state_of m) (ledger_of m) calls
  pub turned : r ≡ ACCEPTED → Turned m m'
  pub unknown : r ≡ UNKNOWN_BARCODE → m' ≡ m
  pub refused : (r ≡ ACCEPTED → ⊥) → (r ≡ UNKNOWN_BARCODE → ⊥) → m' ≡ numbered m
  pub kept : Kept m'

-- the stop slip of a kit prints where its settled answer has just become false
unfoldable pub slip_for : ℕ → Answer → Answer → Option ℕ
slip_for kit before after = cond (is_false before) None (cond (is_false after) (Some kit) None)

-- the kit whose barcode it is
abbrev pub kit_of : List ℕ → Scan → ℕ
kit_of table e = place_of e.barcode (codes_in table) / KIT_ATOMS

-- a scan at a desk handed back r and left m' of m
pub record Scans (e : Scan) (table m m' : List ℕ) (r : Scanned) : Type 0 where
  pub leaves : Leaves (scanned_in (book_of m).rows (codes_in table) (state_of m) e) (calls_in (book_of m).rows (codes_in table) (state_of m) e) m m' (refused_with r.outcome)
  pub slip : r.slip ≡ slip_for (kit_of table e) (verdict_of m (kit_of table e)).settled (verdict_of m' (kit_of table e)).settled
  pub stands : Stands table m'
