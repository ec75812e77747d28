-- What a line of the dialogue with a kit desk does. Definitions only.
use Rattle.std.specs.Prelude.{ℕ, suc, ◌*◌, cond, Option, Some, None, List, [], ◌∷◌, ltb, eqb}
use Rattle.std.proofs.lemmas.List.Edits.{sets}
use Rattle.numbers.specs.Limits.{MAX, MOST_KITS}
use Rattle.numbers.specs.Refusals.{ACCEPTED, WRONG_KITS}
use Rattle.text.specs.Words.{Supply}
use Rattle.pmtl.specs.Book.{Book}
use Rattle.pmtl.specs.Monitor.{State, initial}
use Rattle.ledger.specs.Ledger.{Ledger, blank_ledger}
use Rattle.property_answers.specs.Verdict.{verdict_in}
use Rattle.desk_rules.specs.Scans.{Kit, Scan, windows, open_number, desk_of}
use Rattle.desk_rules.specs.Rows.{desk_rows, desk_book}
use Rattle.desk_rules.specs.Desk.{scanned_in}
use Rattle.desk.specs.Kits.{KIT_WORDS, kits_in}
use Rattle.desk.specs.Counted.{ledger_with}
use Rattle.desk.specs.Standing.{table_of, codes_in, kit_of, slip_for}
use Rattle.line_words.specs.Line.{line_supply, blank, word_at, number_for}
use Rattle.desk_lines.specs.declared.Stage.{Stage}
use Rattle.desk_lines.specs.declared.Stage.TheVariants.{Awaited, Giving, Opened, Closed}

-- what is said after a line: nothing; the desk's number; a scan's line and number; and these with the kit whose slip prints
pub data Event : Type 0 where
  Nothing : Event
  Desk : ℕ → Event
  Scanned : ℕ → ℕ → Event
  Stopped : ℕ → ℕ → ℕ → Event

-- what came of a line: the stage after it, and what is to be said
pub record Heard : Type 0 where
  pub stage : Stage
  pub event : Event

-- what stays from line to line beside the stage: the words of the kits so far, the table of barcodes, and the monitor's book, state and ledger
pub record Held : Type 0 where
  pub words : List ℕ
  pub table : List ℕ
  pub book : Book
  pub state : State
  pub ledger : Ledger

-- what a line does: the stage after it and what is to be said, and what stays
pub record Reply : Type 0 where
  pub heard : Heard
  pub held : Held

abbrev pub says : Stage → Event → Heard
says stage event = record { stage = stage; event = event }

abbrev pub unchanged : Held → Heard → Reply
unchanged d h = record { heard = h; held = d }

-- a refused desk: nothing follows it
abbrev pub closed_by : ℕ → Heard
closed_by n = says Closed (Desk n)

-- ---- the line with the number of kits, which is judged before what follows it
abbrev pub COUNT_WORDS : ℕ
COUNT_WORDS = 1

unfoldable pub count_heard : ℕ → Heard
count_heard count = cond (eqb count 0) (closed_by WRONG_KITS) (cond (ltb MOST_KITS count) (closed_by WRONG_KITS) (says (Giving count 0) Nothing))

unfoldable pub count_line : Supply → Heard
count_line s = cond (eqb (number_for COUNT_WORDS s) ACCEPTED) (count_heard (word_at s 0)) (closed_by (number_for COUNT_WORDS s))

-- ---- the line of a kit
-- its words among those of the kits
abbrev pub kit_put : ℕ → Supply → List ℕ → List ℕ
kit_put k s words = sets words (KIT_WORDS * k) (word_at s 0 ∷ word_at s 1 ∷ word_at s 2 ∷ word_at s 3 ∷ [])

abbrev pub with_kit : ℕ → Supply → Held → Held
with_kit k s d = record { words = kit_put k s d.words; table = d.table; book = d.book; state = d.state; ledger = d.ledger }

-- the desk of kits: opened or refused
unfoldable pub open_heard : ℕ → Heard
open_heard n = cond (eqb n ACCEPTED) (says (Opened 0) (Desk n)) (closed_by n)

unfoldable pub opening : List Kit → Held → Reply
opening kits d = record {
  heard = open_heard (open_number kits);
  held = record {
    words = d.words;
    table = table_of (desk_of kits);
    book = desk_book (windows (desk_of kits));
    state = initial (desk_rows (windows (desk_of kits)));
    ledger = blank_ledger (desk_book (windows (desk_of kits)));
  };
}

-- so many kits of `count` are given: the next is awaited, or the desk opens
unfoldable pub kit_given : ℕ → ℕ → Held → Reply
kit_given count given d = cond (ltb given count) (unchanged d (says (Giving count given) Nothing)) (opening (kits_in d.words count) d)

unfoldable pub kit_line : ℕ → ℕ → Supply → Held → Reply
kit_line count given s d =
    cond (eqb (number_for KIT_WORDS s) ACCEPTED) (kit_given count (suc given) (with_kit given s d)) (unchanged d (closed_by (number_for KIT_WORDS s)))

-- ---- the line of a scan
abbrev pub SCAN_WORDS : ℕ
SCAN_WORDS = 2

-- the number of the line after so many; after the largest it stays, which no desk lives to see
unfoldable pub following : ℕ → ℕ
following done = cond (ltb done MAX) (suc done) MAX

abbrev pub scan_of : Supply → Scan
scan_of s = record { hour = word_at s 0; barcode = word_at s 1 }

-- line i, a scan with this number, and the slip that prints at it
unfoldable pub scan_event : ℕ → ℕ → Option ℕ → Event
scan_event i number None = Scanned i number
scan_event i number (Some kit) = Stopped i number kit

unfoldable pub scanning : ℕ → Scan → Held → Reply
scanning i e d =
    let o = scanned_in d.book.rows (codes_in d.table) d.state e in
    let k = kit_of d.table e in
    record {
      heard = says (Opened i) (scan_event i o.number (slip_for k (verdict_in d.book d.state k).settled (verdict_in d.book o.state k).settled));
      held = record { words = d.words; table = d.table; book = d.book; state = o.state; ledger = ledger_with d.book (codes_in d.table) d.state d.ledger e };
    }

-- a bad line is passed over: it has its number and what is wrong with it
unfoldable pub scan_line : ℕ → Supply → Held → Reply
scan_line done s d =
    cond (eqb (number_for SCAN_WORDS s) ACCEPTED) (scanning (following done) (scan_of s) d)
    (unchanged d (says (Opened (following done)) (Scanned (following done) (number_for SCAN_WORDS s))))

-- ---- a line at each stage
unfoldable pub at_stage : Stage → Supply → Held → Reply
at_stage Awaited s d = unchanged d (count_line s)
at_stage (Giving count given) s d = kit_line count given s d
at_stage (Opened done) s d = scan_line done s d
at_stage Closed s d = unchanged d (says Closed Nothing)

-- a line without a word is passed over
unfoldable pub reply_to : Stage → List ℕ → Held → Reply
reply_to stage line d = cond (blank (line_supply line)) (unchanged d (says stage Nothing)) (at_stage stage (line_supply line) d)
