-- What a kit desk writes, byte by byte. Definitions only.
use Rattle.std.specs.Prelude.{ℕ, zero, suc, ◌+◌, cond, List, [], ◌∷◌, ◌++◌, eqb}
use Rattle.numbers.specs.Refusals.{ACCEPTED, WRONG_LENGTH}
use Rattle.text.specs.Words.{space, line_feed, digit0}
use Rattle.text.specs.Decimals.{decimal}
use Rattle.pmtl.specs.Book.{Book}
use Rattle.pmtl.specs.Monitor.{State}
use Rattle.pmtl.specs.Answer.{bit_of, digit_of}
use Rattle.property_answers.specs.declared.Verdict.{Verdict}
use Rattle.property_answers.specs.Verdict.{verdict_in}
use Rattle.desk.specs.Standing.{kit_count}
use Rattle.desk_lines.specs.declared.Stage.{Stage}
use Rattle.desk_lines.specs.declared.Stage.TheVariants.{Awaited, Giving, Opened, Closed}
use Rattle.desk_lines.specs.Dialogue.{Event, Reply}
use Rattle.desk_lines.specs.Dialogue.Event.{Nothing, Desk, Scanned, Stopped}

-- ---- the words desk, slip and end are fixed, and lines end in a line feed
abbrev pub desk_word : List ℕ
desk_word = 100 ∷ 101 ∷ 115 ∷ 107 ∷ 32 ∷ []

abbrev pub slip_word : List ℕ
slip_word = 115 ∷ 108 ∷ 105 ∷ 112 ∷ 32 ∷ []

abbrev pub end_line : List ℕ
end_line = 101 ∷ 110 ∷ 100 ∷ line_feed ∷ []

abbrev pub ended : List ℕ
ended = line_feed ∷ []

-- a word, a number and a line feed
unfoldable pub numbered : List ℕ → ℕ → List ℕ
numbered word n = word ++ decimal n ++ ended

-- ---- the answers of the kits, as in the report: value, early and settled, of which 2 is open
unfoldable pub kit_word : Verdict → List ℕ
kit_word v = space ∷ (digit0 + bit_of v.value) ∷ (digit0 + digit_of v.early) ∷ (digit0 + digit_of v.settled) ∷ []

-- of the first n kits
unfoldable pub kit_words : Book → State → ℕ → List ℕ
kit_words b st zero = []
kit_words b st (suc k) = kit_words b st k ++ kit_word (verdict_in b st k)

-- ---- what is said after a line
-- the line of a scan: its number and its refusal; if 0, the answers of the kits
unfoldable pub scan_bytes : ℕ → ℕ → List ℕ → List ℕ
scan_bytes i n answers = decimal i ++ space ∷ decimal n ++ cond (eqb n ACCEPTED) answers [] ++ ended

-- where these are the answers of the kits
unfoldable pub event_bytes : Event → List ℕ → List ℕ
event_bytes Nothing answers = []
event_bytes (Desk n) answers = numbered desk_word n
event_bytes (Scanned i n) answers = scan_bytes i n answers
event_bytes (Stopped i n kit) answers = scan_bytes i n answers ++ numbered slip_word kit

abbrev pub reply_bytes : Reply → List ℕ
reply_bytes r = event_bytes r.heard.event (kit_words r.held.book r.held.state (kit_count r.held.table))

-- what is said at the end of the input: kits that end early are 1; nothing follows a refused desk
unfoldable pub last_bytes : Stage → List ℕ
last_bytes Awaited = numbered desk_word WRONG_LENGTH
last_bytes (Giving count given) = numbered desk_word WRONG_LENGTH
last_bytes (Opened done) = end_line
last_bytes Closed = []
