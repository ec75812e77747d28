-- What the functions of a desk's lines owe. Definitions only.
use Rattle.std.specs.Prelude.{ℕ, ◌≤◌, ◌<◌, ◌≡◌, List, length}
use Rattle.numbers.specs.Limits.{MOST_KITS}
use Rattle.text.specs.Words.{Supply}
use Rattle.memory.specs.Memory.{book_of, state_of, ledger_of}
use Rattle.buffer_writer.specs.Buffer.{handed, in_buffer}
use Rattle.desk.specs.Standing.{Stands}
use Rattle.desk_lines.specs.declared.Stage.{Stage}
use Rattle.desk_lines.specs.declared.Stage.TheVariants.{Awaited, Giving, Opened, Closed}
use Rattle.desk_lines.specs.declared.Event as of-event
use Rattle.desk_lines.specs.declared.Event.TheVariants as code
use Rattle.desk_lines.specs.declared.Heard.{Heard}
use Rattle.desk_lines.specs.declared.Answered.{Answered}
use Rattle.desk_lines.specs.Dialogue.{Event, Held, Reply, scan_event, scan_line}
use Rattle.desk_lines.specs.Dialogue.Event.{Nothing, Desk}
use Rattle.desk_lines.specs.Dialogue as of-dialogue
use Rattle.desk_lines.specs.Bytes.{reply_bytes}
use Rattle.desk_lines.specs.Longest.{LONGEST_ANSWER}

-- what is said, of the code's event
abbrev pub event_of : of-event.Event → Event
event_of code.Nothing = Nothing
event_of (code.Desk n) = Desk n
event_of (code.Scan i n slip) = scan_event i n slip

abbrev pub heard_of : Heard → of-dialogue.Heard
heard_of r = record { stage = r.stage; event = event_of r.event }

-- what stays, in words, a table and a monitor's memory
abbrev pub held_of : List ℕ → List ℕ → List ℕ → Held
held_of words table m = record { words = words; table = table; book = book_of m; state = state_of m; ledger = ledger_of m }

-- where kits are given, another is to come, and there are not too many
abbrev pub Counts : Stage → Type 0
Counts Awaited = Unit {0}
Counts (Giving count given) = (given < count) × (count ≤ MOST_KITS)
Counts (Opened done) = Unit {0}
Counts Closed = Unit {0}

-- so it is before every line
pub record Good (stage : Stage) (table m : List ℕ) : Type 0 where
  pub counts : Counts stage
  pub stands : Stands table m

-- a function did what a line does: it handed back r and left the words, the table and the monitor's memory so
pub record Does (reply : Reply) (r : Heard) (words table m : List ℕ) : Type 0 where
  pub heard : heard_of r ≡ reply.heard
  pub held : held_of words table m ≡ reply.held
  pub good : Good r.stage table m

-- the same of the line of a scan, which leaves the words of the kits as they are, whatever they are
abbrev pub DoesScan : ℕ → Supply → List ℕ → List ℕ → Heard → List ℕ → Type 0
DoesScan done s table m r m' = (words : List ℕ) → Does (scan_line done s (held_of words table m)) r words table m'

-- and wrote what is said after it, from the start of `out`; it is never longer than the longest
pub record Answers (reply : Reply) (r : Answered) (words table m out out' : List ℕ) : Type 0 where
  pub stage : r.stage ≡ reply.heard.stage
  pub held : held_of words table m ≡ reply.held
  pub written : handed r.length out' ≡ in_buffer out (reply_bytes reply)
  pub fits : length (reply_bytes reply) ≤ LONGEST_ANSWER
  pub good : Good r.stage table m
