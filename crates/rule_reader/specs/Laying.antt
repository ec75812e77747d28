-- Steps of building a book's rows as a text is read. No public contract but that of `make` cites these. Definitions only.
use Rattle.std.specs.Prelude.{ℕ, ◌+◌, ◌*◌, ◌≤◌, ◌<◌, ◌≡◌, false, List, [], ◌∷◌, length}
use Rattle.numbers.specs.Limits.{LONGEST_INPUT, MOST_ROWS, ROW_WORDS}
use Rattle.book.specs.Judging.{kind_in, arg_in, lower_in, upper_in}
use Rattle.trees.specs.Forest.{Forest, none, ◌then◌, count, size}
use Rattle.rule_scanner.specs.Reading.{Frame, State, Step, refused, going, ended, taken, Outcome, read, wrong, read_text}
use Rattle.rule_scanner.specs.Scanning.{refuses}
use Rattle.book.specs.Kinds.{word_of_kind}
use Rattle.trees.specs.Building.{Mem, Rooms}
use Rattle.book.specs.declared.kind.Kind.{Kind}
use Rattle.book.specs.declared.kind.Kind.TheVariants.{False, True, Atom, And, Or, Not, Implies, Historically, Once, Since}
use Rattle.rule_scanner.specs.declared.turns.Turn.{Turn}
use Rattle.rule_scanner.specs.declared.turns.Turn.TheVariants.{Refused, Go, Leaf, Open, Part, Close, Counted, Ended}
use Rattle.rule_reader.specs.declared.lay.Laid.{Laid}
use Rattle.rule_reader.specs.declared.lay.Site.{Site}

-- ---- the properties whose rows are made, in order: those before the open operators, then the parts of these so far
unfoldable pub laid : List Frame → Forest → Forest
laid [] x = x
laid (f ∷ fs) x = laid fs x then f.parts

abbrev pub forest : State → Forest
forest r = laid r.stack (r.before then r.here)

-- the open operators, each as the words of a row: where a row has its arg stands how many rows no other had taken when it opened
abbrev pub FramesIn : List ℕ → List Frame → Forest → Type 0
FramesIn m [] x = Unit {0}
FramesIn m (f ∷ fs) x =
    (kind_in m (length fs) ≡ word_of_kind f.head.word)
    × (arg_in m (length fs) ≡ count (laid fs x))
    × (lower_in m (length fs) ≡ f.head.lower)
    × (upper_in m (length fs) ≡ f.head.upper)
    × FramesIn m fs x

-- a memory is as far as a reader
pub record Lies (r : State) (l : Laid) (fm rs os ts : List ℕ) : Type 0 where
  pub mem : Mem rs os ts l.operands (forest r)
  pub height : l.height ≡ count (forest r)
  pub balance : l.operands + l.height ≡ size (forest r)
  pub frames : FramesIn fm r.stack (r.before then r.here)

abbrev pub LiesAfter : Step → Laid → List ℕ → List ℕ → List ℕ → List ℕ → Type 0
LiesAfter refused l fm rs os ts = Unit {0}
LiesAfter (going q) l fm rs os ts = Lies q l fm rs os ts
LiesAfter ended l fm rs os ts = Unit {0}

-- ---- what a turn asks for
-- rows and brackets that it adds
abbrev pub need : Turn → ℕ
need Refused = 0
need (Go m) = 0
need (Leaf w n) = 1
need (Open w l u) = 1
need Part = 0
need Close = 0
need (Counted n) = 0
need Ended = 0

-- a count stands where nothing is open and nothing of its section is there
abbrev pub Counting : Turn → List Frame → Forest → Type 0
Counting Refused o h = Unit {0}
Counting (Go m) o h = Unit {0}
Counting (Leaf w n) o h = Unit {0}
Counting (Open w l u) o h = Unit {0}
Counting Part o h = Unit {0}
Counting Close o h = Unit {0}
Counting (Counted n) o h = (o ≡ []) × (h ≡ none)
Counting Ended o h = Unit {0}

abbrev pub NotAtom : Kind → Type 0
NotAtom False = Unit {0}
NotAtom True = Unit {0}
NotAtom Atom = ⊥
NotAtom And = Unit {0}
NotAtom Or = Unit {0}
NotAtom Not = Unit {0}
NotAtom Implies = Unit {0}
NotAtom Historically = Unit {0}
NotAtom Once = Unit {0}
NotAtom Since = Unit {0}

abbrev pub NoAtoms : List Frame → Type 0
NoAtoms [] = Unit {0}
NoAtoms (f ∷ fs) = NotAtom f.head.word × NoAtoms fs

pub record Sane (t : Turn) (r : State) : Type 0 where
  pub first : r.second ≡ false → r.before ≡ none
  pub counting : Counting t r.stack r.here
  pub operators : NoAtoms r.stack

abbrev pub site_of : ℕ → ℕ → Laid → Site
site_of depth row l = record { depth = depth; row = row; laid = l }

-- a turn was taken at a site
pub record Lays (t : Turn) (s : Site) (fm rs os ts : List ℕ) (l' : Laid) (fm' rs' os' ts' : List ℕ) : Type 0 where
  pub holds : (r : State) → Sane t r → s.depth ≡ length r.stack → s.row ≡ size (forest r) → Lies r s.laid fm rs os ts
      → LiesAfter (taken t r.stack r.second r.left r.here r.before) l' fm' rs' os' ts'
  pub frames_size : length fm' ≡ length fm
  pub rows_size : length rs' ≡ length rs
  pub operands_size : length os' ≡ length os
  pub tops_size : length ts' ≡ length ts

-- the same of a turn that leaves the open operators alone, whatever they are
pub record LaysRows (t : Turn) (s : Site) (rs os ts : List ℕ) (l' : Laid) (rs' os' ts' : List ℕ) : Type 0 where
  pub over : (fm : List ℕ) → Lays t s fm rs os ts l' fm rs' os' ts'

-- ---- room for a row, and a frame for each open operator
-- a row can be made at a site
pub record Makable (s : Site) (rows operands tops : ℕ) : Type 0 where
  pub few : s.row < MOST_ROWS
  pub balance : s.laid.operands + s.laid.height ≡ s.row
  pub rooms : Rooms rows operands tops

-- and the innermost open operator can become one
pub record Closable (s : Site) (frames rows operands tops : ℕ) : Type 0 where
  pub makable : Makable s rows operands tops
  pub some_open : 0 < s.depth
  pub few_open : s.depth ≤ MOST_ROWS
  pub frames_long : ROW_WORDS * MOST_ROWS ≤ frames

-- a turn that is not refused can be taken at a site
pub record Takable (t : Turn) (s : Site) (frames rows operands tops : ℕ) : Type 0 where
  pub few : s.row + s.depth + need t ≤ MOST_ROWS
  pub balance : s.laid.operands + s.laid.height ≡ s.row
  pub stands : refuses t s.depth ≡ false
  pub frames_long : ROW_WORDS * MOST_ROWS ≤ frames
  pub rooms : Rooms rows operands tops

-- ---- texts whose rows there is room for
unfoldable pub Small : Outcome → Type 0
Small (read a g) = size a + size g ≤ MOST_ROWS
Small (wrong at) = ⊥

-- what is then built: so many operands
unfoldable pub Builds : Outcome → ℕ → List ℕ → List ℕ → List ℕ → Type 0
Builds (read a g) o rs os ts = Mem rs os ts o (a then g) × (o + (count a + count g) ≡ size a + size g)
Builds (wrong at) o rs os ts = Unit {0}

-- a text can be built: it is short, there is room for its open brackets, and it has few enough rows
pub record Buildable (s : List ℕ) (forms frames rows operands tops : ℕ) : Type 0 where
  pub short : length s ≤ LONGEST_INPUT
  pub forms_long : length s ≤ forms
  pub small : Small (read_text s)
  pub frames_long : ROW_WORDS * MOST_ROWS ≤ frames
  pub rooms : Rooms rows operands tops

-- and it was built
pub record Built (s : List ℕ) (o : ℕ) (rs os ts : List ℕ) : Type 0 where
  pub builds : Builds (read_text s) o rs os ts
  pub rooms : Rooms (length rs) (length os) (length ts)
