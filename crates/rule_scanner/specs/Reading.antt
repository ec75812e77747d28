-- The reader of written properties, symbol by symbol: 02, Ask 3. Definitions only.
use Rattle.std.specs.Prelude.{ℕ, zero, suc, Bool, true, false, List, [], ◌∷◌}
use Rattle.numbers.specs.Limits.{MAX}
use Rattle.rule_scanner.specs.Symbols.{Placed, symbols}
use Rattle.trees.specs.Forest.{Head, head_of, Forest, none, one, ◌then◌}
use Rattle.book.specs.declared.kind.Kind.{Kind}
use Rattle.book.specs.declared.kind.Kind.TheVariants as word
use Rattle.rule_scanner.specs.declared.symbols.Symbol.{Symbol}
use Rattle.rule_scanner.specs.declared.symbols.Symbol.TheVariants as symbol
use Rattle.rule_scanner.specs.declared.turns.Mode.{Mode}
use Rattle.rule_scanner.specs.declared.turns.Mode.TheVariants as mode
use Rattle.rule_scanner.specs.declared.turns.Form.{Form}
use Rattle.rule_scanner.specs.declared.turns.Form.TheVariants as form
use Rattle.rule_scanner.specs.declared.turns.Turn.{Turn}
use Rattle.rule_scanner.specs.declared.turns.Turn.TheVariants.{Refused, Go, Leaf, Open, Part, Close, Counted, Ended}

-- a line of the table below: what each symbol does
abbrev pub on : (Kind → Turn) → (ℕ → Turn) → Turn → Turn → Turn → Turn → Turn → Turn → Turn → Symbol → Turn
on name number left right opens shuts comma star end (symbol.Name w) = name w
on name number left right opens shuts comma star end (symbol.Number n) = number n
on name number left right opens shuts comma star end symbol.Left = left
on name number left right opens shuts comma star end symbol.Right = right
on name number left right opens shuts comma star end symbol.Opens = opens
on name number left right opens shuts comma star end symbol.Closes = shuts
on name number left right opens shuts comma star end symbol.Comma = comma
on name number left right opens shuts comma star end symbol.Star = star
on name number left right opens shuts comma star end symbol.Bad = Refused
on name number left right opens shuts comma star end symbol.End = end

-- what the word does that a property begins with
abbrev pub begun : Kind → Turn
begun word.False = Leaf word.False 0
begun word.True = Leaf word.True 0
begun word.Atom = Go mode.Atom
begun word.And = Go (mode.Open word.And 0 0)
begun word.Or = Go (mode.Open word.Or 0 0)
begun word.Not = Go (mode.Open word.Not 0 0)
begun word.Implies = Go (mode.Open word.Implies 0 0)
begun word.Historically = Go (mode.Left word.Historically)
begun word.Once = Go (mode.Left word.Once)
begun word.Since = Go (mode.Left word.Since)

-- after a part: a comma where a further one may follow, the closing bracket where none has to
abbrev pub parting : Form → Turn
parting form.Many = Part
parting form.One = Refused
parting form.Two = Part

abbrev pub closing : Form → Turn
closing form.Many = Close
closing form.One = Close
closing form.Two = Refused

abbrev pub no : {A : Type 0} → A → Turn
no x = Refused

-- what a symbol does, by what is wanted and by what the innermost open operator still takes
abbrev pub turn : Mode → Form → Symbol → Turn
--                           name  number                         [                   ]                     (             )           ,                     *                       end
turn mode.Count f = on no (λ n. Counted n) Refused Refused Refused Refused Refused Refused Refused
turn mode.Begin f = on begun no Refused Refused Refused Refused Refused Refused Refused
turn mode.First f = on begun no Refused Refused Refused Close Refused Refused Refused
turn mode.After f = on no no Refused Refused Refused (closing f) (parting f) Refused Refused
turn mode.Atom f = on no (λ n. Leaf word.Atom n) Refused Refused Refused Refused Refused Refused Refused
turn (mode.Left w) f = on no no (Go (mode.Lower w)) Refused Refused Refused Refused Refused Refused
turn (mode.Lower w) f = on no (λ n. Go (mode.Comma w n)) Refused Refused Refused Refused Refused Refused Refused
turn (mode.Comma w l) f = on no no Refused Refused Refused Refused (Go (mode.Upper w l)) Refused Refused
turn (mode.Upper w l) f = on no (λ n. Go (mode.Right w l n)) Refused Refused Refused Refused Refused (Go (mode.Right w l MAX)) Refused
turn (mode.Right w l u) f = on no no Refused (Go (mode.Open w l u)) Refused Refused Refused Refused Refused
turn (mode.Open w l u) f = on no no Refused Refused (Open w l u) Refused Refused Refused Refused
turn mode.Over f = on no no Refused Refused Refused Refused Refused Refused Ended

-- what an operator takes as its bracket opens, and what is wanted then; what it takes after a comma
abbrev pub form_of : Kind → Form
form_of word.False = form.Many
form_of word.True = form.Many
form_of word.Atom = form.Many
form_of word.And = form.Many
form_of word.Or = form.Many
form_of word.Not = form.One
form_of word.Implies = form.Two
form_of word.Historically = form.One
form_of word.Once = form.One
form_of word.Since = form.Two

abbrev pub first_mode : Form → Mode
first_mode form.Many = mode.First
first_mode form.One = mode.Begin
first_mode form.Two = mode.Begin

abbrev pub parted : Form → Form
parted form.Many = form.Many
parted form.One = form.One
parted form.Two = form.One

-- ---- a reader's state
-- an open operator: its head, what it still takes, and its parts so far
pub record Frame : Type 0 where
  pub head : Head
  pub form : Form
  pub parts : Forest

abbrev pub frame_of : Head → Form → Forest → Frame
frame_of h f p = record { head = h; form = f; parts = p }

-- what is wanted; the open operators, the innermost first; whether the guarantees are being read; how many properties of
-- their section are still to come, those of it so far, and those of the section before
pub record State : Type 0 where
  pub mode : Mode
  pub stack : List Frame
  pub second : Bool
  pub left : ℕ
  pub here : Forest
  pub before : Forest

abbrev pub state_of : Mode → List Frame → Bool → ℕ → Forest → Forest → State
state_of m o s n h b = record { mode = m; stack = o; second = s; left = n; here = h; before = b }

abbrev pub start : State
start = state_of mode.Count [] false 0 none none

abbrev pub form_in : List Frame → Form
form_in [] = form.One
form_in (f ∷ fs) = f.form

-- between two properties of a file, where so many of the section are still to come: after the assumes the guarantees' count is wanted, after these the end
abbrev pub between : Bool → ℕ → Forest → Forest → State
between s (suc n) h b = state_of mode.Begin [] s (suc n) h b
between false zero h b = state_of mode.Count [] true 0 none h
between true zero h b = state_of mode.Over [] true 0 h b

-- a property is complete: it is a part of the innermost open operator, or one of its section
abbrev pub completed : Forest → List Frame → Bool → ℕ → Forest → Forest → State
completed t (f ∷ fs) s n h b = state_of mode.After (frame_of f.head f.form (f.parts then t) ∷ fs) s n h b
completed t [] s zero h b = between s zero (h then t) b
completed t [] s (suc n) h b = between s n (h then t) b

-- what a symbol makes of a reader
pub data Step : Type 0 where
  refused : Step
  going : State → Step
  ended : Step

abbrev pub next_part : List Frame → Bool → ℕ → Forest → Forest → Step
next_part (f ∷ fs) s n h b = going (state_of mode.Begin (frame_of f.head (parted f.form) f.parts ∷ fs) s n h b)
next_part [] s n h b = refused

abbrev pub closed : List Frame → Bool → ℕ → Forest → Forest → Step
closed (f ∷ fs) s n h b = going (completed (one f.head f.parts) fs s n h b)
closed [] s n h b = refused

-- the end stands where no operator is open
abbrev pub finished : List Frame → Step
finished [] = ended
finished (f ∷ fs) = refused

abbrev pub taken : Turn → List Frame → Bool → ℕ → Forest → Forest → Step
taken Refused o s n h b = refused
taken (Go m) o s n h b = going (state_of m o s n h b)
taken (Leaf w a) o s n h b = going (completed (one (head_of w a 0 0) none) o s n h b)
taken (Open w l u) o s n h b = going (state_of (first_mode (form_of w)) (frame_of (head_of w 0 l u) (form_of w) none ∷ o) s n h b)
taken Part o s n h b = next_part o s n h b
taken Close o s n h b = closed o s n h b
taken (Counted m) o s n h b = going (between s m none b)
taken Ended o s n h b = finished o

unfoldable pub move : State → Symbol → Step
move r y = taken (turn r.mode (form_in r.stack) y) r.stack r.second r.left r.here r.before

-- ---- reading
-- the properties of a file; or the place where the first symbol begins that cannot stand there
pub data Outcome : Type 0 where
  read : Forest → Forest → Outcome
  wrong : ℕ → Outcome

abbrev pub onward : Step → State → ℕ → (State → Outcome) → Outcome
onward refused r at k = wrong at
onward (going q) r at k = k q
onward ended r at k = read r.before r.here

-- the end stands last, so that symbols do not run out
unfoldable pub reading : State → List Placed → Outcome
reading r [] = wrong 0
reading r (p ∷ ps) = onward (move r p.symbol) r p.at (λ q. reading q ps)

-- what a text says
unfoldable pub read_text : List ℕ → Outcome
read_text s = reading start (symbols s)
