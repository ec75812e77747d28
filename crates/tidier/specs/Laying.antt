-- Steps of laying the rows of a book after a step. No public contract but that of `lay_all` cites these. Definitions only.
use Rattle.std.specs.Prelude.{ℕ, ◌+◌, ◌-◌, ◌/◌, ◌≤◌, ◌<◌, ◌≡◌, Bool, true, false, ◌&&◌, List, [], ◌∷◌, map, length, get_or, take, eqb}
use Rattle.numbers.specs.Limits.{MOST_ROWS, ROW_WORDS}
use Rattle.numbers.specs.Refusals.{ACCEPTED}
use Rattle.pmtl.specs.Book.{Rows}
use Rattle.book.specs.Judging.{kind_in, arg_in, lower_in, upper_in, loaded}
use Rattle.trees.specs.Forest.{Head, head_of, Forest, none, one, ◌then◌, count, size, roots}
use Rattle.book.specs.Kinds.{word_of_kind}
use Rattle.trees.specs.Building.{row_words, Mem, Rooms}
use Rattle.trees.specs.Books.{joined}
use Rattle.trees.specs.Walking.{Held, Walk, rows_said}
use Rattle.trees.specs.declared.rows.RowWords.{RowWords}
use Rattle.book.specs.declared.kind.Kind.TheVariants.{Or, Once}
use Rattle.tidying.specs.declared.Form.{Form}
use Rattle.tidying.specs.declared.Form.TheVariants.{Nots, Single, Implication, History, Unknown}
use Rattle.tidying.specs.declared.Step.{Step}
use Rattle.tidying.specs.Steps.{parts_at, fits, not_of, stepped_at, all_after}
use Rattle.tidier.specs.declared.lay.Laid.{Laid}
use Rattle.tidier.specs.declared.lay.Site.{Site}

-- a row of an accepted book
pub record HeldAt (rows operands : List ℕ) (row : ℕ) : Type 0 where
  pub held : Held rows operands
  pub inside : row < length rows / ROW_WORDS

-- and a step that fits
pub record Fitted (rows operands : List ℕ) (s : Step) (row : ℕ) : Type 0 where
  pub at : HeldAt rows operands row
  pub fit : fits (rows_said rows operands) s ≡ true

-- ---- what a step does at a row
-- its form there: none but at the row that it names
unfoldable pub form_at : Step → ℕ → Form
form_at s r = elim (eqb r s.row) [ true ↦ s.form | false ↦ Unknown ]

-- the row that is laid in its place
abbrev pub target_by : Form → Rows → ℕ → ℕ
target_by Nots b r = get_or (parts_at b (get_or (parts_at b r) 0 0)) 0 0
target_by Single b r = get_or (parts_at b r) 0 0
target_by Implication b r = r
target_by History b r = r
target_by Unknown b r = r

unfoldable pub target_of : Rows → Step → ℕ → ℕ
target_of b s r = target_by (form_at s r) b r

-- the row is not dropped
abbrev pub Stays : Form → Type 0
Stays Nots = ⊥
Stays Single = ⊥
Stays Implication = Unit {0}
Stays History = Unit {0}
Stays Unknown = Unit {0}

-- a Not stands over its first part
abbrev pub over_first : Form → Bool
over_first Nots = false
over_first Single = false
over_first Implication = true
over_first History = true
over_first Unknown = false

unfoldable pub over_part : Form → ℕ → ℕ → Bool
over_part form left count = over_first form && eqb left count

-- its head and kind after the step
abbrev pub head_after : Form → Head → Head
head_after Nots h = h
head_after Single h = h
head_after Implication h = head_of Or 0 0 0
head_after History h = head_of Once 0 h.lower h.upper
head_after Unknown h = h

abbrev pub kind_after : Form → ℕ → ℕ
kind_after Nots k = k
kind_after Single k = k
kind_after Implication k = word_of_kind Or
kind_after History k = word_of_kind Once
kind_after Unknown k = k

-- a Not stands over all of it
abbrev pub over_all : Form → Bool
over_all Nots = false
over_all Single = false
over_all Implication = false
over_all History = true
over_all Unknown = false

-- a tree, with a Not over it or not
unfoldable pub negated_if : Bool → Forest → Forest
negated_if true f = not_of f
negated_if false f = f

-- the trees that are laid for its parts
unfoldable pub first_negated : Bool → List Forest → List Forest
first_negated z [] = []
first_negated z (f ∷ fs) = negated_if z f ∷ fs

unfoldable pub laid_parts : Rows → Step → ℕ → List Forest
laid_parts b s r = first_negated (over_first (form_at s r)) (map (stepped_at b s) (parts_at b r))

-- ---- memories
-- what is laid are these properties; where they have too many rows, only that is known
pub record Small (f : Forest) (l : Laid) (rs os ts : List ℕ) : Type 0 where
  pub mem : Mem rs os ts l.operands f
  pub rows : l.rows ≡ size f
  pub height : l.height ≡ count f
  pub balance : l.operands + l.height ≡ size f

pub record Lies (f : Forest) (l : Laid) (rs os ts : List ℕ) : Type 0 where
  pub small : size f ≤ MOST_ROWS → Small f l rs os ts
  pub large : MOST_ROWS < size f → MOST_ROWS < l.rows

abbrev pub full_laid : Laid
full_laid = record { rows = MOST_ROWS + 1; operands = 0; height = 0 }

-- something can be laid
pub record Layable (l : Laid) (rows operands tops : ℕ) : Type 0 where
  pub few : l.rows ≤ MOST_ROWS + 1
  pub balance : l.operands + l.height ≤ l.rows
  pub rooms : Rooms rows operands tops

-- and after something was laid
pub record Kept (rs os ts : List ℕ) (l' : Laid) (rs' os' ts' : List ℕ) : Type 0 where
  pub few : l'.rows ≤ MOST_ROWS + 1
  pub balance : l'.operands + l'.height ≤ l'.rows
  pub rows_size : length rs' ≡ length rs
  pub operands_size : length os' ≡ length os
  pub tops_size : length ts' ≡ length ts

-- so many properties lie before f, where that is known
abbrev pub Base : ℕ → Forest → Forest → Type 0
Base base g f = size (g then f) ≤ MOST_ROWS → base ≡ count g

-- a row was laid
pub record Adds (l : Laid) (base : ℕ) (w : RowWords) (rs os ts : List ℕ) (l' : Laid) (rs' os' ts' : List ℕ) : Type 0 where
  pub kept : Kept rs os ts l' rs' os' ts'
  pub holds : (g f : Forest) (h : Head) → Base base g f → Lies (g then f) l rs os ts → w.kind ∷ w.arg ∷ w.lower ∷ w.upper ∷ [] ≡ row_words (record { head = h; operands = roots (size g) f })
      → Lies (g then one h f) l' rs' os' ts'

-- a Not was laid over the last property, or nothing was
pub record AddsNot (over : Bool) (l : Laid) (rs os ts : List ℕ) (l' : Laid) (rs' os' ts' : List ℕ) : Type 0 where
  pub kept : Kept rs os ts l' rs' os' ts'
  pub holds : (g f : Forest) → count f ≡ 1 → Lies (g then f) l rs os ts → Lies (g then negated_if over f) l' rs' os' ts'

-- ---- a walk
-- a site of a walk that can go on
pub record Visitable (rows operands : List ℕ) (v : Site) (rs os ts : ℕ) : Type 0 where
  pub walk : Walk rows operands v.row v.left
  pub fit : fits (rows_said rows operands) v.step ≡ true
  pub stays : Stays (form_at v.step v.row)
  pub layable : Layable v.laid rs os ts

-- the parts of a row that were laid before
abbrev pub done_parts : Rows → Site → Forest
done_parts b v = joined (take (length (parts_at b v.row) - v.left) (laid_parts b v.step v.row))

-- what is left of a row was laid: then all of it lies there
pub record Lays (b : Rows) (v : Site) (rs os ts : List ℕ) (l' : Laid) (rs' os' ts' : List ℕ) : Type 0 where
  pub kept : Kept rs os ts l' rs' os' ts'
  pub holds : (g : Forest) → Base v.base g none → Lies (g then done_parts b v) v.laid rs os ts → Lies (g then stepped_at b v.step v.row) l' rs' os' ts'

-- an accepted book, a step that fits, and room
pub record Steppable (words : List ℕ) (s : Step) (rs os ts : ℕ) : Type 0 where
  pub ok : (loaded words).number ≡ ACCEPTED
  pub fit : fits (loaded words).book.rows s ≡ true
  pub rooms : Rooms rs os ts

-- its properties were laid as they are after the step
pub record LaysAll (words : List ℕ) (s : Step) (l : Laid) (rs os ts : List ℕ) : Type 0 where
  pub lies : Lies (all_after (loaded words).book s) l rs os ts
  pub rooms : Rooms (length rs) (length os) (length ts)

-- a row's words after a step
unfoldable pub words_at : List ℕ → Form → ℕ → RowWords
words_at rows form r = record { kind = kind_after form (kind_in rows r); arg = arg_in rows r; lower = lower_in rows r; upper = upper_in rows r }

-- a row can be laid, all parts of which are
pub record Endable (rows : List ℕ) (v : Site) (rs os ts : ℕ) : Type 0 where
  pub inside : v.row < length rows / ROW_WORDS
  pub layable : Layable v.laid rs os ts

-- and was
pub record Ends (rows : List ℕ) (v : Site) (rs os ts : List ℕ) (l' : Laid) (rs' os' ts' : List ℕ) : Type 0 where
  pub kept : Kept rs os ts l' rs' os' ts'
  pub holds : (g f : Forest) (h : Head) → Base v.base g f → Lies (g then f) v.laid rs os ts
      → (let w = words_at rows (form_at v.step v.row) v.row in w.kind ∷ w.arg ∷ w.lower ∷ w.upper ∷ [] ≡ row_words (record { head = h; operands = roots (size g) f }))
      → Lies (g then negated_if (over_all (form_at v.step v.row)) (one h f)) l' rs' os' ts'
