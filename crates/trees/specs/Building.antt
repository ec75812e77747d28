-- The words of a book of numbered properties, and the memory in which they are built. Definitions only.
use Rattle.std.specs.Prelude.{ℕ, ◌+◌, ◌*◌, ◌-◌, ◌≤◌, ◌<◌, ◌≡◌, List, [], ◌∷◌, ◌++◌, length, take}
use Rattle.numbers.specs.Limits.{MOST_ROWS, ROW_WORDS}
use Rattle.book.specs.Kinds.{word_of_kind}
use Rattle.trees.specs.Forest.{Head, Forest, one, ◌then◌, count, size, roots, Entry, entries}
use Rattle.trees.specs.declared.rows.RowWords.{RowWords}
use Rattle.trees.specs.declared.rows.Spot.{Spot}
use Rattle.book.specs.declared.kind.Kind.{Kind}
use Rattle.book.specs.declared.kind.Kind.TheVariants.{False, True, Atom, And, Or, Not, Implies, Historically, Once, Since}

-- the number of an atom, which other kinds do not have
abbrev pub atom_of : Kind → ℕ → ℕ
atom_of False a = 0
atom_of True a = 0
atom_of Atom a = a
atom_of And a = 0
atom_of Or a = 0
atom_of Not a = 0
atom_of Implies a = 0
atom_of Historically a = 0
atom_of Once a = 0
atom_of Since a = 0

-- an atom's number, or how many operands there are
abbrev pub arg_of : Kind → ℕ → ℕ → ℕ
arg_of False a n = n
arg_of True a n = n
arg_of Atom a n = a
arg_of And a n = n
arg_of Or a n = n
arg_of Not a n = n
arg_of Implies a n = n
arg_of Historically a n = n
arg_of Once a n = n
arg_of Since a n = n

abbrev pub row_words : Entry → List ℕ
row_words e = word_of_kind e.head.word ∷ arg_of e.head.word e.head.atom (length e.operands) ∷ e.head.lower ∷ e.head.upper ∷ []

unfoldable pub all_rows : List Entry → List ℕ
all_rows [] = []
all_rows (e ∷ es) = row_words e ++ all_rows es

unfoldable pub all_operands : List Entry → List ℕ
all_operands [] = []
all_operands (e ∷ es) = e.operands ++ all_operands es

-- the words of a file's book: four sections, each after its count
unfoldable pub words_of : Forest → Forest → List ℕ
words_of a g =
    let es = entries 0 (a then g) in
    (size (a then g) ∷ all_rows es) ++ ((length (all_operands es) ∷ all_operands es) ++ ((count a ∷ roots 0 a) ++ (count g ∷ roots (size a) g)))

-- ---- a memory holds the rows of properties, their operands, and the rows that no other has taken yet
pub record Mem (rs os ts : List ℕ) (o : ℕ) (f : Forest) : Type 0 where
  pub rows : take (ROW_WORDS * size f) rs ≡ all_rows (entries 0 f)
  pub operands : take o os ≡ all_operands (entries 0 f)
  pub tops : take (count f) ts ≡ roots 0 f

-- there is room for a row where it is made, and for the operands that it takes
pub record RoomFor (p : Spot) (rows operands tops : ℕ) : Type 0 where
  pub row_fits : ROW_WORDS * p.row + ROW_WORDS ≤ rows
  pub in_order : p.base ≤ p.height
  pub tops_there : p.height ≤ tops
  pub top_fits : p.base < tops
  pub operands_fit : p.operands + (p.height - p.base) ≤ operands

-- a row was made, of the rows from base to height that no other had taken
pub record Emitted (rs os ts : List ℕ) (p : Spot) (w : RowWords) (rs' os' ts' : List ℕ) : Type 0 where
  pub rows_size : length rs' ≡ length rs
  pub operands_size : length os' ≡ length os
  pub tops_size : length ts' ≡ length ts
  pub holds : (g f : Forest) (h : Head) → Mem rs os ts p.operands (g then f) → p.base ≡ count g → p.height ≡ count g + count f → p.row ≡ size (g then f)
      → w.kind ∷ w.arg ∷ w.lower ∷ w.upper ∷ [] ≡ row_words (record { head = h; operands = roots (size g) f })
      → Mem rs' os' ts' (p.operands + (p.height - p.base)) (g then one h f)

-- there is room for as many rows as a book may have
pub record Rooms (rows operands tops : ℕ) : Type 0 where
  pub rows_long : ROW_WORDS * MOST_ROWS ≤ rows
  pub operands_long : MOST_ROWS ≤ operands
  pub tops_long : MOST_ROWS ≤ tops
