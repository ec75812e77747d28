-- Steps of walking the rows of an accepted book, in its words. Definitions only.
use Rattle.std.specs.Prelude.{ℕ, ◌/◌, ◌≤◌, ◌<◌, ◌≡◌, List, [], length, get_or}
use Rattle.numbers.specs.Limits.{ROW_WORDS}
use Rattle.numbers.specs.Refusals.{ACCEPTED}
use Rattle.pmtl.specs.Book.{Rows}
use Rattle.book.specs.Rows.{count_of}
use Rattle.book.specs.Judging.{kind_in, arg_in, judged, book_in}
use Rattle.book.specs.Placing.{sections_of}
use Rattle.book.specs.Private.{Few}

-- these are the rows and the operands of an accepted book
pub record Held (rows operands : List ℕ) : Type 0 where
  pub assumes : List ℕ
  pub guarantees : List ℕ
  pub few : Few (sections_of rows operands assumes guarantees)
  pub ok : judged (sections_of rows operands assumes guarantees) ≡ ACCEPTED

-- a row of an accepted book, whatever its operands
pub record HeldRow (rows : List ℕ) (row : ℕ) : Type 0 where
  pub operands : List ℕ
  pub held : Held rows operands
  pub inside : row < length rows / ROW_WORDS

-- a row of an accepted book, and so many of its parts that are still to be written
pub record Walk (rows operands : List ℕ) (row left : ℕ) : Type 0 where
  pub held : Held rows operands
  pub inside : row < length rows / ROW_WORDS
  pub some : left ≤ count_of (kind_in rows row) (arg_in rows row)

-- rows of an accepted book that are properties
pub record Properties (rows operands properties : List ℕ) : Type 0 where
  pub held : Held rows operands
  pub inside : (i : ℕ) → i < length properties → get_or properties i 0 < length rows / ROW_WORDS

-- the rows that the words say
unfoldable pub rows_said : List ℕ → List ℕ → Rows
rows_said rows operands = (book_in (sections_of rows operands [] [])).rows
