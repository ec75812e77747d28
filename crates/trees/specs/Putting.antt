-- The words of a book, put together from the memory in which its rows were built. Definitions only.
use Rattle.std.specs.Prelude.{ℕ, ◌+◌, ◌*◌, ◌≤◌, ◌≡◌, List, ◌∷◌, ◌++◌, take, length}
use Rattle.numbers.specs.Limits.{MOST_ROWS, ROW_WORDS}
use Rattle.lists.specs.Lists.{part}
use Rattle.book.specs.declared.check.Places.{Places}

-- the most words that are built: each row is an operand or a property, and there are four counts
abbrev pub MOST_WORDS : ℕ
MOST_WORDS = ROW_WORDS * MOST_ROWS + MOST_ROWS + 4

-- a section was put after others
pub record Joined (x s y : List ℕ) : Type 0 where
  pub is : y ≡ x ++ s

-- so many rows, operands and properties stand in the memories, and there is room for their words
pub record Lined (c : Places) (words rows operands tops : ℕ) : Type 0 where
  pub few : c.rows ≤ MOST_ROWS
  pub balance : c.operands + (c.assumes + c.guarantees) ≡ c.rows
  pub words_long : MOST_WORDS ≤ words
  pub rows_long : ROW_WORDS * MOST_ROWS ≤ rows
  pub operands_long : MOST_ROWS ≤ operands
  pub tops_long : MOST_ROWS ≤ tops

-- the four sections stand in the words up to `end`
pub record SectionsPut (c : Places) (rs os ts words : List ℕ) (end : ℕ) : Type 0 where
  pub inside : end ≤ length words
  pub are : take end words ≡ (c.rows ∷ part 0 (ROW_WORDS * c.rows) rs) ++ ((c.operands ∷ part 0 c.operands os) ++ ((c.assumes ∷ part 0 c.assumes ts) ++ (c.guarantees ∷ part c.assumes c.guarantees ts)))
