-- REFERENCE 11.5: a book's words in text, as they are laid out in 8.6. Definitions only.
use Rattle.std.specs.Prelude.{ℕ, zero, suc, ◌/◌, List, [], ◌∷◌, ◌++◌, length, get_or}
use Rattle.numbers.specs.Limits.{ROW_WORDS}
use Rattle.numbers.specs.Refusals.{WRONG_LENGTH}
use Rattle.text.specs.Words.{space, line_feed}
use Rattle.text.specs.Decimals.{decimal}
use Rattle.book.specs.Reading.{Read, got, refused, Sections, sections}
use Rattle.book.specs.Judging.{kind_in, arg_in, lower_in, upper_in}

-- the word book and a space, and what a line ends with
abbrev pub book_word : List ℕ
book_word = 98 ∷ 111 ∷ 111 ∷ 107 ∷ space ∷ []

abbrev pub ended : List ℕ
ended = line_feed ∷ []

-- the first n words, each after a space
unfoldable pub word_line : List ℕ → ℕ → List ℕ
word_line ws zero = []
word_line ws (suc i) = word_line ws i ++ (space ∷ decimal (get_or ws i 0))

-- a row on its line, and the lines of the first n rows
unfoldable pub row_line : List ℕ → ℕ → List ℕ
row_line rows r =
    decimal (kind_in rows r) ++ ((space ∷ decimal (arg_in rows r)) ++ ((space ∷ decimal (lower_in rows r)) ++ ((space ∷ decimal (upper_in rows r)) ++ (line_feed ∷ []))))

unfoldable pub row_lines : List ℕ → ℕ → List ℕ
row_lines rows zero = []
row_lines rows (suc i) = row_lines rows i ++ row_line rows i

-- a section on its line, its count first
unfoldable pub section_line : List ℕ → List ℕ
section_line ws = decimal (length ws) ++ (word_line ws (length ws) ++ (line_feed ∷ []))

-- the count of the rows and the rows, then the other sections
unfoldable pub book_text : Sections → List ℕ
book_text s =
    decimal (length s.rows / ROW_WORDS)
    ++ ((line_feed ∷ []) ++ (row_lines s.rows (length s.rows / ROW_WORDS) ++ (section_line s.operands ++ (section_line s.assumes ++ section_line s.guarantees))))

-- what words say as a book; nothing where they are none
unfoldable pub text_of : Read Sections → List ℕ
text_of (got s ws) = book_text s
text_of (refused n) = []

unfoldable pub book_said : List ℕ → List ℕ
book_said words = text_of (sections WRONG_LENGTH words)
