-- REFERENCE 11.5: what the program that reads rules prints, byte by byte. Definitions only.
use Rattle.std.specs.Prelude.{ℕ, cond, List, [], ◌∷◌, ◌++◌, length, ltb, eqb}
use Rattle.numbers.specs.Limits.{LONGEST_INPUT}
use Rattle.numbers.specs.Refusals.{ACCEPTED, BAD_WORD, PAST_LIMIT}
use Rattle.text.specs.Words.{space}
use Rattle.text.specs.Decimals.{decimal}
use Rattle.trees.specs.Building.{words_of}
use Rattle.rule_scanner.specs.Reading.{Outcome, read, wrong, read_text}
use Rattle.rule_reader.specs.Rules.{read_book}
use Rattle.book_writer.specs.Layout.{book_word, ended, book_said}

-- the line of a number; 13 has its place
unfoldable pub refused_line : ℕ → ℕ → List ℕ
refused_line n place = cond (eqb n BAD_WORD) ((book_word ++ decimal n) ++ ((space ∷ []) ++ (decimal place ++ ended))) ((book_word ++ decimal n) ++ ended)

-- the words of the book that a text is read as
unfoldable pub words_read : Outcome → List ℕ
words_read (read a g) = words_of a g
words_read (wrong at) = []

-- the book of an accepted text after its line, else the refusal
unfoldable pub answer_within : List ℕ → List ℕ
answer_within s = cond (eqb (read_book s).loaded.number ACCEPTED) (refused_line ACCEPTED 0 ++ book_said (words_read (read_text s))) (refused_line (read_book s).loaded.number (read_book s).place)

-- a text that is too long is not read
unfoldable pub answer_to : List ℕ → List ℕ
answer_to s = cond (ltb LONGEST_INPUT (length s)) (refused_line PAST_LIMIT 0) (answer_within s)
