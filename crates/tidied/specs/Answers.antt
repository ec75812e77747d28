-- REFERENCE 12.4: what the program that tidies a book prints, byte by byte. Definitions only.
use Rattle.std.specs.Prelude.{ℕ, ◌*◌, ◌/◌, cond, List, [], ◌∷◌, ◌++◌, length, take, drop, ltb, eqb}
use Rattle.numbers.specs.Limits.{LONGEST_INPUT, ROW_WORDS}
use Rattle.numbers.specs.Refusals.{ACCEPTED, PAST_LIMIT}
use Rattle.text.specs.Words.{space, supply}
use Rattle.text.specs.Decimals.{decimal}
use Rattle.text_reader.specs.Reads.{left_in}
use Rattle.book.specs.Reading.{Read, got, refused, Sections, sections}
use Rattle.book.specs.Judging.{loaded_from}
use Rattle.book_writer.specs.Layout.{book_word, ended, book_said}
use Rattle.tidying.specs.Tidied as tidying
use Rattle.tidying.specs.Tidied.{Tidying, tidied, steps_of}

-- the words tidy and stop, each before a space
abbrev pub tidy_word : List ℕ
tidy_word = 116 ∷ 105 ∷ 100 ∷ 121 ∷ space ∷ []

abbrev pub stop_word : List ℕ
stop_word = 115 ∷ 116 ∷ 111 ∷ 112 ∷ space ∷ []

-- such a word and a number on a line
unfoldable pub number_line : List ℕ → ℕ → List ℕ
number_line word n = word ++ (decimal n ++ ended)

-- the refusal of a step
unfoldable pub refusal_line : ℕ → ℕ → List ℕ
refusal_line n step = tidy_word ++ (decimal n ++ ((space ∷ []) ++ (decimal step ++ ended)))

-- what tidying came to: the new book, or the refusal
unfoldable pub tidy_said : Tidying → List ℕ
tidy_said (tidying.done ws) = number_line tidy_word ACCEPTED ++ book_said ws
tidy_said (tidying.refused n step) = refusal_line n step

-- a step takes two words: its form and its row
abbrev pub STEP_WORDS : ℕ
STEP_WORDS = 2

-- the steps of a text after their count, or what ends the reading
unfoldable pub steps_in : ℕ → List ℕ → Read (List ℕ)
steps_in ending [] = refused ending
steps_in ending (n ∷ ws) = cond (ltb (length ws) (STEP_WORDS * n)) (refused ending) (got (take (STEP_WORDS * n) ws) (drop (STEP_WORDS * n) ws))

-- an accepted book in words and the steps that a text says, with nothing after them
unfoldable pub steps_said : List ℕ → ℕ → Read (List ℕ) → List ℕ
steps_said book ending (refused n) = number_line stop_word n
steps_said book ending (got items ws) = cond (eqb (left_in ws ending) ACCEPTED) (tidy_said (tidied book (steps_of items))) (number_line stop_word (left_in ws ending))

-- the words of a book's sections, each after its count
unfoldable pub words_in : Sections → List ℕ
words_in s = (length s.rows / ROW_WORDS ∷ s.rows) ++ ((length s.operands ∷ s.operands) ++ ((length s.assumes ∷ s.assumes) ++ (length s.guarantees ∷ s.guarantees)))

-- the book that a text says, or its refusal
unfoldable pub book_then : ℕ → Read Sections → List ℕ
book_then ending (refused n) = number_line book_word n
book_then ending (got s ws) = cond (eqb (loaded_from s).number ACCEPTED) (steps_said (words_in s) ending (steps_in ending ws)) (number_line book_word (loaded_from s).number)

unfoldable pub words_said : List ℕ → List ℕ
words_said input = let t = supply input in book_then t.ending (sections t.ending t.words)

-- an input that is too long is not read
unfoldable pub answer_to : List ℕ → List ℕ
answer_to s = cond (ltb LONGEST_INPUT (length s)) (number_line book_word PAST_LIMIT) (words_said s)
