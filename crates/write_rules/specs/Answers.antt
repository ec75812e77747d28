-- REFERENCE 11.5: what the program that writes rules prints, byte by byte. Definitions only.
use Rattle.std.specs.Prelude.{ℕ, cond, List, ◌++◌, length, ltb, eqb}
use Rattle.numbers.specs.Limits.{LONGEST_INPUT}
use Rattle.numbers.specs.Refusals.{ACCEPTED, PAST_LIMIT}
use Rattle.text.specs.Words.{Supply, supply}
use Rattle.text.specs.Decimals.{decimal}
use Rattle.book.specs.Reading.{Read, got, refused, Sections, sections}
use Rattle.book.specs.Judging.{Loaded, loaded_from}
use Rattle.text_reader.specs.Reads.{left_in}
use Rattle.book_writer.specs.Layout.{book_word, ended}
use Rattle.rule_printer.specs.Printing.{book_printed}

-- the line of a refusal
unfoldable pub refused_line : ℕ → List ℕ
refused_line n = (book_word ++ decimal n) ++ ended

-- an accepted book as text, else its refusal
unfoldable pub loaded_said : Loaded → List ℕ
loaded_said l = cond (eqb l.number ACCEPTED) (book_printed l.book) (refused_line l.number)

-- the book that a text says, and nothing after it
unfoldable pub book_alone : ℕ → Read Sections → List ℕ
book_alone ending (got s ws) = cond (eqb (left_in ws ending) ACCEPTED) (loaded_said (loaded_from s)) (refused_line (left_in ws ending))
book_alone ending (refused n) = refused_line n

unfoldable pub book_only : Supply → List ℕ
book_only t = book_alone t.ending (sections t.ending t.words)

-- an input that is too long is not read
unfoldable pub answer_to : List ℕ → List ℕ
answer_to s = cond (ltb LONGEST_INPUT (length s)) (refused_line PAST_LIMIT) (book_only (supply s))
