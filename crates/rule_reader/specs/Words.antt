-- A text read as the words of a book, as the code has them: REFERENCE 11. Definitions only.
use Rattle.std.specs.Prelude.{ℕ, ◌≤◌, ◌≡◌, List, length, take, Result, Ok, Err}
use Rattle.numbers.specs.Limits.{LONGEST_INPUT}
use Rattle.numbers.specs.Refusals.{ACCEPTED, number_of}
use Rattle.trees.specs.Forest.{Forest}
use Rattle.trees.specs.Building.{words_of}
use Rattle.trees.specs.Putting.{MOST_WORDS}
use Rattle.rule_scanner.specs.Reading.{read, read_text}
use Rattle.rule_scanner.specs.Scanning.{scanned}
use Rattle.rule_scanner.specs.declared.scan.Extent.{Extent}
use Rattle.rule_reader.specs.Rules.{read_book}
use Rattle.rule_reader.specs.declared.read.Wrong.{Wrong}

-- what reading handed back: the number that a text is refused with, 0 where nothing is wrong; the place of what is wrong in its form; and how many words its book has, 0 where it is refused
abbrev pub number_read : Result ℕ Wrong → ℕ
number_read (Ok n) = ACCEPTED
number_read (Err w) = number_of w.refusal

abbrev pub place_read : Result ℕ Wrong → ℕ
place_read (Ok n) = 0
place_read (Err w) = w.place

abbrev pub length_of : {E : Type 0} → Result ℕ E → ℕ
length_of (Ok n) = n
length_of (Err e) = 0

-- then its number and place are those of the definition, and of an accepted text the first words are its book's
pub record ReadAs (s : List ℕ) (number place long : ℕ) (words : List ℕ) : Type 0 where
  pub number_is : number ≡ (read_book s).loaded.number
  pub place_is : place ≡ (read_book s).place
  pub words_are : number ≡ ACCEPTED → (a g : Forest) → read_text s ≡ read a g → take long words ≡ words_of a g
  pub inside : long ≤ length words
  pub none : (number ≡ ACCEPTED → ⊥) → long ≡ 0

-- a text is written as it should be, with so many rows, assumes and guarantees, and there is room for it
pub record Right (s : List ℕ) (extent : Extent) (forms words : ℕ) : Type 0 where
  pub counted : Ok extent ≡ scanned (read_text s)
  pub short : length s ≤ LONGEST_INPUT
  pub forms_long : length s ≤ forms
  pub words_long : MOST_WORDS ≤ words
