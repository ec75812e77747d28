-- Steps of reading the text of steps. No public contract cites these. Definitions only.
use Rattle.std.specs.Prelude.{ℕ, ◌≤◌, ◌≡◌, List, length, take, Result, Ok, Err}
use Rattle.text.specs.Words.{supply_from}
use Rattle.text_reader.specs.declared.Part.{Part}
use Rattle.numbers.specs.declared.Refusal.{Refusal}
use Rattle.numbers.specs.Refusals.{ACCEPTED, number_of}
use Rattle.tidying.specs.Tidied.{tidied, steps_of}
use Rattle.book.specs.Judging.{loaded}
use Rattle.book.specs.Reading.{got, refused}
use Rattle.book_writer.specs.Layout.{book_word}
use Rattle.tidied.specs.Answers.{stop_word, number_line, tidy_said, steps_in, steps_said, words_said}

-- no input holds so many words of steps
abbrev pub STEPS_ROOM : ℕ
STEPS_ROOM = 32770

-- the steps were read: they stand at the start of a memory
pub record StepsTook (input : List ℕ) (cursor : ℕ) (m : List ℕ) (end next : ℕ) : Type 0 where
  pub read : steps_in (supply_from input cursor).ending (supply_from input cursor).words ≡ got (take end m) (supply_from input next).words
  pub ending : (supply_from input next).ending ≡ (supply_from input cursor).ending
  pub inside : end ≤ length m

unfoldable pub StepsRead : List ℕ → ℕ → List ℕ → Result Part Refusal → Type 0
StepsRead input cursor m (Ok part) = StepsTook input cursor m part.end part.next
StepsRead input cursor m (Err refusal) = steps_in (supply_from input cursor).ending (supply_from input cursor).words ≡ refused (number_of refusal)

-- what is said of the steps of a text from a place on
abbrev pub steps_after : List ℕ → List ℕ → ℕ → List ℕ
steps_after book input cursor = let t = supply_from input cursor in steps_said book t.ending (steps_in t.ending t.words)

-- the last steps stand in the first words: what is said of them is said of the text; or they are refused
pub record LastTook (input : List ℕ) (cursor : ℕ) (m : List ℕ) (end : ℕ) : Type 0 where
  pub inside : end ≤ length m
  pub said : (book : List ℕ) → tidy_said (tidied book (steps_of (take end m))) ≡ steps_after book input cursor

abbrev pub LastSteps : List ℕ → ℕ → List ℕ → Result ℕ Refusal → Type 0
LastSteps input cursor m (Ok end) = LastTook input cursor m end
LastSteps input cursor m (Err refusal) = (book : List ℕ) → number_line stop_word (number_of refusal) ≡ steps_after book input cursor

-- an accepted book stands in the first words, or is refused
pub record AcceptedTook (input m : List ℕ) (end next : ℕ) : Type 0 where
  pub inside : end ≤ length m
  pub ok : (loaded (take end m)).number ≡ ACCEPTED
  pub said : steps_after (take end m) input next ≡ words_said input

abbrev pub AcceptedRead : List ℕ → List ℕ → Result Part Refusal → Type 0
AcceptedRead input m (Ok part) = AcceptedTook input m part.end part.next
AcceptedRead input m (Err refusal) = number_line book_word (number_of refusal) ≡ words_said input
