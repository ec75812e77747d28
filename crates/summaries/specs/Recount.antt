-- The summary of a property, recounted from a report's lines of calls, the oldest first: by their numbers, their refusals and their digits. Definitions only.
use Rattle.std.specs.Prelude.{ℕ, suc, ◌-◌, max, ◌≡◌, Bool, true, cond, List, [], ◌∷◌, ◌++◌, length, get_or, ltb, eqb}
use Rattle.numbers.specs.Refusals.{ACCEPTED}
use Rattle.pmtl.specs.Book.{every}
use Rattle.report.specs.Lines.{PropertyWord, words_in, CallLine}
use Rattle.ledger.specs.declared.Summary.{Summary}

-- a word for a property that is not there
abbrev pub no_word : PropertyWord
no_word = record { value = 2; early = 2; settled = 2 }

-- the word of property p on a line
abbrev pub word_on : ℕ → CallLine → PropertyWord
word_on p l = get_or (words_in l.rest) p no_word

-- its digits say that it is false; that it is settled, as true or as false
abbrev pub is_false : ℕ → CallLine → Bool
is_false p l = eqb (word_on p l).value 0

abbrev pub is_settled : ℕ → CallLine → Bool
is_settled p l = ltb (word_on p l).settled 2

-- the lines of accepted calls
unfoldable pub accepted_of : List CallLine → List CallLine
accepted_of [] = []
accepted_of (l ∷ ls) = cond (eqb l.refusal ACCEPTED) (l ∷ accepted_of ls) (accepted_of ls)

-- the numbers on the lines that pass a test
unfoldable pub numbers_if : (CallLine → Bool) → List CallLine → List ℕ
numbers_if test [] = []
numbers_if test (l ∷ ls) = cond (test l) (l.number ∷ numbers_if test ls) (numbers_if test ls)

-- the first and the last of some numbers, 0 if there is none
abbrev pub first_of : List ℕ → ℕ
first_of ns = get_or ns 0 0

abbrev pub last_of : List ℕ → ℕ
last_of ns = get_or ns (length ns - 1) 0

-- how many lines pass a test before one fails it
unfoldable pub stretch_of : (CallLine → Bool) → List CallLine → ℕ
stretch_of test [] = 0
stretch_of test (l ∷ ls) = cond (test l) (suc (stretch_of test ls)) 0

-- the longest such stretch, wherever it begins
unfoldable pub longest_of : (CallLine → Bool) → List CallLine → ℕ
longest_of test [] = 0
longest_of test (l ∷ ls) = max (stretch_of test (l ∷ ls)) (longest_of test ls)

-- the summary of property p
unfoldable pub recount : ℕ → List CallLine → Summary
recount p ls = let calls = accepted_of ls in record {
  accepted = length calls;
  failed = length (numbers_if (is_false p) calls);
  first = first_of (numbers_if (is_false p) calls);
  last = last_of (numbers_if (is_false p) calls);
  longest = longest_of (is_false p) calls;
  settled = first_of (numbers_if (is_settled p) calls);
}

-- ---- what the longest stretch is held to: so many lines in a row among others, all of which pass a test
pub record InARow (test : CallLine → Bool) (ls : List CallLine) (n : ℕ) : Type 0 where
  pub older : List CallLine
  pub row : List CallLine
  pub newer : List CallLine
  pub are : ls ≡ older ++ (row ++ newer)
  pub pass : every test row ≡ true
  pub count : length row ≡ n
