-- A line of words: what it gives its reader, and what is wrong with it where it is to have so many. Definitions only.
use Rattle.std.specs.Prelude.{ℕ, ◌-◌, Bool, cond, ◌&&◌, List, length, get_or, take, ltb, eqb}
use Rattle.numbers.specs.Refusals.{ACCEPTED, WRONG_LENGTH, BAD_WORD}
use Rattle.text.specs.Words.{Supply, ends, supply}

-- the most bytes of a line that is read
abbrev pub LONGEST_LINE : ℕ
LONGEST_LINE = 255

abbrev pub carriage_return : ℕ
carriage_return = 13

-- a line without a carriage return at its end
unfoldable pub without_return : List ℕ → List ℕ
without_return line = cond (eqb (get_or line (length line - 1) 0) carriage_return) (take (length line - 1) line) line

-- what a line gives its reader; one that is too long is a bad word
unfoldable pub line_supply : List ℕ → Supply
line_supply line = cond (ltb LONGEST_LINE (length line)) (ends BAD_WORD) (supply (without_return line))

-- its word i; 0 where there is none
abbrev pub word_at : Supply → ℕ → ℕ
word_at s i = get_or s.words i 0

-- so many words, ended by a number, are none at all, not even a bad one
unfoldable pub no_word : ℕ → ℕ → Bool
no_word count ending = eqb count 0 && eqb ending WRONG_LENGTH

abbrev pub blank : Supply → Bool
blank s = no_word (length s.words) s.ending

-- what is wrong with so many words, ended by a number, where there are to be n: what ends them early; a further word; a bad one after them
unfoldable pub judged_by : ℕ → ℕ → ℕ → ℕ
judged_by n count ending = cond (ltb count n) ending (cond (ltb n count) WRONG_LENGTH (cond (eqb ending BAD_WORD) BAD_WORD ACCEPTED))

-- and with a line that is to have n words
abbrev pub number_for : ℕ → Supply → ℕ
number_for n s = judged_by n (length s.words) s.ending
