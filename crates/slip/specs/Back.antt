-- Reading a report back: the lines that bytes say, and the lines that a report can have. Definitions only.
use Rattle.std.specs.Prelude.{ℕ, ◌-◌, ◌≡◌, Bool, true, false, cond, List, [], ◌∷◌, map, length, get_or, eqb, Option, Some, None}
use Rattle.numbers.specs.Refusals.{ACCEPTED}
use Rattle.text.specs.Words.{space, line_feed, digit0, said}
use Rattle.book.specs.Strict.{over}
use Rattle.book.specs.declared.strict.Excess.{Excess}
use Rattle.ledger.specs.declared.Summary.{Summary}
use Rattle.report.specs.Lines.{PropertyWord, Rest, nothing, told, end, stop, Line, book, called, summed, last}
use Rattle.report.specs.Report.{book_word, stop_word}

-- a byte more at the front of the first piece
unfoldable pub before : ℕ → List (List ℕ) → List (List ℕ)
before x [] = (x ∷ []) ∷ []
before x (p ∷ ps) = (x ∷ p) ∷ ps

-- the pieces of bytes, each up to the byte that parts them, the last up to it or to the end
unfoldable pub pieces : ℕ → List ℕ → List (List ℕ)
pieces by [] = []
pieces by (x ∷ xs) = cond (eqb x by) ([] ∷ pieces by xs) (before x (pieces by xs))

abbrev pub first : List ℕ → ℕ
first w = get_or w 0 0

-- a property's word, of its three bytes
unfoldable pub word_in : List ℕ → PropertyWord
word_in w = record { value = get_or w 0 0 - digit0; early = get_or w 1 0 - digit0; settled = get_or w 2 0 - digit0 }

-- what follows the refusal, with a property's word more
unfoldable pub word_then : PropertyWord → Rest → Rest
word_then w nothing = nothing
word_then w (told ws count) = told (w ∷ ws) count

-- what follows the refusal, of its words: there is none, or the last is the count
unfoldable pub rest_in : List (List ℕ) → Rest
rest_in [] = nothing
rest_in (w ∷ []) = told [] (said 0 w)
rest_in (w ∷ v ∷ ws) = word_then (word_in w) (rest_in (v ∷ ws))

-- what strict loading refuses, of the words after a book's number: there is none, or a row and how many runs it can need
unfoldable pub excess_said : List (List ℕ) → Option Excess
excess_said [] = None
excess_said (r ∷ []) = None
excess_said (r ∷ n ∷ ws) = Some (over (said 0 r) (said 0 n))

-- a word among others, and the number that it says
abbrev pub word_at : List (List ℕ) → ℕ → List ℕ
word_at ws i = get_or ws i []

abbrev pub number_at : List (List ℕ) → ℕ → ℕ
number_at ws i = said 0 (word_at ws i)

-- six words are a property's summary, but not where the second is 0 and the third a property's word, with more bytes than one
unfoldable pub sums : List (List ℕ) → Bool
sums ws = cond (eqb (length ws) 6) (cond (eqb (number_at ws 1) 0) (eqb (length (word_at ws 2)) 1) true) false

unfoldable pub summary_in : List (List ℕ) → Summary
summary_in ws = record {
  accepted = number_at ws 0;
  failed = number_at ws 1;
  first = number_at ws 2;
  last = number_at ws 3;
  longest = number_at ws 4;
  settled = number_at ws 5;
}

-- a line, of its words: one alone is `end`, of the others the first letter tells a book's line and `stop`, and what is no summary is a call's
unfoldable pub line_in : List (List ℕ) → Line
line_in [] = last end
line_in (w ∷ []) = last end
line_in (w ∷ n ∷ ws) =
    cond (eqb (first w) (first book_word)) (book (said 0 n) (excess_said ws))
    (cond (eqb (first w) (first stop_word)) (last (stop (said 0 n)))
    (cond (sums (w ∷ n ∷ ws)) (summed (summary_in (w ∷ n ∷ ws))) (called (record { number = said 0 w; refusal = said 0 n; rest = rest_in ws }))))

-- lines end in a line feed, words are parted by one space
unfoldable pub lines_in : List ℕ → List Line
lines_in bytes = map (λ l. line_in (pieces space l)) (pieces line_feed bytes)

-- ---- lines that a report can have: nothing follows a refusal, and where no call failed, none is the first
abbrev pub Proper : Line → Type 0
Proper (book n e) = Unit {0}
Proper (called l) = ¬ (l.refusal ≡ ACCEPTED) → l.rest ≡ nothing
Proper (summed s) = s.failed ≡ 0 → s.first ≡ 0
Proper (last e) = Unit {0}

abbrev pub AllProper : List Line → Type 0
AllProper [] = Unit {0}
AllProper (l ∷ ls) = Proper l × AllProper ls
