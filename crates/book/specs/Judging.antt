-- REFERENCE 2.5: what a book is refused with, and the book that its words say. Definitions only.
use Rattle.std.specs.Prelude.{ℕ, zero, suc, ◌+◌, ◌*◌, ◌-◌, ◌/◌, Bool, true, false, cond, not, ◌&&◌, ◌||◌, List, [], ◌∷◌, ◌++◌, length, get_or, drop, leb, ltb, eqb}
use Rattle.numbers.specs.Limits.{MAX, LAST_TIME, ROW_WORDS, MOST_ATOMS, MOST_OPERANDS, MOST_TEMPORALS}
use Rattle.pmtl.specs.Book.{Row, Book, empty_book, every}
use Rattle.pmtl.specs.Answer.{bit_of}
use Rattle.book.specs.Rows.{row_from, count_of, temporal}
use Rattle.lists.specs.Lists.{listed}
use Rattle.book.specs.Reading.{Read, got, refused, Sections, sections}
use Rattle.numbers.specs.Refusals.{ACCEPTED, PAST_LIMIT, WRONG_FORM, WRONG_LENGTH, WRONG_LINK, WRONG_RANGE, WRONG_USE}

-- ---- the words of row r of a section of rows
abbrev pub kind_in : List ℕ → ℕ → ℕ
kind_in ws r = get_or ws (ROW_WORDS * r) 0

abbrev pub arg_in : List ℕ → ℕ → ℕ
arg_in ws r = get_or ws (ROW_WORDS * r + 1) 0

abbrev pub lower_in : List ℕ → ℕ → ℕ
lower_in ws r = get_or ws (ROW_WORDS * r + 2) 0

abbrev pub upper_in : List ℕ → ℕ → ℕ
upper_in ws r = get_or ws (ROW_WORDS * r + 3) 0

-- how many rows there are
abbrev pub rows_in : Sections → ℕ
rows_in s = length s.rows / ROW_WORDS

-- how many of the first n are temporal, and how many operands they take
unfoldable pub temporals_in : List ℕ → ℕ → ℕ
temporals_in ws zero = 0
temporals_in ws (suc n) = temporals_in ws n + bit_of (temporal (kind_in ws n))

unfoldable pub start_in : List ℕ → ℕ → ℕ
start_in ws zero = 0
start_in ws (suc n) = start_in ws n + count_of (kind_in ws n) (arg_in ws n)

-- ---- in order
-- the first number that is not 0, of two, and of f 0 up to f (n - 1)
abbrev pub first_of : ℕ → ℕ → ℕ
first_of zero m = m
first_of (suc n) m = suc n

unfoldable pub first_to : (ℕ → ℕ) → ℕ → ℕ
first_to f zero = 0
first_to f (suc n) = first_of (first_to f n) (f n)

-- f holds of every number below n
unfoldable pub all_to : (ℕ → Bool) → ℕ → Bool
all_to f zero = true
all_to f (suc n) = all_to f n && f n

-- ---- rows: 3, 4, then 2 for the 33rd temporal
-- 3: kind, arg, or a nonzero bound on kinds 0 to 6
unfoldable pub arg_good : ℕ → ℕ → Bool
arg_good kind arg =
    get_or
    (eqb arg 0 ∷ eqb arg 0 ∷ leb arg (MOST_ATOMS - 1) ∷ leb arg MOST_OPERANDS ∷ leb arg MOST_OPERANDS ∷ eqb arg 1 ∷ eqb arg 2 ∷ eqb arg 1 ∷ eqb arg 1 ∷ eqb arg 2 ∷ [])
    kind
    false

unfoldable pub form_good : ℕ → ℕ → ℕ → ℕ → Bool
form_good kind arg lower upper = arg_good kind arg && (temporal kind || eqb lower 0 && eqb upper 0)

-- 4: lower above upper, lower above LAST-TIME, finite upper above LAST-TIME
unfoldable pub range_good : ℕ → ℕ → Bool
range_good lower upper = leb lower upper && leb lower LAST_TIME && (eqb upper MAX || leb upper LAST_TIME)

unfoldable pub row_number : List ℕ → ℕ → ℕ
row_number ws r =
    cond (not (form_good (kind_in ws r) (arg_in ws r) (lower_in ws r) (upper_in ws r))) WRONG_FORM
    (cond (not (range_good (lower_in ws r) (upper_in ws r))) WRONG_RANGE (cond (temporal (kind_in ws r) && leb MOST_TEMPORALS (temporals_in ws r)) PAST_LIMIT ACCEPTED))

-- ---- 5: operand count is not what the rows need; operand not below its owner; property not below the row count
unfoldable pub operands_good : Sections → ℕ → Bool
operands_good s r =
    all_to (λ k. ltb (get_or s.operands (start_in s.rows r + k) 0) r) (count_of (kind_in s.rows r) (arg_in s.rows r))

unfoldable pub links_good : Sections → Bool
links_good s =
    eqb (start_in s.rows (rows_in s)) (length s.operands) && all_to (operands_good s) (rows_in s)
    && every (λ p. ltb p (rows_in s)) (s.assumes ++ s.guarantees)

-- ---- 6: a row used never or twice
unfoldable pub times_in : ℕ → List ℕ → ℕ
times_in r [] = 0
times_in r (x ∷ xs) = bit_of (eqb x r) + times_in r xs

abbrev pub uses_of : Sections → List ℕ
uses_of s = s.operands ++ s.assumes ++ s.guarantees

unfoldable pub used_once : Sections → Bool
used_once s = all_to (λ r. eqb (times_in r (uses_of s)) 1) (rows_in s)

-- ---- what the sections are refused with, 0 if nothing is wrong, and the book that they say
unfoldable pub judged : Sections → ℕ
judged s = first_of (first_to (row_number s.rows) (rows_in s)) (cond (not (links_good s)) WRONG_LINK (cond (not (used_once s)) WRONG_USE ACCEPTED))

unfoldable pub row_in : Sections → ℕ → Row ℕ
row_in s r =
    row_from (kind_in s.rows r) (arg_in s.rows r) (lower_in s.rows r) (upper_in s.rows r) (drop (start_in s.rows r) s.operands)

unfoldable pub book_in : Sections → Book
book_in s = record { rows = listed (row_in s) (rows_in s); assumes = s.assumes; guarantees = s.guarantees }

-- what loading hands back, and the book that is then loaded: a refused book gives an empty one
pub record Loaded : Type 0 where
  pub number : ℕ
  pub book : Book

abbrev pub refused_with : ℕ → Loaded
refused_with n = record { number = n; book = empty_book }

unfoldable pub loaded_from : Sections → Loaded
loaded_from s = elim (eqb (judged s) ACCEPTED) [ true ↦ record { number = ACCEPTED; book = book_in s } | false ↦ refused_with (judged s) ]

-- a book handed over as words: none may be left over
unfoldable pub whole : Read Sections → Loaded
whole (got s []) = loaded_from s
whole (got s (w ∷ ws)) = refused_with WRONG_LENGTH
whole (refused n) = refused_with n

unfoldable pub loaded : List ℕ → Loaded
loaded words = whole (sections WRONG_LENGTH words)
