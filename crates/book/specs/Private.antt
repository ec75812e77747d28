-- Private steps of judging: what the functions that no other crate can call promise each other. Definitions only.
use Rattle.std.specs.Prelude.{ℕ, ◌+◌, ◌*◌, ◌/◌, ◌≤◌, ◌<◌, ◌≡◌, Bool, true, cond, ◌&&◌, List, [], length, get_or, drop, eqb, Option, Some, None}
use Rattle.lists.specs.Lists.{part}
use Rattle.pmtl.specs.Book.{Range}
use Rattle.pmtl.specs.Strict.{needed}
use Rattle.book.specs.declared.check.Sections.{Sections as Slices}
use Rattle.book.specs.declared.strict.Excess.{Excess}
use Rattle.book.specs.Rows.{temporal}
use Rattle.book.specs.Reading.{got, Sections, section}
use Rattle.numbers.specs.Limits.{ROW_WORDS, MOST_ASSUMES, MOST_GUARANTEES, MOST_OPERANDS, MOST_ROWS, MOST_RUNS}
use Rattle.book.specs.Judging.{kind_in, lower_in, upper_in, rows_in, start_in, all_to, operands_good, links_good, times_in}
use Rattle.book.specs.Placing.{sections_of}
use Rattle.numbers.specs.Refusals.{WRONG_LENGTH}

-- a range of these bounds
abbrev pub range_in : ℕ → ℕ → Range
range_in lower upper = record { lower = lower; upper = upper }

-- the sections that slices hold
abbrev pub said_by : Slices → Sections
said_by s = sections_of s.rows.now s.operands.now s.assumes.now s.guarantees.now

-- what reading one section says, whose count stands at `at`
pub record SectionCounting (words : List ℕ) (at limit size count next : ℕ) : Type 0 where
  pub inside : next ≤ length words
  pub few : count ≤ limit
  pub onward : next ≡ at + 1 + size * count
  pub read : section WRONG_LENGTH limit size (drop at words) ≡ got (part (at + 1) (size * count) words) (drop next words)

-- the operands are as many as the rows need, and below their owners
unfoldable pub operands_met : List ℕ → List ℕ → Bool
operands_met rows operands =
    eqb (start_in rows (length rows / ROW_WORDS)) (length operands)
    && all_to (operands_good (sections_of rows operands [] [])) (length rows / ROW_WORDS)

-- uses of the rows, few enough to be counted in bytes on top of the counts that a table has
pub record Countable (uses times : List ℕ) : Type 0 where
  pub long : length times ≡ MOST_ROWS
  pub rows : (i : ℕ) → i < length uses → get_or uses i 0 < MOST_ROWS
  pub few : (r : ℕ) → r < MOST_ROWS → get_or times r 0 + length uses ≤ 255

-- a table of counts, before and after
pub record Tallied (uses times times' : List ℕ) : Type 0 where
  pub long : length times' ≡ MOST_ROWS
  pub more : (r : ℕ) → r < MOST_ROWS → get_or times' r 0 ≡ get_or times r 0 + times_in r uses

-- sections within the limits, and such that also link their rows as they should
pub record Few (s : Sections) : Type 0 where
  pub rows : rows_in s ≤ MOST_ROWS
  pub operands : length s.operands ≤ MOST_OPERANDS
  pub assumes : length s.assumes ≤ MOST_ASSUMES
  pub guarantees : length s.guarantees ≤ MOST_GUARANTEES

pub record Linked (s : Sections) : Type 0 where
  pub few : Few s
  pub links : links_good s ≡ true

-- ---- strict loading
-- how many runs the set of row r can need at once, by the row's words
unfoldable pub needed_in : List ℕ → ℕ → ℕ
needed_in ws r = cond (temporal (kind_in ws r)) (needed (range_in (lower_in ws r) (upper_in ws r))) 0

-- no row before r can need more runs than a set may have
abbrev pub NoneOver : List ℕ → ℕ → Type 0
NoneOver ws r = (i : ℕ) → i < r → needed_in ws i ≤ MOST_RUNS

-- r is the first that can
pub record FirstIn (ws : List ℕ) (r : ℕ) : Type 0 where
  pub inside : r < length ws / ROW_WORDS
  pub none_before : NoneOver ws r
  pub over : MOST_RUNS < needed_in ws r

-- what that says of rows: none can, or the first that can and how many it can need
abbrev pub Surplus : List ℕ → Option Excess → Type 0
Surplus ws None = NoneOver ws (length ws / ROW_WORDS)
Surplus ws (Some e) = FirstIn ws e.row × (e.count ≡ needed_in ws e.row)
