-- Where the sections of an accepted book stand in its words. Definitions only.
use Rattle.std.specs.Prelude.{ℕ, ◌+◌, ◌*◌, ◌≤◌, ◌≡◌, List, [], length}
use Rattle.lists.specs.Lists.{part}
use Rattle.book.specs.Reading.{got, Sections, sections}
use Rattle.numbers.specs.Limits.{ROW_WORDS, MOST_ASSUMES, MOST_GUARANTEES, MOST_OPERANDS, MOST_ROWS}
use Rattle.book.specs.Judging.{loaded}
use Rattle.numbers.specs.Refusals.{ACCEPTED, WRONG_LENGTH}

-- the sections, from how many rows, operands, assumes and guarantees there are: each stands after its count
unfoldable pub parts_of : List ℕ → ℕ → ℕ → ℕ → ℕ → Sections
parts_of words n o a g = record {
  rows = part 1 (ROW_WORDS * n) words;
  operands = part (ROW_WORDS * n + 2) o words;
  assumes = part (ROW_WORDS * n + o + 3) a words;
  guarantees = part (ROW_WORDS * n + o + a + 4) g words;
}

-- the sections, each in words of its own
abbrev pub sections_of : List ℕ → List ℕ → List ℕ → List ℕ → Sections
sections_of rows operands assumes guarantees = record { rows = rows; operands = operands; assumes = assumes; guarantees = guarantees }

-- the words are these sections, and nothing is left over
pub record Counted (words : List ℕ) (n o a g : ℕ) : Type 0 where
  pub rows_few : n ≤ MOST_ROWS
  pub operands_few : o ≤ MOST_OPERANDS
  pub assumes_few : a ≤ MOST_ASSUMES
  pub guarantees_few : g ≤ MOST_GUARANTEES
  pub long : length words ≡ ROW_WORDS * n + o + a + g + 4
  pub read : sections WRONG_LENGTH words ≡ got (parts_of words n o a g) []

-- the number that the words are refused with, and the counts: all 0 where they are refused
pub record Placed (words : List ℕ) (number n o a g : ℕ) : Type 0 where
  pub number_is : number ≡ (loaded words).number
  pub counted : number ≡ ACCEPTED → Counted words n o a g
  pub none : (number ≡ ACCEPTED → ⊥) → (n ≡ 0) × (o ≡ 0) × (a ≡ 0) × (g ≡ 0)
