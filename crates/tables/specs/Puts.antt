-- A memory with one of its tables worked out anew from the words before the tables, and the digits by what was told. Definitions only.
use Rattle.std.specs.Prelude.{Option, None, Some, ℕ, zero, suc, ◌+◌, min, Bool, cond, ◌&&◌, List, get_or, set, eqb, leb, ltb}
use Rattle.numbers.specs.Limits.{MOST_ROWS}
use Rattle.lists.specs.Lists.{filled_from}
use Rattle.numset.specs.Runs.{Runs}
use Rattle.ring.specs.Ring.{ringed}
use Rattle.pmtl.specs.declared.Answer.{Answer}
use Rattle.pmtl.specs.declared.Answer.TheVariants.{Open}
use Rattle.pmtl.specs.Answer.{bit_of, digit_of}
use Rattle.memory.specs.Layout.{VALUES, TOLD, EARLY, SETTLED, MOVES, LOWEST, FULLEST, UNTIL}
use Rattle.memory.specs.Memory.{row_count, begun_word, clock_of, temporals, range_at, owner_at, slot_words, property_row, told_at, early_at, settled_at, lowest_at, is_one, rows_of, state_of}
use Rattle.pmtl.specs.Monitor.{fullest}
use Rattle.pmtl.specs.Book.{moves, lowest}
use Rattle.pmtl.specs.Quiet.{until_set, quiet_until}
use Rattle.tables.specs.declared.News.{News}
use Rattle.memory.specs.Tables.{standing, value_of, property_count}
use Rattle.row_answers.specs.Told.{early_told, settled_told}

-- what a table of bits has of row o
abbrev pub bit_in : List ℕ → ℕ → ℕ → Bool
bit_in m table o = is_one (get_or m (table + o) 0)

-- of each row whether it moves with the clock
abbrev pub moves_put : List ℕ → List ℕ
moves_put m = filled_from MOVES (λ r. bit_of (moves (rows_of m) r)) m (row_count m)

-- what a table of numbers has of row o
abbrev pub word_in : List ℕ → ℕ → ℕ → ℕ
word_in m table o = get_or m (table + o) 0

-- the lowest row at or below each row
abbrev pub lowest_put : List ℕ → List ℕ
lowest_put m = filled_from LOWEST (lowest (rows_of m)) m (row_count m)

-- each row's value
abbrev pub values_put : List ℕ → List ℕ
values_put m = filled_from VALUES (λ r. bit_of (value_of m r)) m (row_count m)

-- what is so of each set
abbrev pub standing_at : List ℕ → ℕ → ℕ
standing_at m j = standing (clock_of m) (ringed (slot_words m j))

abbrev pub told_put : List ℕ → List ℕ
told_put m = filled_from TOLD (standing_at m) m (temporals m)

-- how many runs the fullest set has
abbrev pub count_put : List ℕ → List ℕ
count_put m = set m FULLEST (fullest (state_of m))

-- of the first n sets those of which something new is told have rows from newsFrom up to newsEnd
unfoldable pub news_from : List ℕ → ℕ → ℕ
news_from m zero = MOST_ROWS
news_from m (suc j) = cond (eqb (told_at m j) (standing_at m j)) (news_from m j) (min (news_from m j) (owner_at m j))

unfoldable pub news_end : List ℕ → ℕ → ℕ
news_end m zero = 0
news_end m (suc j) = cond (eqb (told_at m j) (standing_at m j)) (news_end m j) (owner_at m j + 1)

-- and both, if there is such a set
unfoldable pub news_told : List ℕ → ℕ → Option News
news_told m n = cond (eqb (news_end m n) 0) None (Some (record { first = news_from m n; end = news_end m n }))

-- up to when a set stays as it is, by the words of its row's range
abbrev pub until_of : ℕ → ℕ → ℕ → Runs → ℕ
until_of c lower upper s = until_set c (record { lower = lower; upper = upper }) s

-- of the set of slot j
abbrev pub until_at : List ℕ → ℕ → ℕ
until_at m j = until_set (clock_of m) (range_at m (owner_at m j)) (ringed (slot_words m j))

-- up to when a time call moves the clock alone
abbrev pub until_put : List ℕ → List ℕ
until_put m = set m UNTIL (quiet_until (rows_of m) (state_of m))

-- the digit of each property's early answer, of its settled answer
abbrev pub early_digit : List ℕ → ℕ → ℕ
early_digit m i = digit_of (early_told m (property_row m i))

abbrev pub early_put : List ℕ → List ℕ
early_put m = filled_from EARLY (early_digit m) m (property_count m)

abbrev pub settled_now : List ℕ → ℕ → Answer
settled_now m r = cond (is_one (begun_word m)) (settled_told m r) Open

abbrev pub settled_digit : List ℕ → ℕ → ℕ
settled_digit m i = digit_of (settled_now m (property_row m i))

abbrev pub settled_put : List ℕ → List ℕ
settled_put m = filled_from SETTLED (settled_digit m) m (property_count m)

-- whether the row of property i may lie above one of the rows from first up to end: it is none before them, and the lowest row below it is none after them
abbrev pub reaches : List ℕ → ℕ → ℕ → ℕ → Bool
reaches m first end i = leb first (property_row m i) && ltb (lowest_at m (property_row m i)) end

-- the digits where only those properties are asked
abbrev pub early_asked : List ℕ → ℕ → ℕ → ℕ → ℕ
early_asked m first end i = cond (reaches m first end i) (early_digit m i) (early_at m i)

abbrev pub early_renewed : List ℕ → ℕ → ℕ → List ℕ
early_renewed m first end = filled_from EARLY (early_asked m first end) m (property_count m)

abbrev pub settled_asked : List ℕ → ℕ → ℕ → ℕ → ℕ
settled_asked m first end i = cond (reaches m first end i) (settled_digit m i) (settled_at m i)

abbrev pub settled_renewed : List ℕ → ℕ → ℕ → List ℕ
settled_renewed m first end = filled_from SETTLED (settled_asked m first end) m (property_count m)
