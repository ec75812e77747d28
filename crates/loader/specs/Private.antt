-- Steps of the private functions: the memory that a book's words are put into, part by part. No public contract cites these. Definitions only.
use Rattle.std.specs.Prelude.{ℕ, zero, suc, ◌+◌, ◌*◌, ◌/◌, ◌≤◌, ◌<◌, max, ◌≡◌, true, cond, List, [], ◌∷◌, length, get_or, set, replicate, eqb}
use Rattle.std.proofs.Math.Seq.{paste}
use Rattle.pmtl.specs.Book.{Book}
use Rattle.pmtl.specs.Sets.{Way, ordinary, lasting}
use Rattle.pmtl.specs.Monitor.{initial_in}
use Rattle.memory.specs.Layout.{ROWS, ROW, OPERANDS, PROPERTIES, OWNERS, SIZE, ASSUMES, GUARANTEES, ROW_COUNT, TEMPORALS, WIDTH, WAY, LEDGER}
use Rattle.book.specs.Rows.{temporal, ATOM}
use Rattle.lists.specs.Lists.{put}
use Rattle.memory.specs.Memory.{turn_at, book_of, state_of}
use Rattle.numbers.specs.Limits.{ROW_WORDS, MOST_OPERANDS, MOST_ROWS, MOST_TEMPORALS}
use Rattle.book.specs.Reading.{Sections}
use Rattle.book.specs.Judging.{kind_in, arg_in, lower_in, upper_in, rows_in, temporals_in, start_in, arg_good, judged, loaded}
use Rattle.book.specs.declared.loading.Loading.{Loading}
use Rattle.book.specs.Strict.{roomed}
use Rattle.book.specs.Loading.{way_in}
use Rattle.book.specs.Private.{Few}
use Rattle.memory.specs.Kept.{Sound}
use Rattle.memory.specs.Tables.{Unused}
use Rattle.numbers.specs.Refusals.{ACCEPTED}

-- the largest atom of the first n rows plus 1; 0 if there is no atom
abbrev pub reach : ℕ → ℕ → ℕ
reach kind arg = cond (eqb kind ATOM) (arg + 1) 0

unfoldable pub width_in : List ℕ → ℕ → ℕ
width_in ws zero = 0
width_in ws (suc n) = max (width_in ws n) (reach (kind_in ws n) (arg_in ws n))

-- the six words of row r, and the set of row r
abbrev pub words_with : List ℕ → ℕ → ℕ → ℕ → List ℕ
words_with ws r start slot = kind_in ws r ∷ arg_in ws r ∷ lower_in ws r ∷ upper_in ws r ∷ start ∷ slot ∷ []

unfoldable pub slot_in : List ℕ → ℕ → ℕ
slot_in ws r = cond (temporal (kind_in ws r)) (temporals_in ws r) 0

abbrev pub row_words : List ℕ → ℕ → List ℕ
row_words ws r = words_with ws r (start_in ws r) (slot_in ws r)

-- row r as the owner of its set
unfoldable pub owner_put : List ℕ → List ℕ → ℕ → List ℕ
owner_put ws m r = cond (temporal (kind_in ws r)) (set m (OWNERS + temporals_in ws r) r) m

abbrev pub row_put : List ℕ → List ℕ → ℕ → List ℕ
row_put ws m r = owner_put ws (paste m (ROWS + ROW * r) (row_words ws r) ROW) r

-- the first n rows
unfoldable pub rows_put : List ℕ → List ℕ → ℕ → List ℕ
rows_put ws m zero = m
rows_put ws m (suc r) = row_put ws (rows_put ws m r) r

-- the word of a way of monitoring
abbrev pub word_for : Way → ℕ
word_for ordinary = 0
word_for lasting = 1

-- the words before the rows
abbrev pub head_put : List ℕ → Way → ℕ → ℕ → ℕ → ℕ → ℕ → List ℕ
head_put m way rows width temporals assumes guarantees =
    set (set (set (set (set (set m ROW_COUNT rows) WIDTH width) TEMPORALS temporals) ASSUMES assumes) GUARANTEES guarantees) WAY (word_for way)

-- operands and properties in a memory of zeros
abbrev pub links_put : Sections → List ℕ
links_put s =
    put (put (put (replicate SIZE 0) OPERANDS s.operands) PROPERTIES s.assumes) (PROPERTIES + length s.assumes) s.guarantees

-- the memory of an accepted book
unfoldable pub stored : Way → Sections → List ℕ
stored way s =
    head_put (rows_put s.rows (links_put s) (rows_in s)) way (rows_in s) (width_in s.rows (rows_in s)) (temporals_in s.rows (rows_in s))
    (length s.assumes) (length s.guarantees)

-- the rows are within the limits, and each arg suits its kind
pub record Rowed (ws : List ℕ) : Type 0 where
  pub rows_few : length ws / ROW_WORDS ≤ MOST_ROWS
  pub operands_few : start_in ws (length ws / ROW_WORDS) ≤ MOST_OPERANDS
  pub temporals_few : temporals_in ws (length ws / ROW_WORDS) ≤ MOST_TEMPORALS
  pub args : (r : ℕ) → r < length ws / ROW_WORDS → arg_good (kind_in ws r) (arg_in ws r) ≡ true

-- the sections are within the limits, and accepted
pub record Accepted (s : Sections) : Type 0 where
  pub few : Few s
  pub good : judged s ≡ ACCEPTED

-- a whole memory of zeros
pub record Zeroed (m : List ℕ) : Type 0 where
  pub long : length m ≡ SIZE
  pub zeros : m ≡ replicate SIZE 0

-- the memory holds a book, with a fresh monitor in a way, and nothing is counted; its tables are not worked out yet
pub record Holds (way : Way) (b : Book) (m : List ℕ) : Type 0 where
  pub book : book_of m ≡ b
  pub state : state_of m ≡ initial_in way b.rows
  pub sound : Sound m
  pub unused : Unused m
  pub turns : (j : ℕ) → j < MOST_TEMPORALS → turn_at m j ≡ 0
  pub blank : (i : ℕ) → LEDGER ≤ i → get_or m i 0 ≡ 0

-- that of words, accepted or refused as far as the words alone tell, and the number that is handed back
pub record Stored (way : Loading) (words m : List ℕ) (r : ℕ) : Type 0 where
  pub number : r ≡ (roomed way (loaded words)).number
  pub held : Holds (way_in way) (roomed way (loaded words)).book m
