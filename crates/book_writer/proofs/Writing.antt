-- Laws of the loops that write lines. Assumes nothing.
use Prim.Native.Nat.{ℕ, ◌+◌, ◌/◌}
use mathlib.Core.Path.{◌≡◌, refl}
use mathlib.Core.List.{List, [], ◌∷◌}
use native.Mathlib.Numerals.{add-one}
use lib.ListN.{length, get_or}
use Rattle.numbers.specs.Limits.{ROW_WORDS}
use Rattle.text.specs.Words.{space, line_feed}
use Rattle.text.specs.Decimals.{decimal}
use Rattle.book.specs.Placing.{parts_of, Counted}
use Rattle.buffer_writer.specs.Finish.{Wrote}
use Rattle.buffer_writer.proofs.Writes.{and_then}
use Rattle.book_writer.specs.Layout.{word_line, row_line, row_lines, section_line, book_text, text_of, book_said}

-- nothing was written yet
none_yet : (m : List ℕ) (at : ℕ) → Wrote m at [] m at
none_yet m at = record { same = λ rest. refl }

-- one line or word more
module _ (ws : List ℕ) where
  pub rows_start : (m : List ℕ) (at : ℕ) → Wrote m at (row_lines ws 0) m at
  unfolding row_lines
  rows_start m at = none_yet m at

  pub rows_more : {m m' m'' : List ℕ} {at at' at'' : ℕ} (i : ℕ) → Wrote m at (row_lines ws i) m' at' → Wrote m' at' (row_line ws i) m'' at'' → Wrote m at (row_lines ws (i + 1)) m'' at''
  unfolding row_lines
  rows_more i p w = rw add-one (and_then p w)

  pub words_start : (m : List ℕ) (at : ℕ) → Wrote m at (word_line ws 0) m at
  unfolding word_line
  words_start m at = none_yet m at

  pub words_more : {m m' m'' : List ℕ} {at at' at'' : ℕ} (i : ℕ) → Wrote m at (word_line ws i) m' at' → Wrote m' at' (space ∷ decimal (get_or ws i 0)) m'' at'' → Wrote m at (word_line ws (i + 1)) m'' at''
  unfolding word_line
  words_more i p w = rw add-one (and_then p w)

-- ---- a book, piece by piece
pub book_written : {words rs os xs gs m m₁ m₂ m₃ m₄ m₅ m₆ : List ℕ} {n o a g at a₁ a₂ a₃ a₄ a₅ a₆ : ℕ} → Counted words n o a g
    → rs ≡ (parts_of words n o a g).rows → os ≡ (parts_of words n o a g).operands → xs ≡ (parts_of words n o a g).assumes → gs ≡ (parts_of words n o a g).guarantees
    → Wrote m at (decimal (length rs / ROW_WORDS)) m₁ a₁ → Wrote m₁ a₁ (line_feed ∷ []) m₂ a₂ → Wrote m₂ a₂ (row_lines rs (length rs / ROW_WORDS)) m₃ a₃
    → Wrote m₃ a₃ (section_line os) m₄ a₄ → Wrote m₄ a₄ (section_line xs) m₅ a₅ → Wrote m₅ a₅ (section_line gs) m₆ a₆ → Wrote m at (book_said words) m₆ a₆
unfolding book_said text_of book_text
book_written c er eo ea eg w₁ w₂ w₃ w₄ w₅ w₆ = rw (c.read, ← er, ← eo, ← ea, ← eg) (and_then w₁ (and_then w₂ (and_then w₃ (and_then w₄ (and_then w₅ w₆)))))
