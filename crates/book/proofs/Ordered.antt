-- In an accepted book operands are below their owners. Assumes nothing.
use Prim.Native.Nat.{ℕ, zero, suc, ◌<◌}
use native.Mathlib.Omega.{arith}
use native.Mathlib.Decide.{dec_lt}
use mathlib.Core.Path.{◌≡◌}
use mathlib.Core.List.{List, [], ◌∷◌}
use lib.ListN.{get_or, take}
use lib.Seq.{get_or-drop}
use Rattle.lists.proofs.Listed.{listed_length, listed_at}
use Rattle.pmtl.specs.Book.{row_at, AllBelow, Below, Ordered}
use Rattle.pmtl.specs.Book.Row.{never}
use Rattle.pmtl.proofs.Table.{row_out}
use Rattle.book.specs.Rows.{row_from, count_of}
use Rattle.book.specs.Reading.{Sections}
use Rattle.book.specs.Judging.{rows_in, start_in, judged, row_in, book_in}
use Rattle.book.proofs.Accepted.{operand_below}

take_below : (n : ℕ) (os : List ℕ) (r : ℕ) → ((k : ℕ) → k < n → get_or os k 0 < r) → AllBelow r (take n os)
take_below zero os r f = tt
take_below (suc n) [] r f = tt
take_below (suc n) (o ∷ os) r f = (f 0 (omega arith), take_below n os r (λ k h. f (suc k) (omega arith)))

row_below : (kind arg lower upper : ℕ) (os : List ℕ) (r : ℕ) → ((k : ℕ) → k < count_of kind arg → get_or os k 0 < r) → Below r (row_from kind arg lower upper os)
unfolding row_from count_of
row_below zero arg lower upper os r f = tt
row_below (suc zero) arg lower upper os r f = tt
row_below (suc (suc zero)) arg lower upper os r f = tt
row_below (suc (suc (suc zero))) arg lower upper os r f = take_below arg os r f
row_below (suc (suc (suc (suc zero)))) arg lower upper os r f = take_below arg os r f
row_below (suc (suc (suc (suc (suc zero))))) arg lower upper os r f = f 0 (omega arith)
row_below (suc (suc (suc (suc (suc (suc zero)))))) arg lower upper os r f = (f 0 (omega arith), f 1 (omega arith))
row_below (suc (suc (suc (suc (suc (suc (suc zero))))))) arg lower upper os r f = f 0 (omega arith)
row_below (suc (suc (suc (suc (suc (suc (suc (suc zero)))))))) arg lower upper os r f = f 0 (omega arith)
row_below (suc (suc (suc (suc (suc (suc (suc (suc (suc zero))))))))) arg lower upper os r f = (f 0 (omega arith), f 1 (omega arith))
row_below (suc (suc (suc (suc (suc (suc (suc (suc (suc (suc n)))))))))) arg lower upper os r f = tt

pub book_ordered : (s : Sections) → judged s ≡ 0 → Ordered (book_in s).rows
unfolding book_in row_in
book_ordered s ok r = go (dec_lt r (rows_in s))
  where
    go : Dec (r < rows_in s) → Below r (row_at (book_in s).rows r)
    go (yes h) = rw (listed_at (row_in s) never (rows_in s) r h)
        (row_below _ _ _ _ _ r (λ k l. rw (get_or-drop (start_in s.rows r) s.operands k 0) (operand_below s ok r h k l)))
    go (no h) = rw (row_out (book_in s).rows r (omega (arith, listed_length (row_in s) (rows_in s)))) tt
