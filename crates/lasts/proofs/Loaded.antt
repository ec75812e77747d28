-- The book that is loaded has what either way asks of it: one that is accepted, and the empty one that a refusal leaves. Assumes nothing.
use Prim.Native.Nat.{ℕ, zero, suc, ◌<◌}
use native.Mathlib.Omega.{arith}
use native.Mathlib.Decide.{dec_lt}
use mathlib.Core.Path.{◌≡◌}
use mathlib.Core.Bool.{true}
use mathlib.Core.List.{List, []}
use Rattle.lists.proofs.Listed.{listed_length, listed_at}
use Rattle.pmtl.specs.Book.{Book, empty_book, row_at, Ordered}
use Rattle.pmtl.specs.Book.Row.{never}
use Rattle.pmtl.specs.Flat.{flat}
use Rattle.pmtl.specs.Sets.{Way}
use Rattle.pmtl.proofs.Table.{row_out}
use Rattle.pmtl.proofs.Flat.{none_flat}
use Rattle.book.specs.Rows.{row_from}
use Rattle.book.specs.Reading.{Sections}
use Rattle.book.specs.Judging.{rows_in, range_good, judged, row_in, book_in, Loaded, loaded_from, loaded}
use Rattle.book.specs.declared.loading.Loading.{Loading}
use Rattle.book.specs.Loading.{way_in, admitted, loaded_by}
use Rattle.book.proofs.Accepted.{range, range_ordered}
use Rattle.book.proofs.Ordered.{book_ordered}
use Rattle.book.proofs.Admitted.{admitted_flat, admitted_any, loaded_any, words_any}
use Rattle.lasts.specs.Flat.{Upward, Taken, Fit}

-- ---- rows
row_upward : (kind arg lower upper : ℕ) (os : List ℕ) → range_good lower upper ≡ true → Upward (row_from kind arg lower upper os)
unfolding row_from
row_upward zero arg lower upper os h = tt
row_upward (suc zero) arg lower upper os h = tt
row_upward (suc (suc zero)) arg lower upper os h = tt
row_upward (suc (suc (suc zero))) arg lower upper os h = tt
row_upward (suc (suc (suc (suc zero)))) arg lower upper os h = tt
row_upward (suc (suc (suc (suc (suc zero))))) arg lower upper os h = tt
row_upward (suc (suc (suc (suc (suc (suc zero)))))) arg lower upper os h = tt
row_upward (suc (suc (suc (suc (suc (suc (suc zero))))))) arg lower upper os h = range_ordered lower upper h
row_upward (suc (suc (suc (suc (suc (suc (suc (suc zero)))))))) arg lower upper os h = range_ordered lower upper h
row_upward (suc (suc (suc (suc (suc (suc (suc (suc (suc zero))))))))) arg lower upper os h = range_ordered lower upper h
row_upward (suc (suc (suc (suc (suc (suc (suc (suc (suc (suc k)))))))))) arg lower upper os h = tt

-- ---- books
-- operands below their owners, and no lower above its upper
record Sane (b : Book) : Type 0 where
  ordered : Ordered b.rows
  ranges : (r : ℕ) → Upward (row_at b.rows r)

empty_sane : Sane empty_book
empty_sane = record { ordered = λ r. tt; ranges = λ r. tt }

accepted_sane : (s : Sections) → judged s ≡ 0 → Sane (book_in s)
unfolding book_in row_in
accepted_sane s ok = record { ordered = book_ordered s ok; ranges = λ r. go r (dec_lt r (rows_in s)) }
  where
    go : (r : ℕ) → Dec (r < rows_in s) → Upward (row_at (book_in s).rows r)
    go r (yes h) = rw (listed_at (row_in s) never (rows_in s) r h) (row_upward _ _ _ _ _ (range s ok r h))
    go r (no h) = rw (row_out (book_in s).rows r (omega (arith, listed_length (row_in s) (rows_in s)))) tt

-- the lasting way takes it if it is flat
pub accepted_taken : (s : Sections) → judged s ≡ 0 → flat (book_in s).rows ≡ true → Taken (book_in s).rows
accepted_taken s ok f = let a = accepted_sane s ok in record { ordered = a.ordered; flat_rows = f; ranges = a.ranges }

-- in each way of loading
fit_by : (way : Loading) (l : Loaded) → Sane l.book → Fit (way_in way) (admitted way l).book.rows
fit_by way l sane =
    let a = admitted_any Sane empty_sane way l sane in
    record { ordered = a.ordered; taken = λ e. record { ordered = a.ordered; flat_rows = admitted_flat way e l; ranges = a.ranges } }

pub words_fit : (way : Loading) (words : List ℕ) → Fit (way_in way) (loaded_by way words).book.rows
words_fit way words = fit_by way (loaded words) (words_any Sane empty_sane accepted_sane words)

pub sections_fit : (way : Loading) (s : Sections) → Fit (way_in way) (admitted way (loaded_from s)).book.rows
sections_fit way s = fit_by way (loaded_from s) (loaded_any Sane empty_sane accepted_sane s)

-- so has the empty book alone
pub empty_fit : (way : Way) → Fit way []
empty_fit way = record { ordered = λ r. tt; taken = λ e. record { ordered = λ r. tt; flat_rows = none_flat; ranges = λ r. tt } }
