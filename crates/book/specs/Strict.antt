-- REFERENCE 2.8: what strict loading refuses. Definitions only.
use Rattle.std.specs.Prelude.{ℕ, Bool, true, false, cond, Option, Some, None}
use Rattle.numbers.specs.Refusals.{COULD_RUN_OUT}
use Rattle.pmtl.specs.Book.{Rows, row_at}
use Rattle.pmtl.specs.Strict.{needed_by, first_over, any_over}
use Rattle.book.specs.declared.loading.Loading.{Loading}
use Rattle.book.specs.declared.loading.Loading.TheVariants.{Ordinary, Strict, Lasting, LastingStrict}
use Rattle.book.specs.declared.strict.Excess.{Excess}
use Rattle.book.specs.Judging.{Loaded, refused_with}

-- a row that can need more runs than a set may have, and how many it can need
abbrev pub over : ℕ → ℕ → Excess
over row count = record { row = row; count = count }

-- the first such row, if there is one
unfoldable pub excess_in : Rows → Option Excess
excess_in b = cond (any_over b) (Some (over (first_over b) (needed_by (row_at b (first_over b))))) None

-- the ways of loading that are strict
abbrev pub strictly : Loading → Bool
strictly Ordinary = false
strictly Strict = true
strictly Lasting = false
strictly LastingStrict = true

-- the others look for none
abbrev pub excess_by : Loading → Rows → Option Excess
excess_by way b = cond (strictly way) (excess_in b) None

-- a book that has one is refused, one that is refused already stays so: its book is empty
abbrev pub unless : Option Excess → Loaded → Loaded
unless None l = l
unless (Some e) l = refused_with COULD_RUN_OUT

-- what is left of a book that was judged
abbrev pub roomed : Loading → Loaded → Loaded
roomed way l = unless (excess_by way l.book.rows) l
