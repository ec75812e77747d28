-- Steps of walking a book's rows as they are printed. No public contract but that of `print_book` cites these. Definitions only.
use Rattle.std.specs.Prelude.{ℕ, ◌-◌, Bool, true, false, List, [], ◌∷◌, ◌++◌, length, drop, eqb}
use Rattle.pmtl.specs.Book.{Rows, row_at}
use Rattle.trees.specs.Books.{head_in, parts_in, trees_of}
use Rattle.rule_scanner.specs.Writing.{written, shut}
use Rattle.rule_scanner.specs.declared.symbols.Symbol.{Symbol}
use Rattle.rule_scanner.specs.declared.symbols.Symbol.TheVariants.{Comma}

-- a comma before each part but the first
abbrev pub comma_unless : Bool → List Symbol
comma_unless true = []
comma_unless false = Comma ∷ []

-- the last parts of a row, so many, and what closes it
unfoldable pub rest_said : Rows → ℕ → ℕ → List Symbol
rest_said b row left =
    let parts = parts_in (row_at b row) in
    written (comma_unless (eqb left (length parts))) (Comma ∷ []) (trees_of b (drop (length parts - left) parts)) ++ shut (head_in (row_at b row)).word
