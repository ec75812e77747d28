-- What is asked of a book: that it is as loading accepts them. Definitions only.
use Rattle.std.specs.Prelude.{ℕ, ◌≤◌, ◌<◌, ◌≡◌, ◌⊎◌, List, [], ◌∷◌, length, get_or}
use Rattle.numbers.specs.Limits.{MAX, LAST_TIME}
use Rattle.pmtl.specs.Book.{Range, Row, Rows, row_at, Book, AllBelow, Ordered}
use Rattle.pmtl.specs.Book.Row.{never, always, atom, conj, disj, neg, implies, historically, once, since}

-- a range that is not refused with 4 (REFERENCE 1.3)
pub record Fit (g : Range) : Type 0 where
  pub ordered : g.lower ≤ g.upper
  pub low : g.lower ≤ LAST_TIME
  pub high : (g.upper ≤ LAST_TIME) ⊎ (g.upper ≡ MAX)

-- a row with such a range, if it has one
abbrev pub RowFit : Row ℕ → Type 0
RowFit never = Unit {0}
RowFit always = Unit {0}
RowFit (atom a) = Unit {0}
RowFit (conj os) = Unit {0}
RowFit (disj os) = Unit {0}
RowFit (neg o) = Unit {0}
RowFit (implies x y) = Unit {0}
RowFit (historically g o) = Fit g
RowFit (once g o) = Fit g
RowFit (since g x y) = Fit g

-- every row is one
abbrev pub Fits : Rows → Type 0
Fits b = (r : ℕ) → RowFit (row_at b r)

-- x stands in the list
abbrev pub In : ℕ → List ℕ → Type 0
In x xs = (i : ℕ) × (i < length xs) × (get_or xs i 0 ≡ x)

-- the operands of a row
abbrev pub operands_in : Row ℕ → List ℕ
operands_in never = []
operands_in always = []
operands_in (atom a) = []
operands_in (conj os) = os
operands_in (disj os) = os
operands_in (neg o) = o ∷ []
operands_in (implies x y) = x ∷ y ∷ []
operands_in (historically g o) = o ∷ []
operands_in (once g o) = o ∷ []
operands_in (since g x y) = x ∷ y ∷ []

-- a row is a property, or an operand of a row
pub data UsedIn (b : Book) (r : ℕ) : Type 0 where
  assume : In r b.assumes → UsedIn b r
  guarantee : In r b.guarantees → UsedIn b r
  operand : (q : ℕ) → q < length b.rows → In r (operands_in (row_at b.rows q)) → UsedIn b r

-- every row is
abbrev pub Used : Book → Type 0
Used b = (r : ℕ) → r < length b.rows → UsedIn b r

-- a book as loading accepts them: operands below their owners, ranges as above, properties that are rows, every row in use
pub record Proper (b : Book) : Type 0 where
  pub ordered : Ordered b.rows
  pub ranges : Fits b.rows
  pub assumes_there : AllBelow (length b.rows) b.assumes
  pub guarantees_there : AllBelow (length b.rows) b.guarantees
  pub used : Used b
