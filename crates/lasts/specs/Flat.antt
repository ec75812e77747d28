-- REFERENCE 3.9: what the theorems of the lasting way ask of a book. Definitions only.
use Rattle.std.specs.Prelude.{ℕ, ◌≤◌, ◌≡◌, true}
use Rattle.pmtl.specs.Book.{Row, Rows, row_at, Ordered}
use Rattle.pmtl.specs.Book.Row.{never, always, atom, conj, disj, neg, implies, historically, once, since}
use Rattle.pmtl.specs.Flat.{flat}
use Rattle.pmtl.specs.Sets.{Way, lasting}

-- lower is not above upper, where a row has a range
abbrev pub Upward : {X : Type 0} → Row X → Type 0
Upward never = Unit {0}
Upward always = Unit {0}
Upward (atom a) = Unit {0}
Upward (conj xs) = Unit {0}
Upward (disj xs) = Unit {0}
Upward (neg x) = Unit {0}
Upward (implies x y) = Unit {0}
Upward (historically g x) = g.lower ≤ g.upper
Upward (once g x) = g.lower ≤ g.upper
Upward (since g x y) = g.lower ≤ g.upper

-- what the theorems ask of the rows of a book: it is flat, and is not refused with 4 or 5
pub record Taken (b : Rows) : Type 0 where
  pub ordered : Ordered b
  pub flat_rows : flat b ≡ true
  pub ranges : (r : ℕ) → Upward (row_at b r)

-- what those of either way ask
pub record Fit (way : Way) (b : Rows) : Type 0 where
  pub ordered : Ordered b
  pub taken : way ≡ lasting → Taken b
