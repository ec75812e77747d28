-- The formulas that a book's rows stand for, operands in order, and the original for a book. Definitions only.
use Rattle.std.specs.Prelude.{ℕ, List, [], ◌∷◌, map}
use Rattle.pmtl.specs.Book.{Row, Rows, Book, answer}
use Rattle.pmtl.specs.Book.Row.{never, always, atom, conj, disj, neg, implies, historically, once, since}
use Rattle.original.specs.ValPmtl.{Pmtl, Pmtls}
use Rattle.original.specs.PmtlOracle.{PmtlOracle, new}

-- a Vec of formulas
unfoldable pub vec : List Pmtl → Pmtls
vec [] = Pmtls.nil
vec (f ∷ fs) = Pmtls.cons f (vec fs)

-- a row as a formula, from its operands as formulas
unfoldable pub formula_rule : Row Pmtl → Pmtl
formula_rule never = Pmtl.False
formula_rule always = Pmtl.True
formula_rule (atom a) = Pmtl.Atom a
formula_rule (conj fs) = Pmtl.And (vec fs)
formula_rule (disj fs) = Pmtl.Or (vec fs)
formula_rule (neg f) = Pmtl.Not f
formula_rule (implies l r) = Pmtl.Implies l r
formula_rule (historically g f) = Pmtl.Historically f g
formula_rule (once g f) = Pmtl.Once f g
formula_rule (since g l r) = Pmtl.Since l r g

-- the formula of a row
unfoldable pub formula : Rows → ℕ → Pmtl
formula b = answer b Pmtl.False (λ r row. formula_rule row)

-- the original for a book: the formulas of its assumes and of its guarantees
unfoldable pub oracle_of : Book → PmtlOracle
oracle_of b = new (map (formula b.rows) b.assumes) (map (formula b.rows) b.guarantees)
