-- REFERENCE 3.9: the books that the lasting way takes: no temporal row lies below another. Definitions only.
use Rattle.std.specs.Prelude.{ℕ, Bool, true, not, ◌||◌}
use Rattle.pmtl.specs.Book.{Row, map_row, Rows, every, moves}
use Rattle.pmtl.specs.Book.Row.{never, always, atom, conj, disj, neg, implies, historically, once, since}

-- no operand of a temporal row moves with the clock: from whether the operands do
unfoldable pub flat_rule : Row Bool → Bool
flat_rule never = true
flat_rule always = true
flat_rule (atom a) = true
flat_rule (conj ms) = true
flat_rule (disj ms) = true
flat_rule (neg m) = true
flat_rule (implies m n) = true
flat_rule (historically g m) = not m
flat_rule (once g m) = not m
flat_rule (since g m n) = not (m || n)

-- no temporal row lies below another
unfoldable pub flat : Rows → Bool
flat b = every (λ (row : Row ℕ). flat_rule (map_row (moves b) row)) b
