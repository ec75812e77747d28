-- Steps of the reader of written properties. No public contract cites these. Definitions only.
use Rattle.std.specs.Prelude.{ℕ, ◌≤◌, ◌<◌, ◌≡◌, List, ◌∷◌, length, drop}
use Rattle.rule_scanner.specs.Symbols.{Placed, symbols_after}
use Rattle.rule_scanner.specs.declared.symbols.Symbol.{Symbol}
use Rattle.rule_scanner.specs.declared.symbols.Symbol.TheVariants.{End}

-- the symbols from a place on, where a new one may begin
abbrev pub symbols_from : List ℕ → ℕ → List Placed
symbols_from s i = symbols_after 0 i (drop i s)

-- a symbol was found: the first from a place on; the others are found from the next place on, which lies further, unless it is the end
pub record Next (s : List ℕ) (from : ℕ) (y : Symbol) (at next : ℕ) : Type 0 where
  pub later : List Placed
  pub first : symbols_from s from ≡ record { symbol = y; at = at } ∷ later
  pub others : (y ≡ End → ⊥) → later ≡ symbols_from s next
  pub further : (y ≡ End → ⊥) → from < next
  pub inside : next ≤ length s
