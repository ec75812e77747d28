-- How a text may differ from the writing of what it is read as: the largest number as an upper bound, in digits, is `*`: 02, Ask 3. Definitions only.
use Rattle.std.specs.Prelude.{Bool, true, false, List, [], ◌∷◌}
use Rattle.rule_scanner.specs.Writing.{upper_said}
use Rattle.rule_scanner.specs.declared.symbols.Symbol.{Symbol}
use Rattle.rule_scanner.specs.declared.symbols.Symbol.TheVariants.{Name, Number, Left, Right, Opens, Closes, Comma, Star, Bad, End}

abbrev pub is_comma : Symbol → Bool
is_comma (Name w) = false
is_comma (Number n) = false
is_comma Left = false
is_comma Right = false
is_comma Opens = false
is_comma Closes = false
is_comma Comma = true
is_comma Star = false
is_comma Bad = false
is_comma End = false

-- a number as it is written for an upper bound
abbrev pub plainly : Symbol → Symbol
plainly (Name w) = Name w
plainly (Number n) = upper_said n
plainly Left = Left
plainly Right = Right
plainly Opens = Opens
plainly Closes = Closes
plainly Comma = Comma
plainly Star = Star
plainly Bad = Bad
plainly End = End

abbrev pub starred_one : Bool → Symbol → Symbol
starred_one true y = plainly y
starred_one false y = y

-- numbers that stand next after a comma, as upper bounds are written; the first symbol stands after c. Nothing else is changed
unfoldable pub starred : Symbol → List Symbol → List Symbol
starred c [] = []
starred c (y ∷ ys) = starred_one (is_comma c) y ∷ starred y ys
