-- A byte's class as the code has it, by its number. Definitions only.
use Rattle.std.specs.Prelude.{ℕ}
use Rattle.rule_scanner.specs.declared.symbols.Class.{Class}
use Rattle.rule_scanner.specs.declared.symbols.Class.TheVariants.{Blank, Letter, Digit, Other}

abbrev pub class_number : Class → ℕ
class_number Blank = 0
class_number Letter = 1
class_number Digit = 2
class_number Other = 3
