-- What a byte is to a word. A private step: the contracts of `digit` and `number_here` alone cite it. Assumes nothing.
use Rattle.std.specs.Prelude.{ℕ, ◌-◌, Option, Some, None}
use Rattle.text.specs.Words.{digit0, pick, digit}

-- a digit's value
unfoldable pub value_of : ℕ → Option ℕ
value_of b = pick (digit b) (Some (b - digit0)) None
