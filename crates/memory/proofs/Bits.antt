-- A word that is a bit says what it was made of. Assumes nothing.
use mathlib.Core.Path.{◌≡◌, refl}
use mathlib.Core.Bool.{Bool, true, false}
use Rattle.pmtl.specs.Answer.{bit_of}
use Rattle.memory.specs.Memory.{is_one}

pub bit_back : (b : Bool) → is_one (bit_of b) ≡ b
bit_back true = refl
bit_back false = refl
