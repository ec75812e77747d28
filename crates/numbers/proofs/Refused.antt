-- The numbers of refusals: none is 0, so an outcome's number tells whether something is wrong. Assumes nothing.
use Prim.Native.Nat.{ℕ}
use mathlib.Core.Path.{◌≡◌}
use native.Mathlib.Omega.{arith}
use Rattle.numbers.specs.declared.Refusal.{Refusal}
use Rattle.numbers.specs.declared.Refusal.TheVariants.{WrongLength, PastLimit, WrongForm, WrongRange, WrongLink, WrongUse, TooEarly, TooLate, TooNarrow, NotABit, NoRoom, ListTooShort, BadWord, CouldRunOut, TooWide, Nested, WrongKits, WindowTooLong, UnknownBarcode, DoesNotFit}
use Rattle.numbers.specs.Refusals.{number_of}

pub never_0 : (r : Refusal) → number_of r ≡ 0 → ⊥
never_0 WrongLength e = omega arith
never_0 PastLimit e = omega arith
never_0 WrongForm e = omega arith
never_0 WrongRange e = omega arith
never_0 WrongLink e = omega arith
never_0 WrongUse e = omega arith
never_0 TooEarly e = omega arith
never_0 TooLate e = omega arith
never_0 TooNarrow e = omega arith
never_0 NotABit e = omega arith
never_0 NoRoom e = omega arith
never_0 ListTooShort e = omega arith
never_0 BadWord e = omega arith
never_0 CouldRunOut e = omega arith
never_0 TooWide e = omega arith
never_0 Nested e = omega arith
never_0 WrongKits e = omega arith
never_0 WindowTooLong e = omega arith
never_0 UnknownBarcode e = omega arith
never_0 DoesNotFit e = omega arith
