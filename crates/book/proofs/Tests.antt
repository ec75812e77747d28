-- What a number says of the tests that it was picked by. Assumes nothing.
use mathlib.Core.Path.{◌≡◌, refl}
use mathlib.Core.Bool.{Bool, true, false, cond, not}
use Prim.Native.Nat.{ℕ, zero, suc, ◌<◌}
use native.Mathlib.Omega.{arith}
use Rattle.book.specs.Judging.{first_of}

-- a numberUnless that did not come: its test passed, and what comes after it is 0
pub passed : (b : Bool) (n x : ℕ) → 0 < n → cond (not b) n x ≡ 0 → b ≡ true
passed true n x p h = refl
passed false n x p h = absurd (omega arith)

pub after_passed : (b : Bool) (n x : ℕ) → 0 < n → cond (not b) n x ≡ 0 → x ≡ 0
after_passed true n x p h = h
after_passed false n x p h = absurd (omega arith)

pub not_held : (b : Bool) (n x : ℕ) → 0 < n → cond b n x ≡ 0 → b ≡ false
not_held true n x p h = absurd (omega arith)
not_held false n x p h = refl

pub first_none : (a m : ℕ) → first_of a m ≡ 0 → a ≡ 0
first_none zero m h = refl
first_none (suc n) m h = h

pub then_none : (a m : ℕ) → first_of a m ≡ 0 → m ≡ 0
then_none zero m h = h
then_none (suc n) m h = absurd (omega arith)
