-- REFERENCE 7.3: numbers in decimal digits. Definitions only.
use Rattle.std.specs.Prelude.{◌≡◌, ℕ, zero, suc, ◌+◌, ◌-◌, ◌/◌, ◌%◌, Bool, true, false, List, [], ◌∷◌, ◌++◌, length, take, drop, ◌==◌, nat_le}
use Rattle.std.specs.Borrow.{MutBor}
use Rattle.text.specs.Words.{digit0, pick}

-- l where the test holds, else what f makes of d, which is not computed before
abbrev pub or_else : Bool → List ℕ → (ℕ → List ℕ) → ℕ → List ℕ
or_else true l f d = l
or_else false l f d = f d

-- the digits of n before those that follow, none where n is 0. The first number only bounds the steps, and n are enough
unfoldable pub digits_before : ℕ → ℕ → List ℕ → List ℕ
digits_before zero n l = l
digits_before (suc f) n l = or_else (n == 0) l (λ d. digits_before f (n / 10) (d ∷ l)) (digit0 + n % 10)

-- with steps enough
abbrev pub before : ℕ → List ℕ → List ℕ
before n l = digits_before n n l

-- a number's digits: at least one, and no zero before the others
unfoldable pub decimal : ℕ → List ℕ
decimal n = before (n / 10) ((digit0 + n % 10) ∷ [])

-- the digits, if there is room for them
unfoldable pub shown : ℕ → ℕ → List ℕ
shown n room = pick (nat_le (length (decimal n)) room) (decimal n) []

-- a scratch with them as its last bytes, the others unchanged
unfoldable pub lastly : ℕ → List ℕ → List ℕ
lastly n m = take (length m - length (shown n (length m))) m ++ shown n (length m)

-- the digits of n end a scratch of 20 bytes, from `first` on
pub record Counted (n : ℕ) (m : List ℕ) (first : ℕ) : Type 0 where
  pub size : length m ≡ 20
  pub digits : drop first m ≡ decimal n

-- r is a last part of s: it lies in the same memory, and ends where s ends
pub record LastOf (s r : MutBor (List ℕ)) : Type 0 where
  pub block : r.ref_ptr.0 ≡ s.ref_ptr.0
  pub ends : r.ref_ptr.1 + length r.now ≡ s.ref_ptr.1 + length s.now
