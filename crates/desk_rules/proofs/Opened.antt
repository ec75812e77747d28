-- What is so of the desk of any kits: it has no kit where they are refused, and nothing is wrong with it. Assumes nothing.
use Prim.Native.Nat.{ℕ, zero, suc, ◌≤◌}
use native.Mathlib.Omega.{arith}
use mathlib.Core.Path.{◌≡◌, refl}
use mathlib.Core.Bool.{Bool, true, false, cond, ◌||◌}
use mathlib.Core.List.{List, [], ◌∷◌}
use lib.ListN.{length}
use lib.Dec.{eqb, ltb}
use borrow.Author.Tests.{eqb-true, eq-eqb, ne_eqb, ltb-false}
use Rattle.numbers.specs.Limits.{LAST_TIME, MOST_KITS}
use Rattle.numbers.specs.Refusals.{WINDOW_TOO_LONG, ACCEPTED}
use Rattle.pmtl.specs.Book.{some}
use Rattle.pmtl.proofs.Calls.{first_zero}
use Rattle.desk_rules.specs.Scans.{Kit, kit_at, codes, windows, repeats, open_number, desk_of, Fine}
use Rattle.desk_rules.proofs.Places.{or_fails_left, or_fails_right}

all_small : (kits : List Kit) → some (ltb LAST_TIME) (windows kits) ≡ false → (k : ℕ) → (kit_at kits k).window ≤ LAST_TIME
unfolding some
all_small [] h k = omega arith
all_small (x ∷ kits) h zero = ltb-false LAST_TIME x.window (or_fails_left (ltb LAST_TIME x.window) (some (ltb LAST_TIME) (windows kits)) h)
all_small (x ∷ kits) h (suc k) = all_small kits (or_fails_right (ltb LAST_TIME x.window) (some (ltb LAST_TIME) (windows kits)) h) k

pub accepted_fine : (kits : List Kit) → open_number kits ≡ 0 → Fine kits
unfolding open_number
accepted_fine kits e =
    let none = eqb (length kits) 0 in
    let many = ltb MOST_KITS (length kits) in
    let twice = repeats (codes kits) in
    let p = first_zero (none || many || twice) 17 (cond (some (ltb LAST_TIME) (windows kits)) WINDOW_TOO_LONG ACCEPTED) e in
    let q = first_zero (some (ltb LAST_TIME) (windows kits)) 18 ACCEPTED p.1 in
    let r = or_fails_left (none || many) twice p.0 in
    record {
      few = ltb-false MOST_KITS (length kits) (or_fails_right none many r);
      apart = or_fails_right (none || many) twice p.0;
      small = all_small kits q.0;
    }

pub none_fine : Fine []
unfolding repeats
none_fine = record { few = omega arith; apart = refl; small = λ k. omega arith }

-- the desk of kits: none where they are refused, else these
pub refused_desk : (kits : List Kit) → ¬ (open_number kits ≡ 0) → desk_of kits ≡ []
unfolding desk_of
refused_desk kits n = rw (ne_eqb (open_number kits) 0 n)

pub accepted_desk : (kits : List Kit) → open_number kits ≡ 0 → desk_of kits ≡ kits
unfolding desk_of
accepted_desk kits e = rw (eq-eqb (open_number kits) 0 e)

-- whatever the kits
pub desk_fine : (kits : List Kit) → Fine (desk_of kits)
unfolding desk_of
desk_fine kits = go (eqb (open_number kits) 0) refl
  where
    go : (z : Bool) → eqb (open_number kits) 0 ≡ z → Fine (cond z kits [])
    go true z = accepted_fine kits (eqb-true (open_number kits) 0 z)
    go false z = none_fine
