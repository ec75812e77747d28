-- Barcodes by their place among those of the desk: where none is given twice, a scan is of a barcode exactly if it has that barcode's place.
-- Assumes nothing.
use Prim.Native.Nat.{ℕ, zero, suc, ◌*◌, ◌<◌}
use native.Mathlib.Omega.{arith}
use mathlib.Core.Path.{◌≡◌, refl, sym, ap, ◌∙◌}
use mathlib.Core.Bool.{Bool, true, false, cond, ◌||◌}
use mathlib.Core.List.{List, [], ◌∷◌}
use lib.ListN.{length, get_or, length-map}
use lib.Dec.{eqb, ltb}
use borrow.Author.Tests.{eqb-true, eq-eqb, ne_eqb, lt-ltb, ltb-true}
use Rattle.lists.proofs.Tests.{clash, same_test}
use Rattle.pmtl.specs.Book.{some}
use Rattle.desk_rules.specs.Scans.{Kit, kit_at, codes, window_of, windows, repeats}
use Rattle.desk_rules.specs.Rows.{PROMISE, HANDOUT, RETURN, KIT_ATOMS, atom_of}
use Rattle.desk_rules.specs.Desk.{place_of}

-- a test of two parts that fails
pub or_fails_left : (a b : Bool) → (a || b) ≡ false → a ≡ false
or_fails_left true b h = h
or_fails_left false b h = refl

pub or_fails_right : (a b : Bool) → (a || b) ≡ false → b ≡ false
or_fails_right true b h = absurd (clash refl h)
or_fails_right false b h = h

-- tests of successors
eqb_suc : (a b : ℕ) → eqb (suc a) (suc b) ≡ eqb a b
eqb_suc a b = same_test _ _ (λ e. eq-eqb a b (omega (arith, eqb-true (suc a) (suc b) e))) (λ e. eq-eqb (suc a) (suc b) (ap suc (eqb-true a b e)))

ltb_suc : (a b : ℕ) → ltb (suc a) (suc b) ≡ ltb a b
ltb_suc a b = same_test _ _ (λ e. lt-ltb a b (omega (arith, ltb-true (suc a) (suc b) e))) (λ e. lt-ltb (suc a) (suc b) (omega (arith, ltb-true a b e)))

-- ---- one among others
other_at : (x : ℕ) (xs : List ℕ) (j : ℕ) → some (eqb x) xs ≡ false → j < length xs → eqb x (get_or xs j 0) ≡ false
unfolding some
other_at x [] j h l = absurd (omega arith)
other_at x (y ∷ xs) zero h l = or_fails_left (eqb x y) (some (eqb x) xs) h
other_at x (y ∷ xs) (suc j) h l = other_at x xs j (or_fails_right (eqb x y) (some (eqb x) xs) h) (omega arith)

-- where none is given twice, the barcode with place j is the one at j
pub place_is : (c : ℕ) (xs : List ℕ) (j : ℕ) → repeats xs ≡ false → j < length xs → eqb (place_of c xs) j ≡ eqb c (get_or xs j 0)
unfolding place_of repeats
place_is c [] j h l = absurd (omega arith)
place_is c (x ∷ xs) j h l = go (eqb c x) refl j l (λ i m. place_is c xs i (or_fails_right (some (eqb x) xs) (repeats xs) h) m)
  where
    go : (z : Bool) → eqb c x ≡ z → (j : ℕ) → j < suc (length xs) → ((i : ℕ) → i < length xs → eqb (place_of c xs) i ≡ eqb c (get_or xs i 0))
        → eqb (cond z 0 (suc (place_of c xs))) j ≡ eqb c (get_or (x ∷ xs) j 0)
    go true z zero l ih = sym z
    go true z (suc j) l ih = let e : c ≡ x = eqb-true c x z in ne_eqb 0 (suc j) (λ q. omega arith) ∙ rw e (sym (other_at x xs j (or_fails_left (some (eqb x) xs) (repeats xs) h) (omega arith)))
    go false z zero l ih = ne_eqb (suc (place_of c xs)) 0 (λ e. omega arith) ∙ sym z
    go false z (suc j) l ih = eqb_suc (place_of c xs) j ∙ ih j (omega arith)

-- a barcode is among others exactly if its place is
pub place_in : (c : ℕ) (xs : List ℕ) → ltb (place_of c xs) (length xs) ≡ some (eqb c) xs
unfolding place_of some
place_in c [] = refl
place_in c (x ∷ xs) = go (eqb c x) (place_in c xs)
  where
    go : (z : Bool) → ltb (place_of c xs) (length xs) ≡ some (eqb c) xs → ltb (cond z 0 (suc (place_of c xs))) (suc (length xs)) ≡ (z || some (eqb c) xs)
    go true ih = lt-ltb 0 (suc (length xs)) (omega arith)
    go false ih = ltb_suc (place_of c xs) (length xs) ∙ ih

-- ---- the barcodes of kits
pub codes_length : (kits : List Kit) → length (codes kits) ≡ KIT_ATOMS * length kits
codes_length [] = refl
codes_length (x ∷ kits) = omega (arith, codes_length kits)

code_at : (kits : List Kit) (k i : ℕ) → k < length kits → i < 3
    → get_or (codes kits) (atom_of k i) 0 ≡ get_or ((kit_at kits k).promise ∷ (kit_at kits k).handout ∷ (kit_at kits k).return ∷ []) i 0
code_at [] k i h l = absurd (omega arith)
code_at (x ∷ kits) zero zero h l = refl
code_at (x ∷ kits) zero (suc zero) h l = refl
code_at (x ∷ kits) zero (suc (suc zero)) h l = refl
code_at (x ∷ kits) zero (suc (suc (suc i))) h l = absurd (omega arith)
code_at (x ∷ kits) (suc k) i h l =
    let e : atom_of (suc k) i ≡ suc (suc (suc (atom_of k i))) = omega arith in
    rw e (code_at kits k i (omega arith) l)

module _ (kits : List Kit) (apart : repeats (codes kits) ≡ false) (c k : ℕ) (l : k < length kits) where
  here : (i : ℕ) → i < 3 → eqb (place_of c (codes kits)) (atom_of k i) ≡ eqb c (get_or ((kit_at kits k).promise ∷ (kit_at kits k).handout ∷ (kit_at kits k).return ∷ []) i 0)
  here i h = place_is c (codes kits) (atom_of k i) apart (omega (arith, codes_length kits)) ∙ ap (eqb c) (code_at kits k i l h)

  pub promise_place : eqb (place_of c (codes kits)) (atom_of k PROMISE) ≡ eqb c (kit_at kits k).promise
  promise_place = here 0 (omega arith)

  pub handout_place : eqb (place_of c (codes kits)) (atom_of k HANDOUT) ≡ eqb c (kit_at kits k).handout
  handout_place = here 1 (omega arith)

  pub return_place : eqb (place_of c (codes kits)) (atom_of k RETURN) ≡ eqb c (kit_at kits k).return
  return_place = here 2 (omega arith)

pub windows_length : (kits : List Kit) → length (windows kits) ≡ length kits
windows_length kits = length-map kits window_of
