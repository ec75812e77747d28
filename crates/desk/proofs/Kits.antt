-- Kits as they are given: one more of them, and what is wrong with them. Assumes nothing.
use Prim.Native.Nat.{ℕ, zero, suc, ◌+◌, ◌*◌, ◌-◌, ◌≤◌, ◌<◌}
use native.Mathlib.Omega.{arith}
use native.Mathlib.Decide.{ℕ_discrete}
use mathlib.Core.Path.{◌≡◌, refl, sym, ap, ◌∙◌}
use mathlib.Core.Bool.{Bool, true, false, cond, ◌||◌, or-false, or-true}
use mathlib.Core.List.{List, [], ◌∷◌, ◌++◌, map-append}
use lib.ListN.{length, get_or, set, take, drop, replicate, length-drop, length-replicate, drop_of_length-le}
use lib.Seq.{sets, length-sets, drop-cons, take_all}
use lib.Dec.{ltb, eqb}
use borrow.Author.Tests.{eq-eqb, ne_eqb, le-ltb, lt-ltb, ltb-false}
use Rattle.std.specs.Prelude.{Some, None, position}
use Rattle.std.specs.Option.{unwrap_or}
use Rattle.std.specs.List.{list_any, position_or_len}
use Rattle.std.proofs.lemmas.List.Recursion.{is_position_or_len}
use Rattle.numbers.specs.Limits.{LAST_TIME, MOST_KITS}
use Rattle.lists.specs.Lists.{listed, part, put}
use Rattle.lists.proofs.Tests.{clash}
use Rattle.lists.proofs.Listed.{listed_length}
use Rattle.lists.proofs.Parts.{part_is}
use Rattle.pmtl.specs.Book.{some}
use Rattle.trees.proofs.Built.{take_sets, copied}
use Rattle.desk_rules.specs.Scans.{Kit, codes, window_of, windows, repeats, open_number}
use Rattle.desk_rules.specs.Desk.{place_of}
use Rattle.desk_rules.proofs.Places.{codes_length}
use Rattle.desk.specs.Kits.{KIT_WORDS, MOST_BARCODES, kit_in, kits_in}

eqb_sym : (a b : ℕ) → eqb a b ≡ eqb b a
eqb_sym a b = go (ℕ_discrete a b)
  where
    go : Dec (a ≡ b) → eqb a b ≡ eqb b a
    go (yes e) = rw e
    go (no n) = ne_eqb a b n ∙ sym (ne_eqb b a (λ e. n (sym e)))

-- ---- where a barcode stands
pub place_inside : (c : ℕ) (xs : List ℕ) → place_of c xs ≤ length xs
unfolding place_of
place_inside c [] = omega arith
place_inside c (x ∷ xs) = go (eqb c x) (place_inside c xs)
  where
    go : (z : Bool) → place_of c xs ≤ length xs → cond z 0 (suc (place_of c xs)) ≤ suc (length xs)
    go true h = omega arith
    go false h = omega arith

or_length : (n m : ℕ) → n ≤ m → unwrap_or (cond (ltb n m) (Some n) None) m ≡ n
or_length n m h = go (ltb n m) refl
  where
    go : (z : Bool) → ltb n m ≡ z → unwrap_or (cond z (Some n) None) m ≡ n
    go true e = refl
    go false e = omega (arith, ltb-false n m e)

-- the first place of a barcode, or else how many barcodes there are
pub place_is : (c : ℕ) (xs : List ℕ) → unwrap_or (position (λ x. eqb x c) xs) (length xs) ≡ place_of c xs
unfolding place_of
place_is c xs =
    let next : (y : ℕ) (ys : List ℕ) → place_of c (y ∷ ys) ≡ cond (eqb y c) 0 (1 + place_of c ys) = λ y ys.
    let z : suc (place_of c ys) ≡ 1 + place_of c ys = omega arith in ap (cond (eqb c y) 0) z ∙ ap (λ b. cond b 0 (1 + place_of c ys)) (eqb_sym c y) in
    let e : place_of c xs ≡ position_or_len (λ x. eqb x c) xs = is_position_or_len (place_of c) (λ x. eqb x c) refl next xs in
    or_length (position_or_len (λ x. eqb x c) xs) (length xs) (rw (← e) (place_inside c xs)) ∙ sym e

-- ---- one given twice
-- none of the first i is
pub record Apart (xs : List ℕ) (i : ℕ) : Type 0 where
  pub owed : repeats xs ≡ repeats (drop i xs)

pub apart_start : (xs : List ℕ) → Apart xs 0
apart_start xs = record { owed = refl }

repeats_cons : (x : ℕ) (xs : List ℕ) → repeats (x ∷ xs) ≡ (some (eqb x) xs || repeats xs)
unfolding repeats
repeats_cons x xs = refl

any_same : (c : ℕ) (xs : List ℕ) → some (eqb c) xs ≡ list_any (λ y. eqb y c) xs
unfolding some
any_same c [] = refl
any_same c (x ∷ xs) = rw (eqb_sym c x, any_same c xs)

apart_here : (xs : List ℕ) (i : ℕ) (z : Bool) → Apart xs i → i < length xs → some (eqb (get_or xs i 0)) (drop (suc i) xs) ≡ z
    → repeats xs ≡ (z || repeats (drop (suc i) xs))
apart_here xs i z a h e = a.owed ∙ ap repeats (drop-cons xs i 0 h) ∙ repeats_cons (get_or xs i 0) (drop (suc i) xs) ∙ ap (λ y. y || repeats (drop (suc i) xs)) e

-- whether barcode i is one of those after it
module _ (xs : List ℕ) (i : ℕ) {r : Bool} (a : Apart xs i) (h : i < length xs) (e : r ≡ list_any (λ y. eqb y (get_or xs i 0)) (take (length xs - (i + 1)) (drop (i + 1) xs))) where
  later : some (eqb (get_or xs i 0)) (drop (suc i) xs) ≡ r
  later =
      let s : i + 1 ≡ suc i = omega arith in
      let n = length-drop (i + 1) xs in
      any_same (get_or xs i 0) (drop (suc i) xs) ∙ sym (e ∙ ap (list_any (λ y. eqb y (get_or xs i 0))) (take_all (length xs - (i + 1)) (drop (i + 1) xs) (omega arith) ∙ rw s))

  pub apart_found : r ≡ true → true ≡ repeats xs
  apart_found t = sym (apart_here xs i true a h (later ∙ t))

  pub apart_more : r ≡ false → Apart xs (i + 1)
  apart_more t = let s : i + 1 ≡ suc i = omega arith in record { owed = rw s (apart_here xs i false a h (later ∙ t)) }

pub apart_end : (xs : List ℕ) (i : ℕ) → Apart xs i → length xs ≤ i → false ≡ repeats xs
unfolding repeats
apart_end xs i a h = sym (a.owed ∙ ap repeats (drop_of_length-le xs h))

-- ---- one more kit
pub kits_more : (m : List ℕ) (k : ℕ) → kits_in m (k + 1) ≡ kits_in m k ++ (kit_in m k ∷ [])
unfolding kits_in listed
kits_more m k = let e : k + 1 ≡ suc k = omega arith in rw e

pub kits_length : (m : List ℕ) (n : ℕ) → length (kits_in m n) ≡ n
unfolding kits_in
kits_length m n = listed_length (kit_in m) n

some_more : (p : ℕ → Bool) (xs : List ℕ) (y : ℕ) → some p (xs ++ (y ∷ [])) ≡ (some p xs || p y)
unfolding some
some_more p [] y = or-false (p y)
some_more p (x ∷ xs) y = go (p x) (some_more p xs y)
  where
    go : (z : Bool) → some p (xs ++ (y ∷ [])) ≡ (some p xs || p y) → (z || some p (xs ++ (y ∷ []))) ≡ ((z || some p xs) || p y)
    go true h = refl
    go false h = h

pub windows_more : (m : List ℕ) (k : ℕ) → windows (kits_in m (k + 1)) ≡ windows (kits_in m k) ++ ((kit_in m k).window ∷ [])
windows_more m k = ap windows (kits_more m k) ∙ map-append window_of (kits_in m k) (kit_in m k ∷ [])

-- none of the first k windows is too long
pub record Short (m : List ℕ) (k : ℕ) : Type 0 where
  pub none : some (ltb LAST_TIME) (windows (kits_in m k)) ≡ false

pub short_start : (m : List ℕ) → Short m 0
unfolding kits_in listed some
short_start m = record { none = refl }

next_window : (m : List ℕ) (k : ℕ) → Short m k → some (ltb LAST_TIME) (windows (kits_in m (k + 1))) ≡ ltb LAST_TIME (kit_in m k).window
next_window m k s = ap (some (ltb LAST_TIME)) (windows_more m k) ∙ some_more (ltb LAST_TIME) (windows (kits_in m k)) (kit_in m k).window ∙ rw s.none

pub short_more : (m : List ℕ) (k w : ℕ) → Short m k → w ≡ get_or m (KIT_WORDS * k + 3) 0 → w ≤ LAST_TIME → Short m (k + 1)
short_more m k w s e h = record { none = next_window m k s ∙ rw (← e) (le-ltb LAST_TIME w h) }

-- a window that is too long is so among more kits, too
some_append : (p : ℕ → Bool) (xs ys : List ℕ) → some p xs ≡ true → some p (xs ++ ys) ≡ true
unfolding some
some_append p [] ys e = absurd (clash e refl)
some_append p (x ∷ xs) ys e = go (p x) (some_append p xs ys) e
  where
    go : (z : Bool) → (some p xs ≡ true → some p (xs ++ ys) ≡ true) → (z || some p xs) ≡ true → (z || some p (xs ++ ys)) ≡ true
    go true h e = refl
    go false h e = h e

later_windows : (m : List ℕ) (k d : ℕ) → some (ltb LAST_TIME) (windows (kits_in m k)) ≡ true → some (ltb LAST_TIME) (windows (kits_in m (k + d))) ≡ true
later_windows m k zero e = let z : k + 0 ≡ k = omega arith in rw z e
later_windows m k (suc d) e =
    let z : k + suc d ≡ k + d + 1 = omega arith in
    rw z (ap (some (ltb LAST_TIME)) (windows_more m (k + d)) ∙ some_append (ltb LAST_TIME) (windows (kits_in m (k + d))) _ (later_windows m k d e))

pub long_found : (m : List ℕ) (k w n : ℕ) → Short m k → w ≡ get_or m (KIT_WORDS * k + 3) 0 → LAST_TIME < w → k < n → true ≡ some (ltb LAST_TIME) (windows (kits_in m n))
long_found m k w n s e h l =
    let z : k + 1 + (n - (k + 1)) ≡ n = omega arith in
    sym (rw (← z) (later_windows m (k + 1) (n - (k + 1)) (next_window m k s ∙ rw (← e) (lt-ltb LAST_TIME w h))))

codes_append : (xs ys : List Kit) → codes (xs ++ ys) ≡ codes xs ++ codes ys
codes_append [] ys = refl
codes_append (x ∷ xs) ys = ap (λ cs. x.promise ∷ x.handout ∷ x.return ∷ cs) (codes_append xs ys)

pub codes_more : (m : List ℕ) (k : ℕ) → codes (kits_in m (k + 1)) ≡ codes (kits_in m k) ++ ((kit_in m k).promise ∷ (kit_in m k).handout ∷ (kit_in m k).return ∷ [])
codes_more m k = ap codes (kits_more m k) ∙ codes_append (kits_in m k) (kit_in m k ∷ [])

-- ---- stores one after another
pub sets_append : (m : List ℕ) (i : ℕ) (xs ys : List ℕ) → sets m i (xs ++ ys) ≡ sets (sets m i xs) (i + length xs) ys
sets_append m i [] ys = let e : i + 0 ≡ i = omega arith in rw e
sets_append m i (x ∷ xs) ys = let e : i + suc (length xs) ≡ suc i + length xs = omega arith in rw e (sets_append (set m i x) (suc i) xs ys)

-- words copied after others
pub copied_more : (m w w' xs ys : List ℕ) (at place : ℕ) → w ≡ sets m at xs → place ≡ at + length xs → place + length ys ≤ length m → w' ≡ put w place ys
    → w' ≡ sets m at (xs ++ ys)
copied_more m w w' xs ys at place e p h f =
    let l : length w ≡ length m = ap length e ∙ length-sets m at xs in
    f ∙ copied w place ys (omega arith) ∙ ap (λ (v : List ℕ). sets v place ys) e ∙ ap (λ i. sets (sets m at xs) i ys) p ∙ sym (sets_append m at xs ys)

kit_codes : (m : List ℕ) (k : ℕ) → KIT_WORDS * k + 3 ≤ length m → part (KIT_WORDS * k) 3 m ≡ (kit_in m k).promise ∷ (kit_in m k).handout ∷ (kit_in m k).return ∷ []
kit_codes m k h = part_is (KIT_WORDS * k) 3 m ((kit_in m k).promise ∷ (kit_in m k).handout ∷ (kit_in m k).return ∷ []) h refl at
  where
    at : (i : ℕ) → i < 3 → get_or m (KIT_WORDS * k + i) 0 ≡ get_or ((kit_in m k).promise ∷ (kit_in m k).handout ∷ (kit_in m k).return ∷ []) i 0
    at zero l = let e : KIT_WORDS * k + 0 ≡ KIT_WORDS * k = omega arith in rw e
    at (suc zero) l = refl
    at (suc (suc zero)) l = refl
    at (suc (suc (suc i))) l = absurd (omega arith)

pub barcodes_start : (m w : List ℕ) (at : ℕ) → w ≡ sets w at (codes (kits_in m 0))
unfolding kits_in listed
barcodes_start m w at = refl

pub codes_many : (m : List ℕ) (n : ℕ) → length (codes (kits_in m n)) ≡ 3 * n
codes_many m n = omega (arith, codes_length (kits_in m n), kits_length m n)

pub barcodes_more : (m w w₁ w₂ : List ℕ) (at k n : ℕ) → w₁ ≡ sets w at (codes (kits_in m k)) → KIT_WORDS * k + 3 ≤ length m → at + 3 * (k + 1) ≤ length w
    → n ≡ 3 → w₂ ≡ put w₁ (at + 3 * k) (part (KIT_WORDS * k) n m) → w₂ ≡ sets w at (codes (kits_in m (k + 1)))
barcodes_more m w w₁ w₂ at k n e h l z f =
    let q : part (KIT_WORDS * k) n m ≡ (kit_in m k).promise ∷ (kit_in m k).handout ∷ (kit_in m k).return ∷ [] = rw z (kit_codes m k h) in
    let c = codes_many m k in
    copied_more w w₁ w₂ (codes (kits_in m k)) ((kit_in m k).promise ∷ (kit_in m k).handout ∷ (kit_in m k).return ∷ []) at (at + 3 * k) e (omega arith) (omega arith) (f ∙ ap (put w₁ (at + 3 * k)) q)
    ∙ ap (sets w at) (sym (codes_more m k))

pub barcodes_end : (m w w₁ : List ℕ) (at k n : ℕ) → w₁ ≡ sets w at (codes (kits_in m k)) → k ≡ n → w₁ ≡ sets w at (codes (kits_in m n))
barcodes_end m w w₁ at k n e f = rw (← f) e

-- ---- what is wrong with a desk
-- the barcodes of the first kits, put into zeros
pub repeated_given : (m w : List ℕ) (n l : ℕ) (r : Bool) → n ≤ MOST_KITS → w ≡ sets (replicate MOST_BARCODES 0) 0 (codes (kits_in m n)) → l ≡ 3 * n → r ≡ repeats (take l w) → r ≡ repeats (codes (kits_in m n))
repeated_given m w n l r h e q f =
    let cs = codes (kits_in m n) in
    let k = codes_many m n in
    let z : l ≡ 0 + length cs = omega arith in
    f ∙ ap repeats (rw (e, z) (take_sets (replicate MOST_BARCODES 0) 0 cs (omega (arith, length-replicate {A = ℕ} MOST_BARCODES 0))))

module _ (m : List ℕ) (n : ℕ) where
  abbrev kits : List Kit
  kits = kits_in m n

  pub no_kit_lem : n ≡ 0 → ◌≡◌ {A = ℕ} 18 (open_number kits)
  unfolding open_number
  no_kit_lem e = let l = kits_length m n in rw (eq-eqb (length kits) 0 (omega arith))

  pub too_many_kits : MOST_KITS < n → ◌≡◌ {A = ℕ} 18 (open_number kits)
  unfolding open_number
  too_many_kits h = let l = kits_length m n in rw (lt-ltb MOST_KITS (length kits) (omega arith), or-true (eqb (length kits) 0))

  module _ (some-kit : 0 < n) (few : n ≤ MOST_KITS) {twice : Bool} (e : twice ≡ repeats (codes kits)) where
    pub given_twice : twice ≡ true → ◌≡◌ {A = ℕ} 18 (open_number kits)
    unfolding open_number
    given_twice t = let l = kits_length m n in rw (ne_eqb (length kits) 0 (λ z. omega arith), le-ltb MOST_KITS (length kits) (omega arith), sym e ∙ t)

    module _ (t : twice ≡ false) {long : Bool} (f : long ≡ some (ltb LAST_TIME) (windows kits)) where
      pub window_long : long ≡ true → ◌≡◌ {A = ℕ} 19 (open_number kits)
      unfolding open_number
      window_long u = let l = kits_length m n in rw (ne_eqb (length kits) 0 (λ z. omega arith), le-ltb MOST_KITS (length kits) (omega arith), sym e ∙ t, sym f ∙ u)

      pub all_right : long ≡ false → ◌≡◌ {A = ℕ} 0 (open_number kits)
      unfolding open_number
      all_right u = let l = kits_length m n in rw (ne_eqb (length kits) 0 (λ z. omega arith), le-ltb MOST_KITS (length kits) (omega arith), sym e ∙ t, sym f ∙ u)
