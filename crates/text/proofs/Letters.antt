-- Laws of a word's letters, for the proofs of `words`. Assumes nothing.
use Rattle.std.proofs.Common.{◌≡◌, ℕ, suc, ◌+◌, ◌-◌, ◌*◌, ◌/◌, ◌^◌, ◌<◌, ◌≤◌, Bool, true, false, Some, None, Err, ◌&&◌, eqb, ltb, leb, ◌⊎◌, List, [], ◌∷◌, length, get_or, drop, sym, refl, ap, ◌∙◌, inl, inr, ⊎_elim, add-zero, add-suc, suc-add, pow-suc, zero-add, add-one, arith, lit<, drop_of_length-le, drop-cons, ltb-false, ltb-true, le-ltb, lt-ltb, ne_eqb, le-leb, leb-true}
use mathlib.Core.Bool.{and-false, false≢true}
use native.Mathlib.Nat.{pow-le-pow_right}
use borrow.Author.Tests.{lt-leb}
use Rattle.numbers.specs.Limits.{MAX}
use Rattle.text.specs.Words.{most_digits, pick, parts, digit, letters, all_digits, said, plain, good, read, word_here, next_in, next_word}
use Rattle.text.specs.Private.{value_of}
use Rattle.numbers.specs.declared.Refusal.TheVariants.{WrongLength, BadWord}

either : (t : Bool) → (t ≡ true) ⊎ (t ≡ false)
either true = inl refl
either false = inr refl

lt_or_ge : (a b : ℕ) → (a < b) ⊎ (b ≤ a)
lt_or_ge a b = ⊎_elim (λ e. inl (ltb-true a b e)) (λ e. inr (ltb-false a b e)) (either (ltb a b))

pub both_hold : (a b : Bool) → (a && b) ≡ true → (a ≡ true) × (b ≡ true)
both_hold true b e = (refl, e)
both_hold false b e = absurd (false≢true e)

-- ---- a byte that is a digit, and one that is none
pub no_part : (b : ℕ) → 48 ≤ b → parts b ≡ false
unfolding parts
no_part b h = rw (ne_eqb b 32 (λ e. omega arith), ne_eqb b 10 (λ e. omega arith))

pub value_is : (b : ℕ) → 48 ≤ b → b ≤ 57 → value_of b ≡ Some (b - 48)
unfolding value_of pick digit
value_is b h k = rw (le-leb 48 b h, le-leb b 57 k)

pub record Digit (b d : ℕ) : Type 0 where
  pub stays : parts b ≡ false
  pub says : digit b ≡ true
  pub value : b - 48 ≡ d
  pub small : d < 10

pub within_digits : (b : ℕ) → digit b ≡ true → (48 ≤ b) × (b ≤ 57)
unfolding digit
within_digits b e = let k = both_hold (leb 48 b) (leb b 57) e in (leb-true 48 b k.0, leb-true b 57 k.1)

pub told : (b : ℕ) {d : ℕ} → value_of b ≡ Some d → Digit b d
unfolding value_of pick
told b {d} e = by_digit (digit b) refl
  where
    by_digit : (t : Bool) → digit b ≡ t → Digit b d
    by_digit true f =
        let v : Some (b - 48) ≡ Some d = rw f at e in
        let w : b - 48 ≡ d = cc in
        let k = within_digits b f in
        record { stays = no_part b k.0; says = f; value = w; small = omega arith }
    by_digit false f = let v : None ≡ Some d = rw f at e in let z : ◌≡◌ {A = ℕ} 0 1 = cc in absurd (omega arith)

untold : (b : ℕ) → value_of b ≡ None → digit b ≡ false
unfolding value_of pick
untold b e = by_digit (digit b) refl
  where
    by_digit : (t : Bool) → digit b ≡ t → digit b ≡ false
    by_digit true f = let v : Some (b - 48) ≡ None = rw f at e in let z : ◌≡◌ {A = ℕ} 0 1 = cc in absurd (omega arith)
    by_digit false f = f

-- ---- a word that is over, goes on, or is bad
pub over : (s : List ℕ) (i : ℕ) → i < length s → parts (get_or s i 0) ≡ true → letters (drop i s) ≡ []
unfolding letters pick
over s i h p = rw (drop-cons s i 0 h, p)

pub over_end : (s : List ℕ) (i : ℕ) → length s ≤ i → letters (drop i s) ≡ []
unfolding letters
over_end s i h = rw (drop_of_length-le s h)

-- the letters from a byte on that parts nothing
pub begins : (s : List ℕ) (i : ℕ) → i < length s → parts (get_or s i 0) ≡ false → letters (drop i s) ≡ get_or s i 0 ∷ letters (drop (i + 1) s)
unfolding letters pick
begins s i h p = rw (drop-cons s i 0 h, p, add-one)

-- ---- reading letters: what is left says what the whole says
pub record Going (s : List ℕ) (at i n : ℕ) : Type 0 where
  pub low : at ≤ i
  pub digs : all_digits (letters (drop at s)) ≡ all_digits (letters (drop i s))
  pub says : said 0 (letters (drop at s)) ≡ said n (letters (drop i s))
  pub size : length (letters (drop at s)) ≡ (i - at) + length (letters (drop i s))

pub start : (s : List ℕ) (at : ℕ) → Going s at at 0
start s at = record { low = omega arith; digs = refl; says = refl; size = omega arith }

pub more : (s : List ℕ) (at i n : ℕ) {d : ℕ} → Going s at i n → i < length s → value_of (get_or s i 0) ≡ Some d → Going s at (i + 1) (n * 10 + d)
unfolding all_digits said
more s at i n {d} g h e =
    let w : Digit (get_or s i 0) d = told (get_or s i 0) e in
    let ls = begins s i h w.stays in
    record {
      low = omega (arith, g.low);
      digs = g.digs ∙ rw (ls, w.says);
      says = g.says ∙ ap (said n) ls ∙ ap (λ (x : ℕ). said (n * 10 + x) (letters (drop (i + 1) s))) w.value;
      size = omega (arith, g.low, g.size ∙ ap (λ (x : List ℕ). (i - at) + length x) ls);
    }

-- one more digit fits, or passes MAX
pub fits : (n d : ℕ) → d < 10 → n ≤ (MAX - d) / 10 → n * 10 + d ≤ MAX
fits n d h k = omega arith

-- which of the two, by a tenth of MAX and its last digit
module _ (n d : ℕ) (h : d < 10) where
  pub fits_below : n < 1844674407370955161 → false ≡ ltb ((MAX - d) / 10) n
  fits_below k = sym (le-ltb ((MAX - d) / 10) n (omega arith))

  pub passes_above : 1844674407370955161 < n → true ≡ ltb ((MAX - d) / 10) n
  passes_above k = sym (lt-ltb ((MAX - d) / 10) n (omega arith))

  pub by_last : n ≡ 1844674407370955161 → ltb 5 d ≡ ltb ((MAX - d) / 10) n
  by_last e = ⊎_elim (λ k. lt-ltb 5 d k ∙ sym (lt-ltb ((MAX - d) / 10) n (omega arith))) (λ k. le-ltb 5 d k ∙ sym (le-ltb ((MAX - d) / 10) n (omega arith))) (lt_or_ge 5 d)

pub passes : (n d : ℕ) → d < 10 → (MAX - d) / 10 < n → MAX < n * 10 + d
passes n d h k = omega arith

-- ---- what makes a word bad
not_digits : (w : List ℕ) → all_digits w ≡ false → good w ≡ false
unfolding good
not_digits w e = rw e

not_plain : (w : List ℕ) → plain w ≡ false → good w ≡ false
unfolding good
not_plain w e = rw (e, and-false (leb (length w) most_digits), and-false (all_digits w))

too_large : (w : List ℕ) → MAX < said 0 w → good w ≡ false
unfolding good
too_large w h = rw (lt-leb (said 0 w) MAX h, and-false (plain w), and-false (leb (length w) most_digits), and-false (all_digits w))

refused : (l : List ℕ) (at : ℕ) → good (letters l) ≡ false → Err BadWord ≡ word_here l at
unfolding word_here pick
refused l at e = rw e

accepted : (l : List ℕ) (at n k : ℕ) → good (letters l) ≡ true → said 0 (letters l) ≡ n → length (letters l) ≡ k → read n (at + k) ≡ word_here l at
unfolding word_here pick
accepted l at n k e f h = rw (e, f, h)

-- ---- a word that begins with a zero
module _ (s : List ℕ) (at : ℕ) (h : at < length s) (z : get_or s at 0 ≡ 48) where
  zero_begins : letters (drop at s) ≡ 48 ∷ letters (drop (at + 1) s)
  zero_begins = rw (← z) (begins s at h (no_part (get_or s at 0) (omega arith)))

  pub is_zero : letters (drop (at + 1) s) ≡ [] → read 0 (at + 1) ≡ word_here (drop at s) at
  unfolding good all_digits digit plain said pick
  is_zero e =
      let ls : letters (drop at s) ≡ 48 ∷ [] = zero_begins ∙ ap (λ (l : List ℕ). 48 ∷ l) e in
      accepted (drop at s) at 0 1 (rw ls) (rw ls) (rw ls)

  pub zero_first : at + 1 < length s → parts (get_or s (at + 1) 0) ≡ false → Err BadWord ≡ word_here (drop at s) at
  unfolding plain pick
  zero_first k p = refused (drop at s) at (not_plain (letters (drop at s)) (rw (zero_begins, begins s (at + 1) k p) (ne_eqb (length (get_or s (at + 1) 0 ∷ letters (drop (at + 1 + 1) s))) 0 (λ e. omega arith))))

-- ---- a word that begins with another letter
-- each letter makes the number ten times as large, or more
scales : (w : List ℕ) (j n : ℕ) → 10 ^ j ≤ n → 10 ^ (j + length w) ≤ said n w
unfolding said
scales [] j n h = rw (add-zero j) h
scales (b ∷ w) j n h = rw (add-suc j (length w), ← suc-add j (length w)) (scales w (suc j) (n * 10 + (b - 48)) (omega (arith, pow-suc 10 j)))

-- with no zero first, more digits than that say more than MAX
few : (b : ℕ) (w : List ℕ) → 48 < b → said 0 (b ∷ w) ≤ MAX → length (b ∷ w) ≤ most_digits
unfolding said
few b w h k = ⊎_elim (λ p. omega arith) (λ q. absurd (clash (pow-le-pow_right (lit< tt) q) many k (lit< tt))) (lt_or_ge (length w) most_digits)
  where
    many : 10 ^ length w ≤ said (0 * 10 + (b - 48)) w
    many = rw (zero-add (length w)) at (scales w 0 (0 * 10 + (b - 48)) (omega arith))

    clash : {x y z m : ℕ} → x ≤ y → y ≤ z → z ≤ m → m < x → ⊥
    clash p q r t = omega arith

grows : (w : List ℕ) (n : ℕ) → n ≤ said n w
unfolding said
grows [] n = omega arith
grows (b ∷ w) n = let r = grows w (n * 10 + (b - 48)) in omega arith

pub too_big : (s : List ℕ) (at i n : ℕ) {d : ℕ} → Going s at i n → i < length s → value_of (get_or s i 0) ≡ Some d → MAX < n * 10 + d → Err BadWord ≡ word_here (drop at s) at
too_big s at i n {d} g h e k =
    let m = more s at i n g h e in
    refused (drop at s) at (too_large (letters (drop at s)) (omega (arith, m.says, grows (letters (drop (i + 1) s)) (n * 10 + d))))

pub bad_letter : (s : List ℕ) (at i n : ℕ) → Going s at i n → i < length s → value_of (get_or s i 0) ≡ None → parts (get_or s i 0) ≡ false → Err BadWord ≡ word_here (drop at s) at
unfolding all_digits
bad_letter s at i n g h e p = refused (drop at s) at (not_digits (letters (drop at s)) (g.digs ∙ rw (begins s i h p, untold (get_or s i 0) e)))

module _ (s : List ℕ) (at i n : ℕ) (g : Going s at i n) where
  module _ (h : at < length s) (p : parts (get_or s at 0) ≡ false) (z : get_or s at 0 ≡ 48 → ⊥) (ends : letters (drop i s) ≡ []) (f : n ≤ MAX) where
    sized : length (letters (drop at s)) ≡ i - at
    sized = omega (arith, g.size ∙ ap (λ (x : List ℕ). (i - at) + length x) ends)

    all_digits_lem : all_digits (letters (drop at s)) ≡ true
    unfolding all_digits
    all_digits_lem = g.digs ∙ rw ends

    says_n : said 0 (letters (drop at s)) ≡ n
    unfolding said
    says_n = g.says ∙ rw ends

    is_good : (b : ℕ) (w : List ℕ) → letters (drop at s) ≡ b ∷ w → (b ≡ 48 → ⊥) → good (letters (drop at s)) ≡ true
    unfolding good all_digits plain pick
    is_good b w ls y =
        let d : digit b ≡ true = (both_hold (digit b) (all_digits w) (rw ls at all_digits_lem)).0 in
        let l : 48 < b = omega (arith, (within_digits b d).0) in
        let v : said 0 (letters (drop at s)) ≤ MAX = omega (arith, says_n) in
        let k : length (b ∷ w) ≤ most_digits = few b w l (rw ls at v) in
        rw (all_digits_lem, says_n, le-leb n MAX f, ls, le-leb (length (b ∷ w)) most_digits k, ne_eqb b 48 y)

    pub is_word : read n i ≡ word_here (drop at s) at
    is_word =
        let j : at + (i - at) ≡ i = omega (arith, g.low) in
        rw (← j) (accepted (drop at s) at n (i - at) (is_good (get_or s at 0) (letters (drop (at + 1) s)) (begins s at h p) z) says_n sized)

-- ---- the next word
pub next_end : (s : List ℕ) (i : ℕ) → length s ≤ i → Err WrongLength ≡ next_word s i
unfolding next_word next_in
next_end s i h = rw (drop_of_length-le s h)

pub next_more : (s : List ℕ) (i : ℕ) → i < length s → parts (get_or s i 0) ≡ true → next_word s i ≡ next_word s (i + 1)
unfolding next_word next_in pick
next_more s i h p = rw (drop-cons s i 0 h, p, add-one)

pub next_here : (s : List ℕ) (i : ℕ) → i < length s → parts (get_or s i 0) ≡ false → word_here (drop i s) i ≡ next_word s i
unfolding next_word next_in pick
next_here s i h p = rw (drop-cons s i 0 h, p)

-- ---- a word of one digit
pub one_letter : (d : ℕ) → plain (d ∷ []) ≡ true
unfolding plain pick
one_letter d = by_zero (eqb d 48) refl
  where
    by_zero : (t : Bool) → eqb d 48 ≡ t → plain (d ∷ []) ≡ true
    by_zero true e = rw e
    by_zero false e = rw e

short_good : (b : ℕ) {d : ℕ} → Digit b d → good (b ∷ []) ≡ true
unfolding good all_digits said
short_good b w =
    let k = within_digits b w.says in
    rw (w.says, one_letter b, le-leb (0 * 10 + (b - 48)) MAX (omega arith))

-- between two parting bytes it is told from these three
pub next_is_short : (s : List ℕ) (at : ℕ) {d : ℕ} → at + 2 < length s → parts (get_or s at 0) ≡ true → parts (get_or s (at + 2) 0) ≡ true → value_of (get_or s (at + 1) 0) ≡ Some d → read d (at + 2) ≡ next_word s at
unfolding said
next_is_short s at {d} h p q e =
    let b = get_or s (at + 1) 0 in
    let w : Digit b d = told b e in
    let a : at + 1 + 1 ≡ at + 2 = omega arith in
    let o : letters (drop (at + 1 + 1) s) ≡ [] = rw a (over s (at + 2) h q) in
    let ls : letters (drop (at + 1) s) ≡ b ∷ [] = begins s (at + 1) (omega arith) w.stays ∙ ap (λ (l : List ℕ). b ∷ l) o in
    let v : 0 * 10 + (b - 48) ≡ d = omega (arith, w.value) in
    rw (← a) (accepted (drop (at + 1) s) (at + 1) d 1 (rw ls (short_good b w)) (rw ls v) (rw ls))
    ∙ next_here s (at + 1) (omega arith) w.stays
    ∙ sym (next_more s at (omega arith) p)

-- a digit below 2 by its byte alone
pub next_is_bit : (s : List ℕ) (at : ℕ) → at + 2 < length s → parts (get_or s at 0) ≡ true → 48 ≤ get_or s (at + 1) 0 → get_or s (at + 1) 0 ≤ 49 → parts (get_or s (at + 2) 0) ≡ true → next_word s at ≡ read (get_or s (at + 1) 0 - 48) (at + 2)
next_is_bit s at h p low high q =
    let b = get_or s (at + 1) 0 in
    sym (next_is_short s at h p q (value_is b low (omega arith)))

-- ---- a word of fewer than 20 digits, the first of which is not 0: n is what those before i say, which are too few to pass MAX
pub record Counting (s : List ℕ) (at i n : ℕ) : Type 0 where
  pub going : Going s (at + 1) i n
  pub small : n < 10 ^ (i - (at + 1))

module _ (s : List ℕ) (at first : ℕ) (h : at + 1 < length s) (e : value_of (get_or s (at + 1) 0) ≡ Some first) where
  pub count_start : Counting s at (at + 2) first
  count_start =
      let a : at + 1 + 1 ≡ at + 2 = omega arith in
      let v : 0 * 10 + first ≡ first = omega arith in
      let k : at + 2 - (at + 1) ≡ 1 = omega arith in
      record {
        going = rw (a, v) at (more s (at + 1) (at + 1) 0 (start s (at + 1)) h e);
        small = rw k (told (get_or s (at + 1) 0) e).small;
      }

  pub count_ends : (i n : ℕ) → Counting s at i n → 0 < first → n ≤ MAX → i < length s → parts (get_or s at 0) ≡ true → parts (get_or s i 0) ≡ true → read n i ≡ next_word s at
  count_ends i n g z few within p q =
      let w : Digit (get_or s (at + 1) 0) first = told (get_or s (at + 1) 0) e in
      is_word s (at + 1) i n g.going h w.stays (λ x. omega (arith, w.value)) (over s i within q) few
      ∙ next_here s (at + 1) h w.stays
      ∙ sym (next_more s at (omega arith) p)

module _ {s : List ℕ} {at i n : ℕ} (g : Counting s at i n) where
  pub count_few : i < at + 20 → n < 10 ^ 18
  count_few h = clash g.small (pow-le-pow_right (lit< tt) {j = 18} (omega arith))
    where
      clash : {x y z : ℕ} → x < y → y ≤ z → x < z
      clash p q = omega arith

  pub count_more : {d : ℕ} → i < length s → value_of (get_or s i 0) ≡ Some d → Counting s at (i + 1) (n * 10 + d)
  count_more {d} within e =
      let k : i + 1 - (at + 1) ≡ suc (i - (at + 1)) = omega (arith, g.going.low) in
      record {
        going = more s (at + 1) i n g.going within e;
        small = rw k (omega (arith, pow-suc 10 (i - (at + 1)), g.small, (told (get_or s i 0) e).small));
      }
