-- A number's digits are a good word that says the number: what is written reads back. Assumes nothing.
use Rattle.std.proofs.Common.{◌≡◌, ℕ, zero, suc, ◌+◌, ◌-◌, ◌*◌, ◌/◌, ◌%◌, ◌≤◌, Bool, true, false, eqb, leb, List, [], ◌∷◌, length, sym, refl, ap, ◌∙◌, arith, ne_eqb, eqb-true, le-leb}
use mathlib.Core.Bool.{false≢true}
use borrow.Author.Tests.{eqb-false}
use Rattle.numbers.specs.Limits.{MAX}
use Rattle.text.specs.Words.{most_digits, pick, parts, digit, letters, all_digits, said, plain, good, ends, gives, begun, written_words, supplied, supply}
use Rattle.numbers.specs.Refusals.{WRONG_LENGTH}
use Rattle.text.specs.Decimals.{or_else, digits_before, decimal}
use Rattle.text.proofs.Digits.{at_most_20}
use Rattle.text.proofs.Letters.{both_hold, no_part, within_digits, one_letter}

-- ---- the digits one by one
says : (f n : ℕ) (l : List ℕ) → n ≤ f → said 0 (digits_before f n l) ≡ said n l
unfolding digits_before said
says zero n l h = let e : n ≡ 0 = omega arith in rw e
says (suc f) n l h = by_zero (eqb n 0) refl (λ p. says f (n / 10) ((48 + n % 10) ∷ l) p)
  where
    value : n / 10 * 10 + (48 + n % 10 - 48) ≡ n
    value = omega arith

    by_zero : (t : Bool) → eqb n 0 ≡ t → (n / 10 ≤ f → said 0 (digits_before f (n / 10) ((48 + n % 10) ∷ l)) ≡ said (n / 10 * 10 + (48 + n % 10 - 48)) l) → said 0 (or_else (eqb n 0) l (λ (d : ℕ). digits_before f (n / 10) (d ∷ l)) (48 + n % 10)) ≡ said n l
    by_zero true e r = rw e (ap (λ (m : ℕ). said m l) (sym (eqb-true n 0 e)))
    by_zero false e r = let z = eqb-false n 0 e in rw e (r (omega arith) ∙ ap (λ (m : ℕ). said m l) value)

one_digit : (n : ℕ) → digit (48 + n % 10) ≡ true
unfolding digit
one_digit n = rw (le-leb 48 (48 + n % 10) (omega arith), le-leb (48 + n % 10) 57 (omega arith))

digits : (f n : ℕ) (l : List ℕ) → all_digits l ≡ true → all_digits (digits_before f n l) ≡ true
unfolding digits_before all_digits
digits zero n l h = h
digits (suc f) n l h = by_zero (eqb n 0) refl (digits f (n / 10) ((48 + n % 10) ∷ l) (rw (one_digit n) h))
  where
    by_zero : (t : Bool) → eqb n 0 ≡ t → all_digits (digits_before f (n / 10) ((48 + n % 10) ∷ l)) ≡ true → all_digits (or_else (eqb n 0) l (λ (d : ℕ). digits_before f (n / 10) (d ∷ l)) (48 + n % 10)) ≡ true
    by_zero true e r = rw e h
    by_zero false e r = rw e r

-- before digits with no leading zero, or where the number is not 0, there is none
plainly : (f n : ℕ) (l : List ℕ) → n ≤ f → (n ≡ 0 → plain l ≡ true) → plain (digits_before f n l) ≡ true
unfolding digits_before plain pick
plainly zero n l h p = p (omega arith)
plainly (suc f) n l h p = by_zero (eqb n 0) refl (λ q r. plainly f (n / 10) ((48 + n % 10) ∷ l) q r)
  where
    by_zero : (t : Bool) → eqb n 0 ≡ t → (n / 10 ≤ f → (n / 10 ≡ 0 → plain ((48 + n % 10) ∷ l) ≡ true) → plain (digits_before f (n / 10) ((48 + n % 10) ∷ l)) ≡ true) → plain (or_else (eqb n 0) l (λ (d : ℕ). digits_before f (n / 10) (d ∷ l)) (48 + n % 10)) ≡ true
    by_zero true e r = rw e (p (eqb-true n 0 e))
    by_zero false e r = let z = eqb-false n 0 e in rw e (r (omega arith) (λ k. rw (ne_eqb (48 + n % 10) 48 (λ y. z (omega arith)))))

-- ---- the digits as a word
pub decimal_digits : (n : ℕ) → all_digits (decimal n) ≡ true
unfolding decimal all_digits
decimal_digits n = digits (n / 10) (n / 10) ((48 + n % 10) ∷ []) (rw (one_digit n))

pub decimal_says : (n : ℕ) → said 0 (decimal n) ≡ n
unfolding decimal said
decimal_says n = says (n / 10) (n / 10) ((48 + n % 10) ∷ []) (omega arith) ∙ omega arith

pub good_decimal : (n : ℕ) → n ≤ MAX → (good (decimal n) ≡ true) × (said 0 (decimal n) ≡ n)
unfolding decimal good
good_decimal n h =
    let v = decimal_says n in
    let a = decimal_digits n in
    let p = plainly (n / 10) (n / 10) ((48 + n % 10) ∷ []) (omega arith) (λ k. one_letter (48 + n % 10)) in
    let m : leb (said 0 (decimal n)) MAX ≡ true = le-leb (said 0 (decimal n)) MAX (omega arith) in
    (rw (a, le-leb (length (decimal n)) most_digits (at_most_20 n (omega arith)), p, m), v)

-- ---- the digits as a text
stays : (b : ℕ) → digit b ≡ true → parts b ≡ false
stays b e = no_part b (within_digits b e).0

-- digits alone are one word
whole : (w : List ℕ) → all_digits w ≡ true → (letters w ≡ w) × (written_words true w ≡ [])
unfolding all_digits letters written_words begun pick
whole [] h = (refl, refl)
whole (b ∷ w) h =
    let k = both_hold (digit b) (all_digits w) h in
    let r = whole w k.1 in
    rw (stays b k.0) (ap (λ (l : List ℕ). b ∷ l) r.0, r.1)

one_word : (w : List ℕ) → all_digits w ≡ true → good w ≡ true → supply w ≡ gives (said 0 w) (ends WRONG_LENGTH)
unfolding good all_digits plain supply supplied written_words begun pick letters
one_word [] a h = absurd (false≢true h)
one_word (b ∷ w) a h =
    let k = both_hold (digit b) (all_digits w) a in
    let r = whole w k.1 in
    rw (stays b k.0, r.0, r.1, h)

-- the digits of a number, as a text, give that number and end
pub reads_back : (n : ℕ) → n ≤ MAX → supply (decimal n) ≡ gives n (ends WRONG_LENGTH)
reads_back n h = let g = good_decimal n h in one_word (decimal n) (decimal_digits n) g.0 ∙ ap (λ (m : ℕ). gives m (ends WRONG_LENGTH)) g.1
