-- What accepted words have: sections within their limits, with nothing wrong, whose book is the one that is loaded. Assumes nothing.
use Prim.Native.Nat.{ℕ, ◌*◌, ◌≤◌, ◌<◌}
use mathlib.Core.Path.{◌≡◌, refl, sym, ap, ◌∙◌}
use mathlib.Core.Bool.{Bool, true, false, cond}
use mathlib.Core.List.{List, [], ◌∷◌}
use native.Mathlib.Omega.{arith}
use native.Mathlib.Nat.{mul-le-mul_left}
use lib.ListN.{length, take, drop}
use lib.Seq.{length-take-le}
use lib.Dec.{ltb}
use borrow.Author.Tests.{ltb-false}
use Rattle.numbers.specs.Limits.{MOST_ROWS, MOST_OPERANDS, MOST_ASSUMES, MOST_GUARANTEES, ROW_WORDS}
use Rattle.numbers.specs.Refusals.{ACCEPTED, WRONG_LENGTH, PAST_LIMIT}
use Rattle.book.specs.Reading.{Read, got, refused, section, next, Sections, sections}
use Rattle.book.specs.Private.{Few}
use Rattle.book.specs.Judging.{Loaded, loaded, whole, judged, book_in}
use Rattle.book.proofs.Placing.{number_judged, book_judged}

-- what was read is so, or the refusal is none of acceptance
abbrev Ok : {A : Type 0} → (A → Type 0) → Read A → Type 0
Ok P (got x ws) = P x
Ok P (refused n) = 0 < n

scaled : (n limit size long : ℕ) → long ≡ size * n → n ≤ limit → long ≤ size * limit
scaled n limit size long e h = rw e (mul-le-mul_left size h)

section_ok : (limit size : ℕ) (words : List ℕ) → Ok (λ (x : List ℕ). length x ≤ size * limit) (section WRONG_LENGTH limit size words)
unfolding section
section_ok limit size [] = omega arith
section_ok limit size (n ∷ ws) = by_tests (ltb limit n) refl (ltb (length ws) (size * n)) refl
  where
    by_tests : (t : Bool) → ltb limit n ≡ t → (u : Bool) → ltb (length ws) (size * n) ≡ u
        → Ok (λ (x : List ℕ). length x ≤ size * limit) (cond (ltb limit n) (refused PAST_LIMIT) (cond (ltb (length ws) (size * n)) (refused WRONG_LENGTH) (got (take (size * n) ws) (drop (size * n) ws))))
    by_tests true e u f = rw e (omega arith)
    by_tests false e true f = rw (e, f) (omega arith)
    by_tests false e false f = rw (e, f) (scaled n limit size (length (take (size * n) ws)) (length-take-le (size * n) ws (ltb-false (length ws) (size * n) f)) (ltb-false limit n e))

next_ok : {A B : Type 0} (P : A → Type 0) (Q : B → Type 0) (r : Read A) (f : A → List ℕ → Read B) → Ok P r → ((x : A) (ws : List ℕ) → P x → Ok Q (f x ws)) → Ok Q (next r f)
unfolding next
next_ok P Q (got x ws) f p c = c x ws p
next_ok P Q (refused n) f p c = p

sections_ok : (words : List ℕ) → Ok Few (sections WRONG_LENGTH words)
unfolding sections
sections_ok words =
    next_ok (λ (x : List ℕ). length x ≤ ROW_WORDS * MOST_ROWS) Few (section WRONG_LENGTH MOST_ROWS ROW_WORDS words) _ (section_ok MOST_ROWS ROW_WORDS words) λ rows ws p.
    next_ok (λ (x : List ℕ). length x ≤ 1 * MOST_OPERANDS) Few (section WRONG_LENGTH MOST_OPERANDS 1 ws) _ (section_ok MOST_OPERANDS 1 ws) λ operands xs q.
    next_ok (λ (x : List ℕ). length x ≤ 1 * MOST_ASSUMES) Few (section WRONG_LENGTH MOST_ASSUMES 1 xs) _ (section_ok MOST_ASSUMES 1 xs) λ assumes ys r.
    next_ok (λ (x : List ℕ). length x ≤ 1 * MOST_GUARANTEES) Few (section WRONG_LENGTH MOST_GUARANTEES 1 ys) _ (section_ok MOST_GUARANTEES 1 ys) λ guarantees zs t.
    record { rows = omega arith; operands = omega arith; assumes = omega arith; guarantees = omega arith }

-- ---- accepted words
pub record Accepted (words : List ℕ) : Type 0 where
  pub all : Sections
  pub read : sections WRONG_LENGTH words ≡ got all []
  pub few : Few all
  pub ok : judged all ≡ 0
  pub book_is : (loaded words).book ≡ book_in all

pub accepted_words : (words : List ℕ) → (loaded words).number ≡ ACCEPTED → Accepted words
unfolding loaded whole
accepted_words words h = by_read (sections WRONG_LENGTH words) refl (sections_ok words)
  where
    by_read : (x : Read Sections) → sections WRONG_LENGTH words ≡ x → Ok Few x → Accepted words
    by_read (got s []) e f = let k : judged s ≡ 0 = sym (number_judged s) ∙ (rw e at h) in record { all = s; read = e; few = f; ok = k; book_is = rw e (ap (λ (l : Loaded). l.book) (book_judged s k)) }
    by_read (got s (w ∷ ws)) e f = let z : ◌≡◌ {A = ℕ} 1 0 = rw e at h in absurd (omega arith)
    by_read (refused n) e f = let z : n ≡ 0 = rw e at h in absurd (omega arith)
