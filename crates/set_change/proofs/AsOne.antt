-- Two changes of a set at one clock as one, and how the code finds it. Assumes nothing.
use Prim.Native.Nat.{ℕ, zero, suc, ◌≤◌, ◌<◌}
use mathlib.Core.Path.{◌≡◌, refl, sym, ap, ◌∙◌}
use mathlib.Core.Bool.{Bool, true, false, not}
use lib.Dec.{leb}
use borrow.Author.Tests.{le-leb, lt-leb}
use Rattle.lists.proofs.Tests.{clash}
use native.Mathlib.Omega.{arith}
use Rattle.numbers.specs.Limits.{MAX}
use Rattle.numset.specs.Runs.{Runs, kept, union, Canonical}
use Rattle.pmtl.specs.Book.{Range, start, stop, Row}
use Rattle.pmtl.specs.Book.Row.{never, always, atom, conj, disj, neg, implies, historically, once, since}
use Rattle.pmtl.specs.Sets.{stays_if, added_if, renewed}
use Rattle.pmtl.proofs.EachRun.{kept_again}
use Rattle.pmtl.proofs.Twice.{changed_twice, renewed_twice}
use Rattle.set_change.specs.Change.{mode_of, changed, growing, spanned, spanned_if, counted_from, adding, both_of, mode_in}

-- the second change of what the first left is the two of them as one, of the set before both; the first may count from any instant up to the clock
changed_both_from : (g : Range) (from c : ℕ) → from ≤ c → c ≤ MAX → (s : Runs) → Canonical s → (first second : ℕ)
    → changed second (start g c) (stop g c) c (changed first (start g (counted_from from c first)) (stop g c) c s)
    ≡ changed (both_of first second) (start g (counted_from from c (both_of first second))) (stop g c) c s
unfolding changed adding both_of renewed added_if stays_if
changed_both_from g from c b h s ok zero zero = renewed_twice g c h s ok true false true false
changed_both_from g from c b h s ok (suc zero) zero = renewed_twice g c h s ok true true true false
changed_both_from g from c b h s ok (suc (suc zero)) zero = renewed_twice g c h s ok false false true false
changed_both_from g from c b h s ok (suc (suc (suc zero))) zero = renewed_twice g c h s ok false true true false
changed_both_from g from c b h s ok (suc (suc (suc (suc k)))) zero = changed_twice g from c b h s ok true true true false
changed_both_from g from c b h s ok zero (suc zero) = renewed_twice g c h s ok true false true true
changed_both_from g from c b h s ok (suc zero) (suc zero) = renewed_twice g c h s ok true true true true
changed_both_from g from c b h s ok (suc (suc zero)) (suc zero) = renewed_twice g c h s ok false false true true
changed_both_from g from c b h s ok (suc (suc (suc zero))) (suc zero) = renewed_twice g c h s ok false true true true
changed_both_from g from c b h s ok (suc (suc (suc (suc k)))) (suc zero) = changed_twice g from c b h s ok true true true true
changed_both_from g from c b h s ok first (suc (suc zero)) = refl
changed_both_from g from c b h s ok first (suc (suc (suc zero))) = refl
changed_both_from g from c b h s ok zero (suc (suc (suc (suc j)))) = renewed_twice g c h s ok true false true true
changed_both_from g from c b h s ok (suc zero) (suc (suc (suc (suc j)))) = renewed_twice g c h s ok true true true true
changed_both_from g from c b h s ok (suc (suc zero)) (suc (suc (suc (suc j)))) = renewed_twice g c h s ok false false true true
changed_both_from g from c b h s ok (suc (suc (suc zero))) (suc (suc (suc (suc j)))) = renewed_twice g c h s ok false true true true
changed_both_from g from c b h s ok (suc (suc (suc (suc k)))) (suc (suc (suc (suc j)))) = changed_twice g from c b h s ok true true true true

-- where the first lets the set stay and adds nothing, they are the second, if that counts from the clock
pub stays_both : (second : ℕ) → second < 4 → both_of 0 second ≡ second
unfolding adding both_of
stays_both zero h = refl
stays_both (suc zero) h = refl
stays_both (suc (suc zero)) h = refl
stays_both (suc (suc (suc zero))) h = refl
stays_both (suc (suc (suc (suc k)))) h = absurd (omega arith)

-- as what the operands ask for does
mode_small : (stays adds : Bool) → mode_of stays adds < 4
mode_small true true = omega arith
mode_small true false = omega arith
mode_small false true = omega arith
mode_small false false = omega arith

pub row_mode_small : (row : Row Bool) → mode_in row < 4
unfolding mode_in
row_mode_small never = omega arith
row_mode_small always = omega arith
row_mode_small (atom a) = omega arith
row_mode_small (conj vs) = omega arith
row_mode_small (disj vs) = omega arith
row_mode_small (neg v) = omega arith
row_mode_small (implies l r) = omega arith
row_mode_small (historically g v) = mode_small true (not v)
row_mode_small (once g v) = mode_small true v
row_mode_small (since g l r) = mode_small l r

-- a change from what was dropped already is one from the set
changed_kept : (k l u c : ℕ) (s : Runs) → changed k l u c (kept c s) ≡ changed k l u c s
unfolding changed
changed_kept zero l u c s = kept_again c s
changed_kept (suc zero) l u c s = ap (union l u) (kept_again c s)
changed_kept (suc (suc zero)) l u c s = refl
changed_kept (suc (suc (suc zero))) l u c s = refl
changed_kept (suc (suc (suc (suc k)))) l u c s = ap (union l u) (kept_again c s)

-- what counts from the clock, and what from the first instant of the stretch
pub small_from : (from c k : ℕ) → k < 4 → counted_from from c k ≡ c
small_from from c zero h = refl
small_from from c (suc zero) h = refl
small_from from c (suc (suc zero)) h = refl
small_from from c (suc (suc (suc zero))) h = refl
small_from from c (suc (suc (suc (suc k)))) h = absurd (omega arith)

pub large_from : (from c k : ℕ) → 4 ≤ k → counted_from from c k ≡ from
large_from from c zero h = absurd (omega arith)
large_from from c (suc zero) h = absurd (omega arith)
large_from from c (suc (suc zero)) h = absurd (omega arith)
large_from from c (suc (suc (suc zero))) h = absurd (omega arith)
large_from from c (suc (suc (suc (suc k)))) h = refl

-- a step that counts a stretch is the first of its call, one that does not may follow another: either way what it makes of the set that the steps
-- before left is one change of the set before all of them
pub changed_next : (spans : Bool) (g : Range) (from c : ℕ) → from ≤ c → c ≤ MAX → (s : Runs) → Canonical s → (first second : ℕ) → (spans ≡ true → first ≡ 0) → second < 4
    → let k = spanned_if spans second in
    let both = spanned_if spans (both_of first second) in
    changed k (start g (counted_from from c k)) (stop g c) c (changed first (start g (counted_from from c first)) (stop g c) c s)
    ≡ changed both (start g (counted_from from c both)) (stop g c) c s
unfolding changed
changed_next true g from c b h s ok first second none small =
    let k : ℕ = spanned second in
    let after : ℕ → Runs → Runs = λ j x. changed j (start g (counted_from from c j)) (stop g c) c x in
    ap (λ j. after k (after j s)) (none refl)
    ∙ changed_kept k (start g (counted_from from c k)) (stop g c) c s
    ∙ ap (λ j. after (spanned j) s) (sym (stays_both second small) ∙ ap (λ j. both_of j second) (sym (none refl)))
changed_next false g from c b h s ok first second none small =
    let before : Runs = changed first (start g (counted_from from c first)) (stop g c) c s in
    ap (λ x. changed second (start g x) (stop g c) c before) (small_from from c second small) ∙ changed_both_from g from c b h s ok first second

-- ---- the code, arm by arm
pub spans_1 : (k : ℕ) → k ≡ 1 → 4 ≡ spanned k
spans_1 k e = rw e

pub spans_else : (k : ℕ) → (k ≡ 1 → ⊥) → k ≡ spanned k
spans_else zero n = refl
spans_else (suc zero) n = absurd (n refl)
spans_else (suc (suc k)) n = refl

pub grows_1 : (k : ℕ) → k ≡ 1 → true ≡ growing k
grows_1 k e = rw e

pub grows_else : (k : ℕ) → (k ≡ 1 → ⊥) → leb 4 k ≡ growing k
grows_else zero n = lt-leb 4 0 (omega arith)
grows_else (suc zero) n = absurd (n refl)
grows_else (suc (suc zero)) n = lt-leb 4 2 (omega arith)
grows_else (suc (suc (suc zero))) n = lt-leb 4 3 (omega arith)
grows_else (suc (suc (suc (suc k)))) n = le-leb 4 (suc (suc (suc (suc k)))) (omega arith)

pub adding_1 : (k : ℕ) → k < 2 → 1 ≡ adding k
unfolding adding
adding_1 zero h = refl
adding_1 (suc zero) h = refl
adding_1 (suc (suc k)) h = absurd (omega arith)

pub adding_3 : (k : ℕ) → 2 ≤ k → k < 4 → 3 ≡ adding k
unfolding adding
adding_3 zero h l = absurd (omega arith)
adding_3 (suc zero) h l = absurd (omega arith)
adding_3 (suc (suc zero)) h l = refl
adding_3 (suc (suc (suc zero))) h l = refl
adding_3 (suc (suc (suc (suc k)))) h l = absurd (omega arith)

pub adding_4 : (k : ℕ) → 4 ≤ k → 4 ≡ adding k
unfolding adding
adding_4 zero h = absurd (omega arith)
adding_4 (suc zero) h = absurd (omega arith)
adding_4 (suc (suc zero)) h = absurd (omega arith)
adding_4 (suc (suc (suc zero))) h = absurd (omega arith)
adding_4 (suc (suc (suc (suc k)))) h = refl

module _ (first : ℕ) where
  pub both_0 : (second : ℕ) → second ≡ 0 → first ≡ both_of first second
  unfolding both_of
  both_0 second e = rw e

  pub both_1 : (second : ℕ) {r : ℕ} {b : Bool} → r ≡ adding first → b ≡ growing second → b ≡ true → r ≡ both_of first second
  unfolding both_of
  both_1 zero a e t = absurd (clash t e)
  both_1 (suc zero) a e t = a
  both_1 (suc (suc zero)) a e t = absurd (clash t e)
  both_1 (suc (suc (suc zero))) a e t = absurd (clash t e)
  both_1 (suc (suc (suc (suc k)))) a e t = a

  pub both_2 : (second : ℕ) {b : Bool} → (second ≡ 0 → ⊥) → b ≡ growing second → b ≡ false → second ≡ both_of first second
  unfolding both_of
  both_2 zero m e f = absurd (m refl)
  both_2 (suc zero) m e f = absurd (clash e f)
  both_2 (suc (suc zero)) m e f = refl
  both_2 (suc (suc (suc zero))) m e f = refl
  both_2 (suc (suc (suc (suc k)))) m e f = absurd (clash e f)

-- where no step came before, the second is both
pub both_alone : (first second : ℕ) → first ≡ 0 → second < 4 → second ≡ both_of first second
both_alone first second z h = sym (ap (λ (j : ℕ). both_of j second) z ∙ stays_both second h)

module _ {spans : Bool} {joined wanted : ℕ} (e : joined ≡ wanted) where
  pub next_spans : spans ≡ true → {k : ℕ} → k ≡ spanned joined → k ≡ spanned_if spans wanted
  next_spans t ek = rw t (ek ∙ ap (λ (j : ℕ). spanned j) e)

  pub next_counts : spans ≡ false → joined ≡ spanned_if spans wanted
  next_counts f = rw f e
