-- The greatest of some bytes, as a loop finds it: none is over it, and if it is more than 1 some byte is. Assumes nothing.
use Prim.Native.Nat.{ℕ, ◌+◌, max, ◌≤◌, ◌<◌}
use native.Mathlib.Omega.{arith}
use mathlib.Core.Path.{◌≡◌, sym, ap, ◌∙◌}
use mathlib.Core.Logic.{⊎_elim}
use mathlib.Core.List.{List}
use lib.ListN.{length, get_or}
use lib.Dec.{ltb}
use borrow.Author.Tests.{lt-ltb, le-ltb}
use Rattle.lists.proofs.Tests.{lt_or_ge}
use Rattle.pmtl.specs.Book.{some}
use Rattle.planning.proofs.Plans.{some_none, some_hit}
use Rattle.calls.specs.Private.{NoneOver, Greatest}

pub none_over_start : (bytes : List ℕ) (r : ℕ) → NoneOver bytes r 0
none_over_start bytes r = record { below = λ j h. absurd (omega arith) }

pub none_over_more : {bytes : List ℕ} {r n : ℕ} → NoneOver bytes r n → {w : ℕ} → w ≡ max r (get_or bytes n 0) → NoneOver bytes w (n + 1)
none_over_more {bytes} {r} {n} o e =
    record {
      below = λ j h.
          ⊎_elim (λ (p : j < n). let l = o.below j p in omega arith)
          (λ (p : n ≤ j). let d : j ≡ n = omega arith in let q : get_or bytes j 0 ≡ get_or bytes n 0 = ap (λ (k : ℕ). get_or bytes k 0) d in omega arith) (lt_or_ge j n);
    }

pub greatest_start : (bytes : List ℕ) → Greatest bytes 0 0
greatest_start bytes = record { over = none_over_start bytes 0; met = λ h. absurd (omega arith) }

pub greatest_more : {bytes : List ℕ} {r n : ℕ} → Greatest bytes r n → {w : ℕ} → w ≡ max r (get_or bytes n 0) → Greatest bytes w (n + 1)
greatest_more {bytes} {r} {n} g e =
    record {
      over = none_over_more g.over e;
      met = λ h.
          ⊎_elim (λ (p : 1 < r). let m = g.met p in (m.0, omega (arith, m.1), m.2)) (λ (p : r ≤ 1). (n, omega arith, omega arith)) (lt_or_ge 1 r);
    }

-- so it tells whether a byte is more than 1
pub greatest_tells : {bytes : List ℕ} {r n : ℕ} → Greatest bytes r n → n ≡ length bytes → ltb 1 r ≡ some (ltb 1) bytes
greatest_tells {bytes} {r} g e =
    ⊎_elim
    (λ (p : 1 < r). let m = g.met p in lt-ltb 1 r p ∙ sym (some_hit (ltb 1) 0 bytes m.0 (omega (arith, m.1)) (lt-ltb 1 (get_or bytes m.0 0) m.2)))
    (λ (p : r ≤ 1). le-ltb 1 r p ∙ sym (some_none (ltb 1) 0 bytes (λ k h. let l = g.over.below k (omega arith) in le-ltb 1 (get_or bytes k 0) (omega arith))))
    (lt_or_ge 1 r)
