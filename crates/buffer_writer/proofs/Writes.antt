-- Laws of writing a report. Assumes nothing.
use Prim.Native.Nat.{ℕ, suc, ◌+◌, ◌≤◌, ◌<◌}
use mathlib.Core.Path.{◌≡◌, refl, sym, ap, ◌∙◌}
use mathlib.Core.Bool.{Bool, true, false}
use mathlib.Core.List.{List, [], ◌∷◌, ◌++◌, append_assoc, append-nil}
use native.Mathlib.Omega.{arith}
use lib.Dec.{leb}
use native.Mathlib.Numerals.{add-one}
use lib.ListN.{length, get_or, drop, set, replicate, length-append, length-set}
use lib.Seq.{sets, sets-eq, length-sets, drop-cons}
use borrow.Author.Tests.{le-leb, lt-leb, leb-true}
use Rattle.numbers.specs.Limits.{MAX}
use Rattle.buffer_writer.specs.Buffer.{handed, in_buffer}
use Rattle.buffer_writer.specs.Finish.{finish, Wrote, Laid}

-- ---- a run of stores that goes on
pub record Storing (m₀ : List ℕ) (at : ℕ) (all : List ℕ) (m : List ℕ) (i : ℕ) (left : List ℕ) : Type 0 where
  pub size : length m ≡ length m₀
  pub memory : sets m (at + i) left ≡ sets m₀ at all

pub store_start : (m : List ℕ) (at : ℕ) (all : List ℕ) → Storing m at all m 0 all
store_start m at all = let e : at + 0 ≡ at = omega arith in record { size = refl; memory = rw e }

pub store_more : {m₀ : List ℕ} {at : ℕ} {all m : List ℕ} {i : ℕ} {left : List ℕ} (k v : ℕ) (next : List ℕ) → Storing m₀ at all m i left → left ≡ v ∷ next → k ≡ at + i → Storing m₀ at all (set m k v) (i + 1) next
store_more {m₀} {at} {all} {m} {i} k v next g e f =
    let p : at + (i + 1) ≡ suc (at + i) = omega arith in
    record {
      size = length-set m k v ∙ g.size;
      memory = rw (p, f) (sym (ap (λ (x : List ℕ). sets m (at + i) x) e) ∙ g.memory);
    }

pub store_done : {m₀ : List ℕ} {at : ℕ} {all m : List ℕ} {i : ℕ} {left : List ℕ} → Storing m₀ at all m i left → left ≡ [] → m ≡ sets m₀ at all
store_done {m₀} {at} {all} {m} {i} g e = sym (ap (λ (x : List ℕ). sets m (at + i) x) e) ∙ g.memory

pub drop_more : (l : List ℕ) (i : ℕ) → i < length l → drop i l ≡ get_or l i 0 ∷ drop (i + 1) l
drop_more l i h = drop-cons l i 0 h ∙ rw add-one

-- ---- what a report comes to
pub sets_append : (bs rest m : List ℕ) (at : ℕ) → sets m at (bs ++ rest) ≡ sets (sets m at bs) (at + length bs) rest
sets_append [] rest m at = let e : at + 0 ≡ at = omega arith in rw e
sets_append (b ∷ bs) rest m at =
    let e : suc at + length bs ≡ at + suc (length bs) = omega arith in
    sets_append bs rest (set m at b) (suc at) ∙ ap (λ (j : ℕ). sets (sets (set m at b) (suc at) bs) j rest) e

pub too_much : (m : List ℕ) (at : ℕ) (bs : List ℕ) → length m < MAX → length m < at + length bs → Wrote m at bs m MAX
unfolding finish
too_much m at bs h k =
    record {
      same = λ rest.
          let n = length-append bs rest in
          rw (lt-leb (at + length (bs ++ rest)) (length m) (omega arith), lt-leb (MAX + length rest) (length m) (omega arith));
    }

pub it_fits : (m : List ℕ) (at : ℕ) (bs m' : List ℕ) (at' : ℕ) → m' ≡ sets m at bs → at' ≡ at + length bs → Wrote m at bs m' at'
unfolding finish
it_fits m at bs m' at' e f =
    record {
      same = λ rest.
          let n : at + length (bs ++ rest) ≡ at + length bs + length rest = omega (arith, length-append bs rest) in
          rw (n, sets_append bs rest m at, e, f, length-sets m at bs);
    }

pub and_then : {m : List ℕ} {at : ℕ} {x m₁ : List ℕ} {at₁ : ℕ} {y m₂ : List ℕ} {at₂ : ℕ} → Wrote m at x m₁ at₁ → Wrote m₁ at₁ y m₂ at₂ → Wrote m at (x ++ y) m₂ at₂
and_then {m} {at} {x} {y = y} p q = record { same = λ rest. ap (finish m at) (append_assoc x y rest) ∙ p.same (y ++ rest) ∙ q.same rest }

pub at_end : {m : List ℕ} {at : ℕ} {x m₁ : List ℕ} {at₁ : ℕ} → Wrote m at x m₁ at₁ → finish m₁ at₁ [] ≡ finish m at x
at_end {m} {at} {x} p = sym (p.same []) ∙ ap (finish m at) (append-nil x)

pub done_short : (m : List ℕ) (at : ℕ) (m' : List ℕ) → m' ≡ replicate (length m) 0 → length m < at → handed MAX m' ≡ finish m at []
unfolding finish
done_short m at m' e h = rw (e, lt-leb (at + 0) (length m) (omega arith))

pub done_right : (m : List ℕ) (at : ℕ) → at ≤ length m → handed at m ≡ finish m at []
unfolding finish
done_right m at h = let e : at + 0 ≡ at = omega arith in rw (e, le-leb at (length m) h)

pub same_bytes : {m : List ℕ} {at : ℕ} {x y m₁ : List ℕ} {at₁ : ℕ} → Wrote m at x m₁ at₁ → x ≡ y → Wrote m at y m₁ at₁
same_bytes p e = rw e at p

-- ---- where there was room
pub it_lies : (m : List ℕ) (at : ℕ) (bs m' : List ℕ) → m' ≡ sets m at bs → Laid m at bs m' (at + length bs)
it_lies m at bs m' e = record { wrote = it_fits m at bs m' (at + length bs) e refl; after = refl }

pub laid_bytes : {m : List ℕ} {at : ℕ} {x y m₁ : List ℕ} {at₁ : ℕ} → Laid m at x m₁ at₁ → x ≡ y → Laid m at y m₁ at₁
laid_bytes p e = rw e at p

-- ---- the whole report is the rest from 0 on
pub whole : (out report : List ℕ) → finish out 0 report ≡ in_buffer out report
unfolding finish in_buffer
whole out report = by_room (leb (length report) (length out)) refl
  where
    z : 0 + length report ≡ length report
    z = omega arith

    by_room : (t : Bool) → leb (length report) (length out) ≡ t → finish out 0 report ≡ in_buffer out report
    by_room true e = rw (z, e, sets-eq report out 0 (rw z (leb-true (length report) (length out) e)), z)
    by_room false e = rw (z, e)
