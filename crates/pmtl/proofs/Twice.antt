-- Two changes of a set at one clock are one: what the second adds lies in what the first may have added, and to add it again is to add nothing.
-- Assumes nothing.
use Prim.Native.Nat.{ℕ, ◌≤◌}
use native.Mathlib.Omega.{arith}
use mathlib.Core.Path.{◌≡◌, refl, sym, ap, ◌∙◌}
use mathlib.Core.Bool.{Bool, true, false, cond, ◌&&◌, ◌||◌, or_assoc}
use Rattle.numbers.specs.Limits.{MAX}
use Rattle.numset.specs.Runs.{Runs, has, within, kept, union, Canonical}
use Rattle.numset.proofs.Laws.{in_or_out, inside, outside_above, outside_below}
use Rattle.numset.proofs.Union.{union_has, union_canonical}
use Rattle.numset.proofs.Unique.{unique}
use Rattle.numset.proofs.Kept.{kept_canonical}
use Rattle.pmtl.specs.Book.{Range, start, stop}
use Rattle.pmtl.specs.Sets.{stays_if, added_if, renewed, firstly, lasted}
use Rattle.pmtl.proofs.Renewed.{stays_canonical}
use Rattle.pmtl.proofs.EachRun.{changed_none_before, none_before_kept}

-- an interval, and a longer one that ends where it ends
pub within_longer : (l u x t : ℕ) → x ≤ l → (within l u t || within x u t) ≡ within x u t
within_longer l u x t p =
    in_or_out l u t _
    (λ i j. rw (inside l u t i j, inside x u t (omega arith) j))
    (λ i. rw (outside_above l u t i))
    (λ i. rw (outside_below l u t i))

-- added after it, it adds nothing
union_longer : (l u x : ℕ) (s : Runs) → x ≤ l → Canonical s → union l u (union x u s) ≡ union x u s
union_longer l u x s p w = let v = union_canonical x u s w in
    unique (union l u (union x u s)) (union x u s) (union_canonical l u (union x u s) v) v
    (λ t. union_has l u (union x u s) t v ∙ ap (λ y. within l u t || y) (union_has x u s t w)
    ∙ sym (or_assoc (within l u t) (within x u t) (has s t)) ∙ ap (λ y. y || has s t) (within_longer l u x t p)
    ∙ sym (union_has x u s t w))

-- the first change counts from any instant up to the clock, the second from the clock
module _ (g : Range) (from c : ℕ) (back : from ≤ c) (small : c ≤ MAX) (s : Runs) (ok : Canonical s) where
  abbrev first : Bool → Bool → Runs
  first k x = added_if x g from c (stays_if k (kept c s))

  -- after a change at c nothing is over at c
  still : (k x : Bool) → kept c (first k x) ≡ first k x
  still k x = none_before_kept c (first k x) (changed_none_before k x g from c s small)

  longer : (k : Bool) → union (start g c) (stop g c) (union (start g from) (stop g c) (stays_if k (kept c s))) ≡ union (start g from) (stop g c) (stays_if k (kept c s))
  longer k = union_longer (start g c) (stop g c) (start g from) (stays_if k (kept c s)) (omega arith) (stays_canonical k (kept c s) (kept_canonical c s ok))

  -- the set stays if it stays in both; something is added if the second adds, or if the first does and the second lets it stay, and then it is what
  -- the first added
  pub changed_twice : (stays₁ adds₁ stays₂ adds₂ : Bool) → renewed stays₂ adds₂ g c (first stays₁ adds₁)
      ≡ added_if (cond stays₂ (adds₁ || adds₂) adds₂) g (cond (stays₂ && adds₁) from c) c (stays_if (stays₁ && stays₂) (kept c s))
  unfolding renewed added_if stays_if
  changed_twice true true true true = ap (union (start g c) (stop g c)) (still true true) ∙ longer true
  changed_twice true false true true = ap (union (start g c) (stop g c)) (still true false)
  changed_twice false true true true = ap (union (start g c) (stop g c)) (still false true) ∙ longer false
  changed_twice false false true true = ap (union (start g c) (stop g c)) (still false false)
  changed_twice true true true false = still true true
  changed_twice true false true false = still true false
  changed_twice false true true false = still false true
  changed_twice false false true false = still false false
  changed_twice true adds₁ false adds₂ = refl
  changed_twice false adds₁ false adds₂ = refl

-- in the ordinary way
pub renewed_twice : (g : Range) (c : ℕ) → c ≤ MAX → (s : Runs) → Canonical s → (stays₁ adds₁ stays₂ adds₂ : Bool)
    → renewed stays₂ adds₂ g c (renewed stays₁ adds₁ g c s) ≡ renewed (stays₁ && stays₂) (cond stays₂ (adds₁ || adds₂) adds₂) g c s
unfolding renewed
renewed_twice g c small s ok stays₁ adds₁ stays₂ adds₂ = changed_twice g c c (omega arith) small s ok stays₁ adds₁ stays₂ adds₂
    ∙ ap (λ from. added_if (cond stays₂ (adds₁ || adds₂) adds₂) g from c (stays_if (stays₁ && stays₂) (kept c s))) (either (stays₂ && adds₁))
  where
    either : (x : Bool) → cond x c c ≡ c
    either true = refl
    either false = refl

-- where a state lasts
pub lasted_twice : (before : ℕ) (g : Range) (c : ℕ) → c ≤ MAX → (s : Runs) → Canonical s → (stays₁ adds₁ stays₂ adds₂ : Bool)
    → renewed stays₂ adds₂ g c (lasted before stays₁ adds₁ g c s)
    ≡ added_if (cond stays₂ (adds₁ || adds₂) adds₂) g (cond (stays₂ && adds₁) (firstly before stays₁ c) c) c (stays_if (stays₁ && stays₂) (kept c s))
unfolding lasted
lasted_twice before g c small s ok stays₁ = changed_twice g (firstly before stays₁ c) c (back stays₁) small s ok stays₁
  where
    back : (x : Bool) → firstly before x c ≤ c
    back true = omega arith
    back false = omega arith
