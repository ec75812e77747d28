-- `union` has the members of both, and keeps sets canonical. Assumes nothing.
use Prim.Native.Nat.{ℕ, suc, ◌+◌, ◌≤◌, ◌<◌, min, max}
use mathlib.Core.Path.{◌≡◌, refl, ◌∙◌}
use mathlib.Core.Logic.{⊎_elim}
use mathlib.Core.Bool.{Bool, true, false, ◌||◌, or_assoc}
use mathlib.Core.List.{[], ◌∷◌}
use native.Mathlib.Omega.{arith}
use lib.ListN.{length}
use borrow.Author.Tests.{lt-ltb, le-ltb}
use Rattle.numset.specs.Runs.{run, Runs, Under, Canonical, within, has, insert, union}
use Rattle.lists.proofs.Tests.{lt_or_ge}
use Rattle.numset.proofs.Laws.{inside, outside_above, outside_below, outside_none, in_or_out, under_mono, canonical, top_of, under_top_of}

-- ---- the three ways of `insert`
module _ (l u a b : ℕ) (rs : Runs) where
  pub insert_over : u + 1 < a → insert l u (run a b ∷ rs) ≡ run a b ∷ insert l u rs
  unfolding insert
  insert_over h = rw (lt-ltb (u + 1) a h)

  pub insert_past : a ≤ u + 1 → b + 1 < l → insert l u (run a b ∷ rs) ≡ run l u ∷ run a b ∷ rs
  unfolding insert
  insert_past h k = rw (le-ltb (u + 1) a h, lt-ltb (b + 1) l k)

  pub insert_join : a ≤ u + 1 → l ≤ b + 1 → insert l u (run a b ∷ rs) ≡ insert (min l a) (max u b) rs
  unfolding insert
  insert_join h k = rw (le-ltb (u + 1) a h, le-ltb (b + 1) l k)

-- by cases, which way it goes
ways : (l u a b : ℕ) (P : Type 0) → (u + 1 < a → P) → (a ≤ u + 1 → b + 1 < l → P) → (a ≤ u + 1 → l ≤ b + 1 → P) → P
ways l u a b P f g h = ⊎_elim f (λ p. ⊎_elim (g p) (h p) (lt_or_ge (b + 1) l)) (lt_or_ge (u + 1) a)

-- ---- order
pub insert_under : (top l u : ℕ) (rs : Runs) → Under top rs → l ≤ u → u + 1 < top → Under top (insert l u rs)
unfolding Under insert
insert_under top l u [] w h k = (h, k, tt)
insert_under top l u (run a b ∷ rs) w h k =
    ways l u a b _
    (λ p. rw (insert_over l u a b rs p) (w.0, w.1, insert_under a l u rs w.2 h p))
    (λ p q. rw (insert_past l u a b rs p q) (h, k, (w.0, q, w.2)))
    (λ p q. rw (insert_join l u a b rs p q)
    (insert_under top (min l a) (max u b) rs (under_mono a top rs (omega arith) w.2) (omega arith) (omega arith)))

-- ---- members
within_join : (l u a b t : ℕ) → l ≤ u → a ≤ b → a ≤ u + 1 → l ≤ b + 1 → within (min l a) (max u b) t ≡ within l u t || within a b t
within_join l u a b t h k p q =
    in_or_out l u t _
    (λ x y. inside (min l a) (max u b) t (omega arith) (omega arith) ∙ rw (inside l u t x y))
    (λ x. in_or_out a b t _
    (λ y z. inside (min l a) (max u b) t (omega arith) (omega arith) ∙ rw (outside_above l u t x, inside a b t y z))
    (λ y. outside_above (min l a) (max u b) t (omega arith) ∙ rw (outside_above l u t x, outside_above a b t y))
    (λ y. absurd (omega arith)))
    (λ x. in_or_out a b t _
    (λ y z. inside (min l a) (max u b) t (omega arith) (omega arith) ∙ rw (outside_below l u t x, inside a b t y z))
    (λ y. absurd (omega arith))
    (λ y. outside_below (min l a) (max u b) t (omega arith) ∙ rw (outside_below l u t x, outside_below a b t y)))

or_swap : (x y z : Bool) → (x || (y || z)) ≡ (y || (x || z))
or_swap true true z = refl
or_swap true false z = refl
or_swap false true z = refl
or_swap false false z = refl

pub insert_has : (top l u : ℕ) (rs : Runs) (t : ℕ) → Under top rs → l ≤ u → has (insert l u rs) t ≡ within l u t || has rs t
unfolding Under has insert
insert_has top l u [] t w h = refl
insert_has top l u (run a b ∷ rs) t w h =
    ways l u a b _
    (λ p. rw (insert_over l u a b rs p, insert_has a l u rs t w.2 h) (or_swap (within a b t) (within l u t) (has rs t)))
    (λ p q. rw (insert_past l u a b rs p q))
    (λ p q. rw (insert_join l u a b rs p q, insert_has a (min l a) (max u b) rs t w.2 (omega arith), within_join l u a b t h w.0 p q)
    (or_assoc (within l u t) (within a b t) (has rs t)))

-- ---- the union
pub union_none : (l u : ℕ) (rs : Runs) → u < l → union l u rs ≡ rs
unfolding union
union_none l u rs h = rw (lt-ltb u l h)

pub union_some : (l u : ℕ) (rs : Runs) → l ≤ u → union l u rs ≡ insert l u rs
unfolding union
union_some l u rs h = rw (le-ltb u l h)

-- its members are those of the interval and those of the set
pub union_has : (l u : ℕ) (rs : Runs) (t : ℕ) → Canonical rs → has (union l u rs) t ≡ within l u t || has rs t
union_has l u rs t w =
    ⊎_elim
    (λ p. rw (union_none l u rs p, outside_none l u t p))
    (λ p. rw (union_some l u rs p) (insert_has (top_of rs) l u rs t (under_top_of rs w) p))
    (lt_or_ge u l)

pub union_under : (top l u : ℕ) (rs : Runs) → Under top rs → u + 1 < top → Under top (union l u rs)
union_under top l u rs w h =
    ⊎_elim (λ p. rw (union_none l u rs p) w) (λ p. rw (union_some l u rs p) (insert_under top l u rs w p h)) (lt_or_ge u l)

pub union_canonical : (l u : ℕ) (rs : Runs) → Canonical rs → Canonical (union l u rs)
union_canonical l u rs w =
    let top : ℕ = max (top_of rs) (u + 2) in
    canonical top (union l u rs) (union_under top l u rs (under_mono (top_of rs) top rs (omega arith) (under_top_of rs w)) (omega arith))

-- ---- an interval adds at most one run
insert_most : (l u : ℕ) (rs : Runs) → length (insert l u rs) ≤ suc (length rs)
unfolding insert
insert_most l u [] = omega arith
insert_most l u (run a b ∷ rs) =
    let k = insert_most l u rs in
    ⊎_elim
    (λ p. rw (insert_over l u a b rs p) (omega arith))
    (λ p. ⊎_elim
    (λ q. rw (insert_past l u a b rs p q) (omega arith))
    (λ q. let j = insert_most (min l a) (max u b) rs in rw (insert_join l u a b rs p q) (omega arith))
    (lt_or_ge (b + 1) l))
    (lt_or_ge (u + 1) a)

pub most_one : (l u : ℕ) (rs : Runs) → length (union l u rs) ≤ suc (length rs)
most_one l u rs = ⊎_elim (λ p. rw (union_none l u rs p) (omega arith)) (λ p. rw (union_some l u rs p) (insert_most l u rs)) (lt_or_ge u l)
