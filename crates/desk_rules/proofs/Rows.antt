-- The desk's book: its rows, their order, their width, and that no set of it can need more runs than it may have. Assumes nothing.
use Prim.Native.Nat.{ℕ, zero, suc, ◌+◌, ◌*◌, ◌≤◌, ◌<◌, max}
use native.Mathlib.Omega.{arith}
use native.Mathlib.Nat.{div-eq_of_lt}
use mathlib.Core.Path.{◌≡◌, refl, sym, ap, ◌∙◌}
use mathlib.Core.Logic.{inl, inr}
use mathlib.Core.List.{List, [], ◌∷◌}
use lib.ListN.{length, get_or, drop}
use lib.Seq.{drop-cons, get_or-drop}
use Rattle.numbers.specs.Limits.{MAX, MOST_RUNS}
use Rattle.pmtl.specs.Book.{Rows, row_at, Below, Ordered, width_of}
use Rattle.pmtl.specs.Book.Row.{never}
use Rattle.pmtl.specs.Strict.{quotient, needed, needed_by, Strict}
use Rattle.pmtl.proofs.Strict.{strict_range}
use Rattle.desk_rules.specs.Rows.{within, row_of, kit_rows, rows_from, desk_rows}

-- ---- operands are below their owners
ordered_from : (k : ℕ) (ws : List ℕ) (i : ℕ) → Below (row_of k i) (get_or (rows_from k ws) i never)
unfolding rows_from
ordered_from k [] i = tt
ordered_from k (w ∷ ws) zero = tt
ordered_from k (w ∷ ws) (suc zero) = tt
ordered_from k (w ∷ ws) (suc (suc zero)) = omega arith
ordered_from k (w ∷ ws) (suc (suc (suc zero))) = tt
ordered_from k (w ∷ ws) (suc (suc (suc (suc zero)))) = (omega arith, omega arith)
ordered_from k (w ∷ ws) (suc (suc (suc (suc (suc zero))))) = (omega arith, omega arith)
ordered_from k (w ∷ ws) (suc (suc (suc (suc (suc (suc zero)))))) = omega arith
ordered_from k (w ∷ ws) (suc (suc (suc (suc (suc (suc (suc i))))))) =
    let e : row_of k (suc (suc (suc (suc (suc (suc (suc i))))))) ≡ row_of (suc k) i = omega arith in
    rw e (ordered_from (suc k) ws i)

pub desk_ordered : (ws : List ℕ) → Ordered (desk_rows ws)
desk_ordered ws r = let e : row_of 0 r ≡ r = omega arith in rw e at (ordered_from 0 ws r)

-- ---- no set can need more runs than it may have
window_strict : (w : ℕ) → needed (within w) ≤ MOST_RUNS
window_strict w = let e : quotient (within w) ≡ 0 = div-eq_of_lt (omega arith) in (strict_range (within w)).1 (inr (omega arith))

strict_from : (k : ℕ) (ws : List ℕ) (i : ℕ) → needed_by (get_or (rows_from k ws) i never) ≤ MOST_RUNS
unfolding rows_from needed_by
strict_from k [] i = omega arith
strict_from k (w ∷ ws) zero = omega arith
strict_from k (w ∷ ws) (suc zero) = omega arith
strict_from k (w ∷ ws) (suc (suc zero)) = omega arith
strict_from k (w ∷ ws) (suc (suc (suc zero))) = omega arith
strict_from k (w ∷ ws) (suc (suc (suc (suc zero)))) = window_strict w
strict_from k (w ∷ ws) (suc (suc (suc (suc (suc zero))))) = omega arith
strict_from k (w ∷ ws) (suc (suc (suc (suc (suc (suc zero)))))) = (strict_range (within MAX)).1 (inl refl)
strict_from k (w ∷ ws) (suc (suc (suc (suc (suc (suc (suc i))))))) = strict_from (suc k) ws i

pub desk_strict : (ws : List ℕ) → Strict (desk_rows ws)
desk_strict ws r = strict_from 0 ws r

-- ---- the rows of a kit
drop_from : (k j : ℕ) (ws : List ℕ) → k < length ws → drop (7 * k) (rows_from j ws) ≡ rows_from (j + k) (drop k ws)
unfolding rows_from
drop_from k j [] h = absurd (omega arith)
drop_from zero j (w ∷ ws) h = let e : j + 0 ≡ j = omega arith in rw e
drop_from (suc k) j (w ∷ ws) h =
    let e : 7 * suc k ≡ suc (suc (suc (suc (suc (suc (suc (7 * k))))))) = omega arith in
    let f : j + suc k ≡ suc j + k = omega arith in
    rw (e, f) (drop_from k (suc j) ws (omega arith))

module _ (ws : List ℕ) (k : ℕ) (h : k < length ws) where
  pub rest : Rows
  rest = rows_from (suc k) (drop (suc k) ws)

  pub row_is : (i : ℕ) → row_at (desk_rows ws) (row_of k i) ≡ get_or (kit_rows k (get_or ws k 0) rest) i never
  unfolding rest rows_from
  row_is i =
      let e : 0 + k ≡ k = omega arith in
      let d : rows_from (0 + k) (drop k ws) ≡ kit_rows k (get_or ws k 0) rest = rw (e, drop-cons ws k 0 h) in
      sym (get_or-drop (7 * k) (desk_rows ws) i never) ∙ ap (λ (l : Rows). get_or l i never) (drop_from k 0 ws h ∙ d)

-- ---- how many rows, and how wide a state
rows_long : (k : ℕ) (ws : List ℕ) → length (rows_from k ws) ≡ 7 * length ws
unfolding rows_from
rows_long k [] = refl
rows_long k (w ∷ ws) = omega (arith, rows_long (suc k) ws)

pub desk_length : (ws : List ℕ) → length (desk_rows ws) ≡ 7 * length ws
desk_length ws = rows_long 0 ws

zero_max : (x : ℕ) → max 0 x ≡ x
zero_max x = omega arith

widest : (a b c x : ℕ) → a ≤ b → c ≤ b → max a (max b (max 0 (max c (max 0 (max 0 (max 0 x)))))) ≡ max b x
widest a b c x p q = simp zero_max (omega arith)

width_one : (k w : ℕ) (ws : List ℕ) → width_of (rows_from k (w ∷ ws)) ≡ max (3 * k + 3) (width_of (rows_from (suc k) ws))
unfolding rows_from width_of
width_one k w ws = let e : suc (3 * k + 2) ≡ 3 * k + 3 = omega arith in
    widest (suc (3 * k + 1)) (suc (3 * k + 2)) (suc (3 * k + 0)) (width_of (rows_from (suc k) ws)) (omega arith) (omega arith) ∙ rw e

no_width : (k : ℕ) → width_of (rows_from k []) ≡ 0
unfolding rows_from width_of
no_width k = refl

width_from : (k w : ℕ) (ws : List ℕ) → width_of (rows_from k (w ∷ ws)) ≡ 3 * (k + suc (length ws))
width_from k w [] = width_one k w [] ∙ omega (arith, no_width (suc k))
width_from k w (v ∷ ws) = width_one k w (v ∷ ws) ∙ omega (arith, width_from (suc k) v ws)

pub desk_width : (ws : List ℕ) → width_of (desk_rows ws) ≡ 3 * length ws
desk_width [] = no_width 0
desk_width (w ∷ ws) = width_from 0 w ws ∙ omega arith
