-- What the words of a row say: how many operands it takes, the row that they make, the width that it asks for. Assumes nothing.
use Prim.Native.Nat.{ℕ, zero, suc, ◌≤◌, ◌<◌, max}
use mathlib.Core.Path.{◌≡◌, refl, sym, ap, ap₂, ◌∙◌}
use mathlib.Core.Bool.{true}
use mathlib.Core.Logic.{⊎_elim}
use mathlib.Core.List.{List, [], ◌∷◌, ◌++◌}
use native.Mathlib.Omega.{arith}
use native.Mathlib.Numerals.{add-one}
use lib.ListN.{length, get_or, take}
use lib.Seq.{ext_get_or, get_or-take, length-take-le}
use lib.Dec.{eqb}
use borrow.Author.Tests.{eqb-true, leb-true, ne_eqb}
use Rattle.lists.proofs.Tests.{either, lt_or_ge}
use Rattle.pmtl.specs.Book.{Row, Rows, atom_width, width_of}
use Rattle.pmtl.specs.Book.Row.{conj, disj, neg, implies, historically, once, since}
use Rattle.book.specs.Rows.{count_of, row_from}
use Rattle.lists.specs.Lists.{listed}
use Rattle.book.specs.Judging.{kind_in, arg_in, arg_good}
use Rattle.loader.specs.Private.{reach, width_in}

pub atom_arg : (kind arg : ℕ) → arg_good kind arg ≡ true → kind ≡ 2 → arg ≤ 255
unfolding arg_good
atom_arg kind arg g e = leb-true arg 255 (rw e at g)

pub reach_small : (kind arg : ℕ) → arg_good kind arg ≡ true → reach kind arg ≤ 256
reach_small kind arg g =
    ⊎_elim (λ t. rw t (omega (arith, atom_arg kind arg g (eqb-true kind 2 t)))) (λ t. rw t (omega arith)) (either (eqb kind 2))

-- ---- a row looks at its own operands alone
abbrev Agree : ℕ → List ℕ → List ℕ → Type 0
Agree count os os' = (k : ℕ) → k < count → get_or os k 0 ≡ get_or os' k 0

first_operands : (n : ℕ) (os os' : List ℕ) → n ≤ length os → n ≤ length os' → Agree n os os' → take n os ≡ take n os'
first_operands n os os' h h' same =
    let e = length-take-le n os h in
    ext_get_or 0 (take n os) (take n os') (e ∙ sym (length-take-le n os' h'))
    (λ i p. let q : i < n = omega arith in get_or-take n os i 0 q ∙ same i q ∙ sym (get_or-take n os' i 0 q))

pub row_local : (kind arg lower upper : ℕ) (os os' : List ℕ) → count_of kind arg ≤ length os → count_of kind arg ≤ length os'
    → Agree (count_of kind arg) os os' → row_from kind arg lower upper os ≡ row_from kind arg lower upper os'
unfolding count_of row_from
row_local zero arg lower upper os os' h h' same = refl
row_local (suc zero) arg lower upper os os' h h' same = refl
row_local (suc (suc zero)) arg lower upper os os' h h' same = refl
row_local (suc (suc (suc zero))) arg lower upper os os' h h' same = ap conj (first_operands arg os os' h h' same)
row_local (suc (suc (suc (suc zero)))) arg lower upper os os' h h' same = ap disj (first_operands arg os os' h h' same)
row_local (suc (suc (suc (suc (suc zero))))) arg lower upper os os' h h' same = ap neg (same 0 (omega arith))
row_local (suc (suc (suc (suc (suc (suc zero)))))) arg lower upper os os' h h' same = ap₂ implies (same 0 (omega arith)) (same 1 (omega arith))
row_local (suc (suc (suc (suc (suc (suc (suc zero))))))) arg lower upper os os' h h' same =
    ap (historically (record { lower = lower; upper = upper })) (same 0 (omega arith))
row_local (suc (suc (suc (suc (suc (suc (suc (suc zero)))))))) arg lower upper os os' h h' same =
    ap (once (record { lower = lower; upper = upper })) (same 0 (omega arith))
row_local (suc (suc (suc (suc (suc (suc (suc (suc (suc zero))))))))) arg lower upper os os' h h' same =
    ap₂ (since (record { lower = lower; upper = upper })) (same 0 (omega arith)) (same 1 (omega arith))
row_local (suc (suc (suc (suc (suc (suc (suc (suc (suc (suc kind)))))))))) arg lower upper os os' h h' same = refl

-- ---- how many atoms a row asks for
pub row_width : (kind arg lower upper : ℕ) (os : List ℕ) → atom_width (row_from kind arg lower upper os) ≡ reach kind arg
unfolding row_from
row_width zero arg lower upper os = refl
row_width (suc zero) arg lower upper os = refl
row_width (suc (suc zero)) arg lower upper os = sym (add-one arg)
row_width (suc (suc (suc zero))) arg lower upper os = refl
row_width (suc (suc (suc (suc zero)))) arg lower upper os = refl
row_width (suc (suc (suc (suc (suc zero))))) arg lower upper os = refl
row_width (suc (suc (suc (suc (suc (suc zero)))))) arg lower upper os = refl
row_width (suc (suc (suc (suc (suc (suc (suc zero))))))) arg lower upper os = refl
row_width (suc (suc (suc (suc (suc (suc (suc (suc zero)))))))) arg lower upper os = refl
row_width (suc (suc (suc (suc (suc (suc (suc (suc (suc zero))))))))) arg lower upper os = refl
row_width (suc (suc (suc (suc (suc (suc (suc (suc (suc (suc kind)))))))))) arg lower upper os =
    rw (ne_eqb (suc (suc (suc (suc (suc (suc (suc (suc (suc (suc kind)))))))))) 2 (λ e. omega arith))

-- ---- the width of rows, one after the other
width_append : (b : Rows) (row : Row ℕ) → width_of (b ++ row ∷ []) ≡ max (width_of b) (atom_width row)
unfolding width_of
width_append [] row = omega arith
width_append (x ∷ b) row = let e = width_append b row in omega arith

pub width_listed : (f : ℕ → Row ℕ) (ws : List ℕ) (n : ℕ) → ((r : ℕ) → r < n → atom_width (f r) ≡ reach (kind_in ws r) (arg_in ws r)) → width_of (listed f n) ≡ width_in ws n
unfolding listed width_in width_of
width_listed f ws zero e = refl
width_listed f ws (suc n) e =
    width_append (listed f n) (f n) ∙ ap₂ max (width_listed f ws n (λ r h. e r (omega arith))) (e n (omega arith))

pub width_reaches : (ws : List ℕ) (n r : ℕ) → r < n → reach (kind_in ws r) (arg_in ws r) ≤ width_in ws n
unfolding width_in
width_reaches ws zero r h = absurd (omega arith)
width_reaches ws (suc n) r h =
    ⊎_elim
    (λ p. let w = width_reaches ws n r p in omega arith)
    (λ (p : n ≤ r). let e : r ≡ n = omega arith in rw e (omega arith))
    (lt_or_ge r n)

pub width_small : (ws : List ℕ) (n : ℕ) → ((r : ℕ) → r < n → arg_good (kind_in ws r) (arg_in ws r) ≡ true) → width_in ws n ≤ 256
unfolding width_in
width_small ws zero g = omega arith
width_small ws (suc n) g =
    let w = width_small ws n (λ r h. g r (omega arith)) in
    let k = reach_small (kind_in ws n) (arg_in ws n) (g n (omega arith)) in
    omega arith
