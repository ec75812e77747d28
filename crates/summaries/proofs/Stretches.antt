-- The longest stretch is one, and none is longer. Assumes nothing.
use Prim.Native.Nat.{ℕ, suc, max, ◌≤◌}
use native.Mathlib.Omega.{arith}
use mathlib.Core.Path.{◌≡◌, refl, ap}
use mathlib.Core.Logic.{⊎_elim}
use mathlib.Core.Bool.{Bool, true, false, cond}
use mathlib.Core.List.{List, [], ◌∷◌, ◌++◌}
use lib.ListN.{length}
use Rattle.lists.proofs.Tests.{lt_or_ge, and_left, and_right}
use Rattle.pmtl.specs.Book.{every}
use Rattle.report.specs.Lines.{CallLine}
use Rattle.summaries.specs.Recount.{stretch_of, longest_of, InARow}
use Rattle.summaries.proofs.Appended.{stretch_within}

module _ (test : CallLine → Bool) where
  -- ---- none is longer
  from_here : (row newer : List CallLine) → every test row ≡ true → length row ≤ stretch_of test (row ++ newer)
  unfolding every stretch_of
  from_here [] newer h = omega arith
  from_here (l ∷ row) newer h = rw (and_left (test l) (every test row) h) (omega (arith, from_here row newer (and_right (test l) (every test row) h)))

  anywhere : (older row newer : List CallLine) → every test row ≡ true → length row ≤ longest_of test (older ++ (row ++ newer))
  unfolding longest_of
  anywhere [] row newer h = omega (arith, from_here row newer h, stretch_within test (row ++ newer))
  anywhere (l ∷ older) row newer h = omega (arith, anywhere older row newer h)

  pub none_longer : (ls : List CallLine) (n : ℕ) → InARow test ls n → n ≤ longest_of test ls
  none_longer ls n r = rw (r.are, ← r.count) (anywhere r.older r.row r.newer r.pass)

  -- ---- it is one
  -- a stretch from the first line on
  record Begins (ls : List CallLine) (n : ℕ) : Type 0 where
    row : List CallLine
    newer : List CallLine
    are : ls ≡ row ++ newer
    pass : every test row ≡ true
    count : length row ≡ n

  begins : (ls : List CallLine) → Begins ls (stretch_of test ls)
  unfolding every stretch_of
  begins [] = record { row = []; newer = []; are = refl; pass = refl; count = refl }
  begins (l ∷ ls) = go (test l) refl (begins ls)
    where
      go : (z : Bool) → test l ≡ z → Begins ls (stretch_of test ls) → Begins (l ∷ ls) (cond z (suc (stretch_of test ls)) 0)
      go true e r = record { row = l ∷ r.row; newer = r.newer; are = ap (λ q. l ∷ q) r.are; pass = rw e r.pass; count = ap suc r.count }
      go false e r = record { row = []; newer = l ∷ ls; are = refl; pass = refl; count = refl }

  here : (ls : List CallLine) → InARow test ls (stretch_of test ls)
  here ls = let r = begins ls in record { older = []; row = r.row; newer = r.newer; are = r.are; pass = r.pass; count = r.count }

  pub one_so_long : (ls : List CallLine) → InARow test ls (longest_of test ls)
  unfolding every longest_of
  one_so_long [] = record { older = []; row = []; newer = []; are = refl; pass = refl; count = refl }
  one_so_long (l ∷ ls) = ⊎_elim
      (λ h. let e : max (stretch_of test (l ∷ ls)) (longest_of test ls) ≡ longest_of test ls = omega arith in
      let r = one_so_long ls in
      rw e (record { older = l ∷ r.older; row = r.row; newer = r.newer; are = ap (λ q. l ∷ q) r.are; pass = r.pass; count = r.count }))
      (λ h. let e : max (stretch_of test (l ∷ ls)) (longest_of test ls) ≡ stretch_of test (l ∷ ls) = omega arith in rw e (here (l ∷ ls)))
      (lt_or_ge (stretch_of test (l ∷ ls)) (longest_of test ls))
