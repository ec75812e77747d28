-- The operands and their owners: what the loop over the rows keeps. Assumes nothing.
use mathlib.Core.Path.{◌≡◌, refl, sym, ◌∙◌}
use mathlib.Core.Bool.{Bool, true, false, ◌&&◌, and-true}
use mathlib.Core.List.{List, []}
use Prim.Native.Nat.{ℕ, zero, suc, ◌+◌, ◌-◌, ◌/◌, ◌≤◌, ◌<◌}
use native.Mathlib.Numerals.{add-one}
use native.Mathlib.Omega.{arith}
use lib.ListN.{length, take, drop}
use lib.Dec.{ltb, eqb}
use borrow.Author.Tests.{ne_eqb, eqb-true}
use Rattle.std.specs.List.{list_all}
use Rattle.lists.proofs.Tests.{and_no_left, and_no_right}
use Rattle.book.specs.Rows.{count_of}
use Rattle.book.specs.Judging.{kind_in, arg_in, start_in, first_to, all_to, arg_good, row_number, operands_good, links_good}
use Rattle.book.specs.Placing.{sections_of}
use Rattle.book.specs.Private.{operands_met}
use Rattle.book.proofs.Accepted.{start_mono, first_each, row_form, form_arg, arg_kind}
use Rattle.book.proofs.All.{all_fails, all_in_part, every_append}

-- ---- how many operands a row takes
pub takes_none : (kind arg : ℕ) → kind < 3 → ◌≡◌ {A = ℕ} 0 (count_of kind arg)
unfolding count_of
takes_none zero arg l = refl
takes_none (suc zero) arg l = refl
takes_none (suc (suc zero)) arg l = refl
takes_none (suc (suc (suc k))) arg l = absurd (omega arith)

pub takes_arg : (kind arg : ℕ) → 3 ≤ kind → arg_good kind arg ≡ true → arg ≡ count_of kind arg
unfolding count_of arg_good
takes_arg zero arg l h = absurd (omega arith)
takes_arg (suc zero) arg l h = absurd (omega arith)
takes_arg (suc (suc zero)) arg l h = absurd (omega arith)
takes_arg (suc (suc (suc zero))) arg l h = refl
takes_arg (suc (suc (suc (suc zero)))) arg l h = refl
takes_arg (suc (suc (suc (suc (suc zero))))) arg l h = eqb-true arg 1 h
takes_arg (suc (suc (suc (suc (suc (suc zero)))))) arg l h = eqb-true arg 2 h
takes_arg (suc (suc (suc (suc (suc (suc (suc zero))))))) arg l h = eqb-true arg 1 h
takes_arg (suc (suc (suc (suc (suc (suc (suc (suc zero)))))))) arg l h = eqb-true arg 1 h
takes_arg (suc (suc (suc (suc (suc (suc (suc (suc (suc zero))))))))) arg l h = eqb-true arg 2 h
takes_arg (suc (suc (suc (suc (suc (suc (suc (suc (suc (suc k)))))))))) arg l h =
    absurd (omega (arith, arg_kind (suc (suc (suc (suc (suc (suc (suc (suc (suc (suc k)))))))))) arg h))

-- what a judged row's arg is
pub row_arg : (ws : List ℕ) (n r kind arg : ℕ) → first_to (row_number ws) n ≡ 0 → r < n → kind ≡ kind_in ws r → arg ≡ arg_in ws r → arg_good kind arg ≡ true
row_arg ws n r kind arg h l k a =
    rw (k, a) (form_arg (kind_in ws r) (arg_in ws r) _ _ (row_form ws r (first_each (row_number ws) n h r l)))

pub start_none : (ws : List ℕ) → ◌≡◌ {A = ℕ} 0 (start_in ws 0)
unfolding start_in
start_none ws = refl

module _ (ws : List ℕ) (r kind arg start count : ℕ) (k : kind ≡ kind_in ws r) (a : arg ≡ arg_in ws r) (s : start ≡ start_in ws r) (c : count ≡ count_of kind arg) where
  counted : count ≡ count_of (kind_in ws r) (arg_in ws r)
  counted = rw (← k, ← a) c

  pub start_more : start + count ≡ start_in ws (r + 1)
  unfolding start_in
  start_more = rw (add-one, ← s, ← counted)

  module _ (operands : List ℕ) where
    -- the rows up to this one need more than there are
    pub too_few : r < length ws / 4 → length operands < start + count → false ≡ operands_met ws operands
    unfolding operands_met
    too_few l m =
        sym
        (and_no_left (eqb (start_in ws (length ws / 4)) (length operands)) _
        (ne_eqb (start_in ws (length ws / 4)) (length operands) (λ e. omega (arith, start_mono ws r (length ws / 4) l, counted))))

    module _ (fits : start + count ≤ length operands) {b : Bool} (t : b ≡ list_all (λ p. ltb p r) (take (start + count - start) (drop start operands))) where
      owner : b ≡ operands_good (sections_of ws operands [] []) r
      unfolding operands_good
      owner = t ∙ all_in_part (λ p. ltb p r) operands start count fits ∙ rw (← s, ← counted)

      -- an operand of this row is not below it
      pub not_below : b ≡ false → r < length ws / 4 → false ≡ operands_met ws operands
      unfolding operands_met
      not_below z l =
          sym
          (and_no_right (eqb (start_in ws (length ws / 4)) (length operands)) _
          (all_fails (operands_good (sections_of ws operands [] [])) r (length ws / 4) l (sym owner ∙ z)))

      -- all are below it
      pub below : b ≡ true → operands_good (sections_of ws operands [] []) r ≡ true
      below z = sym owner ∙ z

-- ---- all the rows' operands
pub all_met : (ws operands : List ℕ) (r start : ℕ) → r ≡ length ws / 4 → start ≡ start_in ws r → all_to (operands_good (sections_of ws operands [] [])) r ≡ true
    → eqb start (length operands) ≡ operands_met ws operands
unfolding operands_met
all_met ws operands r start e s h = rw (← e, ← s, h, and-true)

-- ---- and the properties
pub links_are : (ws operands assumes guarantees : List ℕ)
    → (operands_met ws operands && (list_all (λ p. ltb p (length ws / 4)) assumes && list_all (λ p. ltb p (length ws / 4)) guarantees))
    ≡ links_good (sections_of ws operands assumes guarantees)
unfolding links_good operands_met operands_good
links_are ws operands assumes guarantees = rw every_append

module _ (ws operands assumes guarantees : List ℕ) {x : Bool} (e : x ≡ operands_met ws operands) where
  pub no_operands : x ≡ false → false ≡ links_good (sections_of ws operands assumes guarantees)
  no_operands h = rw (sym e ∙ h) at (links_are ws operands assumes guarantees)

  module _ (t : x ≡ true) {y : Bool} (f : y ≡ list_all (λ p. ltb p (length ws / 4)) assumes) where
    pub no_assumes : y ≡ false → false ≡ links_good (sections_of ws operands assumes guarantees)
    no_assumes h = rw (sym e ∙ t, sym f ∙ h) at (links_are ws operands assumes guarantees)

    pub by_guarantees : y ≡ true → {z : Bool} → z ≡ list_all (λ p. ltb p (length ws / 4)) guarantees → z ≡ links_good (sections_of ws operands assumes guarantees)
    by_guarantees h g = g ∙ rw (sym e ∙ t, sym f ∙ h) at (links_are ws operands assumes guarantees)
