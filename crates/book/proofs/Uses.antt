-- How often each row is used, counted in a table. Assumes nothing.
use mathlib.Core.Path.{◌≡◌, refl, sym, ap, ◌∙◌}
use mathlib.Core.Bool.{Bool, true, false}
use mathlib.Core.List.{List, [], ◌∷◌, ◌++◌}
use Prim.Native.Nat.{ℕ, ◌+◌, ◌≤◌, ◌<◌}
use native.Mathlib.Nat.{zero-add, add-zero, add_assoc}
use native.Mathlib.Numerals.{add-one}
use native.Mathlib.Omega.{arith}
use lib.ListN.{length, get_or, take, set, replicate, length-set, get_or-replicate}
use lib.Seq.{length-take-le, take-suc, get_or-set_same, get_or-set_other, take-length}
use lib.Dec.{eqb}
use borrow.Author.Tests.{eqb-true, eqb-false}
use Rattle.std.specs.List.{list_all}
use Rattle.pmtl.specs.Answer.{bit_of}
use Rattle.book.specs.Reading.{Sections}
use Rattle.book.specs.Judging.{rows_in, times_in, uses_of, used_once}
use Rattle.book.specs.Private.{Countable, Tallied, Linked}
use Rattle.book.proofs.Accepted.{linked_operand, linked_assume, linked_guarantee}
use Rattle.book.proofs.All.{all_same, all_in_front}

pub times_append : (r : ℕ) (xs ys : List ℕ) → times_in r (xs ++ ys) ≡ times_in r xs + times_in r ys
unfolding times_in
times_append r [] ys = sym (zero-add (times_in r ys))
times_append r (x ∷ xs) ys = rw (times_append r xs ys) (sym (add_assoc (bit_of (eqb x r)) (times_in r xs) (times_in r ys)))

bit_small : (b : Bool) → bit_of b ≤ 1
bit_small true = omega arith
bit_small false = omega arith

pub times_few : (r : ℕ) (xs : List ℕ) → times_in r xs ≤ length xs
unfolding times_in
times_few r [] = omega arith
times_few r (x ∷ xs) = omega (arith, times_few r xs, bit_small (eqb x r))

times_one : (r x : ℕ) → times_in r (x ∷ []) ≡ bit_of (eqb x r)
unfolding times_in
times_one r x = add-zero (bit_of (eqb x r))

-- one use more
pub times_more : (r i : ℕ) (uses : List ℕ) → i < length uses → times_in r (take (i + 1) uses) ≡ times_in r (take i uses) + bit_of (eqb (get_or uses i 0) r)
times_more r i uses l = rw (add-one, take-suc uses i 0 l, times_append r (take i uses) (get_or uses i 0 ∷ []), times_one)

-- a table after one count more
counted_at : (times : List ℕ) (x r : ℕ) (b : Bool) → eqb x r ≡ b → x < length times → get_or (set times x (get_or times x 0 + 1)) r 0 ≡ get_or times r 0 + bit_of b
counted_at times x r true e l = rw (← eqb-true x r e) (get_or-set_same times x (get_or times x 0 + 1) 0 l)
counted_at times x r false e l = get_or-set_other times x r (get_or times x 0 + 1) 0 (λ q. eqb-false x r e (sym q)) ∙ sym (add-zero (get_or times r 0))

module _ (uses times₀ : List ℕ) where
  pub tally_start : length times₀ ≡ 128 → Tallied (take 0 uses) times₀ times₀
  unfolding times_in
  tally_start l = record { long = l; more = λ r m. sym (add-zero (get_or times₀ r 0)) }

  module _ (times : List ℕ) (i : ℕ) (t : Tallied (take i uses) times₀ times) where
    -- a count fits a byte
    pub tally_room : Countable uses times₀ → (x : ℕ) → x < 128 → i < length uses → get_or times x 0 + 1 < 256
    tally_room c x l m =
        omega (arith, t.more x l, times_few x (take i uses), c.few x l, length-take-le i uses (omega arith))

    pub tally_more : (x : ℕ) → x ≡ get_or uses i 0 → x < 128 → i < length uses → Tallied (take (i + 1) uses) times₀ (set times x (get_or times x 0 + 1))
    tally_more x e l m = record {
      long = length-set times x (get_or times x 0 + 1) ∙ t.long;
      more = λ r k.
          omega (arith, counted_at times x r (eqb x r) refl (rw t.long l), t.more r k, times_more r i uses m, ap (λ y. bit_of (eqb y r)) e);
    }

    pub tally_done : i ≡ length uses → Tallied uses times₀ times
    tally_done e = rw (e, take-length) at t

-- ---- the three places where rows are used, tallied one after the other in a table of zeros
abbrev zeros : List ℕ
zeros = replicate 128 0

zero_at : (r : ℕ) → r < 128 → get_or zeros r 0 ≡ 0
zero_at r m = get_or-replicate 128 r 0 0 m

module _ (s : Sections) (ok : Linked s) where
  pub operands_countable : Countable s.operands zeros
  operands_countable = record {
    long = refl;
    rows = λ i m. omega (arith, linked_operand s ok.links i m, ok.few.rows);
    few = λ r m. omega (arith, zero_at r m, ok.few.operands);
  }

  module _ (t₁ : List ℕ) (o : Tallied s.operands zeros t₁) where
    pub assumes_countable : Countable s.assumes t₁
    assumes_countable = record {
      long = o.long;
      rows = λ i m. omega (arith, linked_assume s ok.links i m, ok.few.rows);
      few = λ r m. omega (arith, zero_at r m, o.more r m, times_few r s.operands, ok.few.operands, ok.few.assumes);
    }

    module _ (t₂ : List ℕ) (a : Tallied s.assumes t₁ t₂) where
      pub guarantees_countable : Countable s.guarantees t₂
      guarantees_countable = record {
        long = a.long;
        rows = λ i m. omega (arith, linked_guarantee s ok.links i m, ok.few.rows);
        few = λ r m.
            omega (arith, zero_at r m, o.more r m, a.more r m, times_few r s.operands, times_few r s.assumes, ok.few.operands, ok.few.assumes, ok.few.guarantees);
      }

      module _ (t₃ : List ℕ) (g : Tallied s.guarantees t₂ t₃) where
        all_tallied : (r : ℕ) → r < 128 → get_or t₃ r 0 ≡ times_in r (uses_of s)
        all_tallied r m =
            omega (arith, zero_at r m, o.more r m, a.more r m, g.more r m, times_append r (s.operands ++ s.assumes) s.guarantees, times_append r s.operands s.assumes)

        -- each count is 1 exactly if each row is used once
        pub once : list_all (λ x. eqb x 1) (take (rows_in s) t₃) ≡ used_once s
        unfolding used_once
        once =
            all_in_front (λ x. eqb x 1) t₃ (rows_in s) (omega (arith, ok.few.rows, g.long))
            ∙ all_same (λ r. eqb (get_or t₃ r 0) 1) (λ r. eqb (times_in r (uses_of s)) 1) (rows_in s) (λ r l. ap (λ n. eqb n 1) (all_tallied r (omega (arith, ok.few.rows))))
