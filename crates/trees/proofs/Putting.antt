-- Laws of putting the words of a book together. Assumes nothing.
use Prim.Native.Nat.{ℕ, ◌+◌, ◌*◌, ◌≤◌}
use mathlib.Core.Path.{◌≡◌, sym, ap, ◌∙◌}
use mathlib.Core.List.{List, ◌∷◌, ◌++◌}
use native.Mathlib.Omega.{arith}
use lib.ListN.{length, take, drop}
use lib.Seq.{take_at, drop_at, length-take-le, take-take, take-add}
use Rattle.lists.specs.Lists.{part}
use Rattle.lists.proofs.Parts.{part_length}
use Rattle.trees.specs.Forest.{Forest, ◌then◌, count, size, roots, entries}
use Rattle.trees.specs.Building.{all_rows, all_operands, words_of, Mem}
use Rattle.trees.proofs.Numbered.{size_then, roots_length, roots_then}
use Rattle.trees.proofs.Built.{count_then}

pub part_count : (m x : List ℕ) (from k : ℕ) → from + k ≤ length m → x ≡ part from k m → length x ≡ k
part_count m x from k h e = ap length e ∙ part_length from k m h

-- ---- the words
module _ {rs os ts : List ℕ} {o : ℕ} (a g : Forest) (mem : Mem rs os ts o (a then g)) (long : count a + count g ≤ length ts) where
  both : take (count a + count g) ts ≡ roots 0 a ++ roots (size a) g
  both = let e = count_then a g in let z : 0 + size a ≡ size a = omega arith in rw e at mem.tops ∙ roots_then 0 a g ∙ rw z

  pub assume_tops : take (count a) ts ≡ roots 0 a
  assume_tops = sym (take-take (count a) (count a + count g) ts (omega arith)) ∙ ap (take (count a)) both ∙ take_at (roots 0 a) (roots (size a) g) (count a) (roots_length 0 a)

  pub guarantee_tops : take (count g) (drop (count a) ts) ≡ roots (size a) g
  guarantee_tops =
      sym (drop_at (take (count a) ts) (take (count g) (drop (count a) ts)) (count a) (length-take-le (count a) ts (omega arith)))
      ∙ ap (drop (count a)) (sym (take-add (count a) (count g) ts) ∙ both)
      ∙ drop_at (roots 0 a) (roots (size a) g) (count a) (roots_length 0 a)

  pub words_built : o ≤ length os → (n : ℕ) → n ≡ size a + size g
      → (n ∷ take (4 * n) rs) ++ ((o ∷ take o os) ++ ((count a ∷ take (count a) ts) ++ (count g ∷ take (count g) (drop (count a) ts)))) ≡ words_of a g
  unfolding words_of
  words_built h n e =
      let z : n ≡ size (a then g) = e ∙ sym (size_then a g) in
      let l : o ≡ length (all_operands (entries 0 (a then g))) = sym (length-take-le o os h) ∙ ap length mem.operands in
      rw (z, mem.rows, mem.operands, assume_tops, guarantee_tops) (ap (λ (k : ℕ). (size (a then g) ∷ all_rows (entries 0 (a then g))) ++ ((k ∷ all_operands (entries 0 (a then g))) ++ ((count a ∷ roots 0 a) ++ (count g ∷ roots (size a) g)))) l)
