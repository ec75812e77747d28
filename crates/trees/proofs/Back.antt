-- The trees of numbered properties are the properties again. Assumes nothing.
use Prim.Native.Nat.{ℕ}
use mathlib.Core.Path.{◌≡◌, refl, sym, ap, ap₂, ◌∙◌}
use mathlib.Core.List.{List, [], ◌∷◌, ◌++◌, map, append-nil}
use native.Mathlib.Omega.{arith}
use lib.ListN.{length, get_or}
use Rattle.trees.specs.Forest.{Head, head_of, Forest, none, tree, one, ◌then◌, count, roots, Fit, Good}
use Rattle.trees.specs.Numbered.{row_with, rows_from, folded}
use Rattle.trees.specs.Books.{head_in, parts_in, joined, tree_rule, tree_at}
use Rattle.book.specs.declared.kind.Kind.{Kind}
use Rattle.book.specs.declared.kind.Kind.TheVariants.{False, True, Atom, And, Or, Not, Implies, Historically, Once, Since}
use Rattle.trees.proofs.Numbered.{ordered, folds}
use Rattle.trees.proofs.Books.{folded_then}

-- ---- a head over what stands for its parts: both are found again
no_parts : {X : Type 0} (xs : List X) → length xs ≡ 0 → [] ≡ xs
no_parts [] e = refl
no_parts (x ∷ xs) e = absurd (omega arith)

pub one_part : {X : Type 0} (d : X) (xs : List X) → length xs ≡ 1 → get_or xs 0 d ∷ [] ≡ xs
one_part d [] e = absurd (omega arith)
one_part d (x ∷ []) e = refl
one_part d (x ∷ y ∷ xs) e = absurd (omega arith)

two_parts : {X : Type 0} (d : X) (xs : List X) → length xs ≡ 2 → get_or xs 0 d ∷ get_or xs 1 d ∷ [] ≡ xs
two_parts d [] e = absurd (omega arith)
two_parts d (x ∷ []) e = absurd (omega arith)
two_parts d (x ∷ y ∷ []) e = refl
two_parts d (x ∷ y ∷ z ∷ xs) e = absurd (omega arith)

module _ {X : Type 0} (d : X) where
  head_with_lem : (w : Kind) (a l u : ℕ) (xs : List X) → Fit w a l u (length xs) → head_in (row_with d (head_of w a l u) xs) ≡ head_of w a l u
  unfolding row_with
  head_with_lem False a l u xs f = rw (f.1, f.2, f.3)
  head_with_lem True a l u xs f = rw (f.1, f.2, f.3)
  head_with_lem Atom a l u xs f = rw (f.1, f.2)
  head_with_lem And a l u xs f = rw (f.0, f.1, f.2)
  head_with_lem Or a l u xs f = rw (f.0, f.1, f.2)
  head_with_lem Not a l u xs f = rw (f.1, f.2, f.3)
  head_with_lem Implies a l u xs f = rw (f.1, f.2, f.3)
  head_with_lem Historically a l u xs f = rw f.1
  head_with_lem Once a l u xs f = rw f.1
  head_with_lem Since a l u xs f = rw f.1

  parts_with : (w : Kind) (a l u : ℕ) (xs : List X) → Fit w a l u (length xs) → parts_in (row_with d (head_of w a l u) xs) ≡ xs
  unfolding row_with
  parts_with False a l u xs f = no_parts xs f.0
  parts_with True a l u xs f = no_parts xs f.0
  parts_with Atom a l u xs f = no_parts xs f.0
  parts_with And a l u xs f = refl
  parts_with Or a l u xs f = refl
  parts_with Not a l u xs f = one_part d xs f.0
  parts_with Implies a l u xs f = two_parts d xs f.0
  parts_with Historically a l u xs f = one_part d xs f.0
  parts_with Once a l u xs f = one_part d xs f.0
  parts_with Since a l u xs f = two_parts d xs f.0

-- ---- a tree is what the rule of trees makes of it
abbrev again : Forest → List Forest
again = folded none tree_rule

again_length : (f : Forest) → length (again f) ≡ count f
unfolding folded count
again_length none = refl
again_length (tree h p s) = omega (arith, again_length s)

again_first : (h : Head) (p s : Forest) → Good (tree h p s) → joined (again p) ≡ p → again (tree h p s) ≡ one h p ∷ again s
unfolding folded
again_first h p s g e =
    let f = rw (← again_length p) at g.0 in
    let x = head_with_lem none h.word h.atom h.lower h.upper (again p) f in
    let y = parts_with none h.word h.atom h.lower h.upper (again p) f in
    ap (λ (z : Forest). z ∷ again s) (ap₂ (λ (z : Head) (l : List Forest). one z (joined l)) x y ∙ ap (λ (z : Forest). one h z) e)

again_joined : (f : Forest) → Good f → joined (again f) ≡ f
unfolding joined ◌then◌ folded
again_joined none g = refl
again_joined (tree h p s) g = ap joined (again_first h p s g (again_joined p g.1)) ∙ ap (λ (z : Forest). tree h p z) (again_joined s g.2)

-- ---- a list of good trees
pub record Single (f : Forest) : Type 0 where
  pub only : count f ≡ 1
  pub good : Good f

again_one : (f : Forest) → Single f → again f ≡ f ∷ []
unfolding count folded
again_one none x = absurd (omega (arith, x.only))
again_one (tree h p none) x = again_first h p none x.good (again_joined p x.good.1)
again_one (tree h p (tree k q s)) x = absurd (omega (arith, x.only))

abbrev pub Singles : List Forest → Type 0
Singles [] = Unit {0}
Singles (f ∷ fs) = Single f × Singles fs

pub again_all : (fs : List Forest) → Singles fs → folded none tree_rule (joined fs) ≡ fs
unfolding joined folded
again_all [] x = refl
again_all (f ∷ fs) x = folded_then none tree_rule f (joined fs) ∙ ap₂ (λ (y z : List Forest). y ++ z) (again_one f x.0) (again_all fs x.1)

-- the rows of numbered properties have these as their trees
pub trees_again : (f : Forest) → Good f → map (tree_at (rows_from 0 f)) (roots 0 f) ≡ folded none tree_rule f
unfolding tree_at
trees_again f g = folds none tree_rule (rows_from 0 f) (ordered f g) f g 0 [] [] refl (sym (append-nil (rows_from 0 f)))
