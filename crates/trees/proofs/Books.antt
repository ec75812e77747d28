-- The trees of a book's properties are good, and mean what the properties mean. Assumes nothing.
use Prim.Native.Nat.{ℕ, ◌≤◌, ◌<◌}
use mathlib.Core.Path.{◌≡◌, refl, sym, ap, ◌∙◌}
use mathlib.Core.Bool.{false}
use mathlib.Core.List.{List, [], ◌∷◌, ◌++◌, map}
use native.Mathlib.Omega.{arith}
use lib.ListN.{length}
use Rattle.pmtl.specs.Book.{Row, map_row, Rows, row_at, AllBelow, Below, Ordered, answer}
use Rattle.pmtl.specs.Book.Row.{never, always, atom, conj, disj, neg, implies, historically, once, since}
use Rattle.pmtl.specs.Meaning.{Fact, meaning_rule, meaning}
use Rattle.pmtl.proofs.Table.{answer_in, by_rows}
use Rattle.trees.specs.Forest.{Head, Forest, none, tree, one, ◌then◌, count, Fit, Good}
use Rattle.trees.specs.Numbered.{row_with, folded, meanings}
use Rattle.trees.specs.Books.{head_in, parts_in, joined, tree_rule, tree_at, trees_of}
use Rattle.trees.proofs.Numbered.{meaning_is, good_then}
use Rattle.trees.proofs.Built.{count_then}

-- ---- a row over what a function makes of its operands
pub head_map : {X Y : Type 0} (f : X → Y) (row : Row X) → head_in (map_row f row) ≡ head_in row
head_map f never = refl
head_map f always = refl
head_map f (atom a) = refl
head_map f (conj xs) = refl
head_map f (disj xs) = refl
head_map f (neg x) = refl
head_map f (implies x y) = refl
head_map f (historically g x) = refl
head_map f (once g x) = refl
head_map f (since g x y) = refl

pub parts_map : {X Y : Type 0} (f : X → Y) (row : Row X) → parts_in (map_row f row) ≡ map f (parts_in row)
parts_map f never = refl
parts_map f always = refl
parts_map f (atom a) = refl
parts_map f (conj xs) = refl
parts_map f (disj xs) = refl
parts_map f (neg x) = refl
parts_map f (implies x y) = refl
parts_map f (historically g x) = refl
parts_map f (once g x) = refl
parts_map f (since g x y) = refl

-- a row is its head over its parts
pub with_itself : {X : Type 0} (d : X) (row : Row X) → row_with d (head_in row) (parts_in row) ≡ row
unfolding row_with
with_itself d never = refl
with_itself d always = refl
with_itself d (atom a) = refl
with_itself d (conj xs) = refl
with_itself d (disj xs) = refl
with_itself d (neg x) = refl
with_itself d (implies x y) = refl
with_itself d (historically g x) = refl
with_itself d (once g x) = refl
with_itself d (since g x y) = refl

pub parts_below : (r : ℕ) (row : Row ℕ) → Below r row → AllBelow r (parts_in row)
parts_below r never w = tt
parts_below r always w = tt
parts_below r (atom a) w = tt
parts_below r (conj xs) w = w
parts_below r (disj xs) w = w
parts_below r (neg x) w = (w, tt)
parts_below r (implies x y) w = (w.0, (w.1, tt))
parts_below r (historically g x) w = (w, tt)
parts_below r (once g x) w = (w, tt)
parts_below r (since g x y) w = (w.0, (w.1, tt))

-- something holds of every row of a list
abbrev pub AllOf : (ℕ → Type 0) → List ℕ → Type 0
AllOf P [] = Unit {0}
AllOf P (o ∷ os) = P o × AllOf P os

-- what holds of all rows below a row holds of its parts
pub each_below : (P : ℕ → Type 0) (r : ℕ) → ((o : ℕ) → o < r → P o) → (os : List ℕ) → AllBelow r os → AllOf P os
each_below P r f [] w = tt
each_below P r f (o ∷ os) w = (f o w.0, each_below P r f os w.1)

pub below_up : (r n : ℕ) (os : List ℕ) → r ≤ n → AllBelow r os → AllBelow n os
below_up r n [] h w = tt
below_up r n (o ∷ os) h w = (omega (arith, w.0), below_up r n os h w.1)

pub fit_head : {X : Type 0} (row : Row X) → Fit (head_in row).word (head_in row).atom (head_in row).lower (head_in row).upper (length (parts_in row))
fit_head never = (refl, refl, refl, refl)
fit_head always = (refl, refl, refl, refl)
fit_head (atom a) = (refl, refl, refl)
fit_head (conj xs) = (refl, refl, refl)
fit_head (disj xs) = (refl, refl, refl)
fit_head (neg x) = (refl, refl, refl, refl)
fit_head (implies x y) = (refl, refl, refl, refl)
fit_head (historically g x) = (refl, refl)
fit_head (once g x) = (refl, refl)
fit_head (since g x y) = (refl, refl)

-- ---- trees of rows
module _ (b : Rows) (w : Ordered b) where
  -- the tree of a row: its head over the trees of its operands
  pub tree_in : (r : ℕ) → r < length b → tree_at b r ≡ one (head_in (row_at b r)) (trees_of b (parts_in (row_at b r)))
  unfolding tree_at trees_of
  tree_in r h =
      answer_in b none (λ r. tree_rule) w r h
      ∙ ap (λ (z : Head). one z (joined (parts_in (map_row (tree_at b) (row_at b r))))) (head_map (tree_at b) (row_at b r))
      ∙ ap (λ (z : List Forest). one (head_in (row_at b r)) (joined z)) (parts_map (tree_at b) (row_at b r))

  -- each is one tree
  count_one : (r : ℕ) → r < length b → count (tree_at b r) ≡ 1
  unfolding count
  count_one r h = rw (tree_in r h) refl

  pub trees_count : (ps : List ℕ) → AllBelow (length b) ps → count (trees_of b ps) ≡ length ps
  unfolding trees_of joined count
  trees_count [] l = refl
  trees_count (p ∷ ps) l = count_then (tree_at b p) (trees_of b ps) ∙ omega (arith, count_one p l.0, trees_count ps l.1)

  -- all are good
  trees_all : (ps : List ℕ) → AllOf (λ r. Good (tree_at b r)) ps → Good (trees_of b ps)
  unfolding trees_of joined
  trees_all [] l = tt
  trees_all (p ∷ ps) l = good_then (tree_at b p) (trees_of b ps) l.0 (trees_all ps l.1)

  tree_good : (r : ℕ) → r < length b → Good (tree_at b r)
  tree_good = by_rows (λ r. r < length b → Good (tree_at b r)) λ r below h.
      let row = row_at b r in
      let u = parts_below r row (w r) in
      let c = trees_count (parts_in row) (below_up r (length b) (parts_in row) (omega arith) u) in
      rw (tree_in r h) (rw c (fit_head row), trees_all (parts_in row) (each_below (λ o. Good (tree_at b o)) r (λ o l. below o l (omega arith)) (parts_in row) u), tt)

  pub trees_good : (ps : List ℕ) → AllBelow (length b) ps → Good (trees_of b ps)
  trees_good ps l = trees_all ps (each_below (λ r. Good (tree_at b r)) (length b) tree_good ps l)

-- ---- what a rule makes of trees
module _ {A : Type 0} (d : A) (rule : Row A → A) where
  pub folded_then : (f g : Forest) → folded d rule (f then g) ≡ folded d rule f ++ folded d rule g
  unfolding folded ◌then◌
  folded_then none g = refl
  folded_then (tree h p s) g = ap (λ (l : List A). rule (row_with d h (folded d rule p)) ∷ l) (folded_then s g)

  module _ (b : Rows) (w : Ordered b) where
    abbrev ans : ℕ → A
    ans = answer b d (λ r. rule)

    trees_each : (ps : List ℕ) → AllOf (λ r. folded d rule (tree_at b r) ≡ ans r ∷ []) ps → folded d rule (trees_of b ps) ≡ map ans ps
    unfolding trees_of joined folded
    trees_each [] l = refl
    trees_each (p ∷ ps) l = folded_then (tree_at b p) (trees_of b ps) ∙ rw (l.0, trees_each ps l.1)

    tree_folds : (r : ℕ) → r < length b → folded d rule (tree_at b r) ≡ ans r ∷ []
    unfolding folded
    tree_folds = by_rows (λ r. r < length b → folded d rule (tree_at b r) ≡ ans r ∷ []) λ r below h.
        let row = row_at b r in
        let e = trees_each (parts_in row) (each_below (λ o. folded d rule (tree_at b o) ≡ ans o ∷ []) r (λ o l. below o l (omega arith)) (parts_in row) (parts_below r row (w r))) in
        let m : row_with d (head_in row) (map ans (parts_in row)) ≡ map_row ans row =
        ap (row_with d (head_in row)) (sym (parts_map ans row)) ∙ ap (λ (z : Head). row_with d z (parts_in (map_row ans row))) (sym (head_map ans row)) ∙ with_itself d (map_row ans row) in
        ap (folded d rule) (tree_in b w r h)
        ∙ ap (λ (l : List A). rule (row_with d (head_in row) l) ∷ []) e
        ∙ ap (λ (z : Row A). rule z ∷ []) m
        ∙ ap (λ (z : A). z ∷ []) (sym (answer_in b d (λ r. rule) w r h))

    -- the answers of properties are what the rule makes of their trees
    pub trees_fold : (ps : List ℕ) → AllBelow (length b) ps → folded d rule (trees_of b ps) ≡ map ans ps
    trees_fold ps l = trees_each ps (each_below (λ r. folded d rule (tree_at b r) ≡ ans r ∷ []) (length b) tree_folds ps l)

-- properties mean what their trees mean
pub trees_mean : (b : Rows) → Ordered b → (ps : List ℕ) → AllBelow (length b) ps → map (meaning b) ps ≡ meanings (trees_of b ps)
unfolding meanings
trees_mean b w ps l = ap (λ (m : ℕ → Fact). map m ps) (meaning_is b) ∙ sym (trees_fold (λ h. false) (meaning_rule [] 0) b w ps l)
