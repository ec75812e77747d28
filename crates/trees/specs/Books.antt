-- The trees of a book's properties: REFERENCE 11.3. Definitions only.
use Rattle.std.specs.Prelude.{ℕ, List, [], ◌∷◌, map}
use Rattle.pmtl.specs.Book.{Row, Rows, answer}
use Rattle.pmtl.specs.Book.Row.{never, always, atom, conj, disj, neg, implies, historically, once, since}
use Rattle.trees.specs.Forest.{Head, head_of, Forest, none, one, ◌then◌}
use Rattle.book.specs.declared.kind.Kind.TheVariants.{False, True, Atom, And, Or, Not, Implies, Historically, Once, Since}

-- how a row's property begins, and what stands for its parts, in order
abbrev pub head_in : {X : Type 0} → Row X → Head
head_in never = head_of False 0 0 0
head_in always = head_of True 0 0 0
head_in (atom a) = head_of Atom a 0 0
head_in (conj xs) = head_of And 0 0 0
head_in (disj xs) = head_of Or 0 0 0
head_in (neg x) = head_of Not 0 0 0
head_in (implies x y) = head_of Implies 0 0 0
head_in (historically g x) = head_of Historically 0 g.lower g.upper
head_in (once g x) = head_of Once 0 g.lower g.upper
head_in (since g x y) = head_of Since 0 g.lower g.upper

abbrev pub parts_in : {X : Type 0} → Row X → List X
parts_in never = []
parts_in always = []
parts_in (atom a) = []
parts_in (conj xs) = xs
parts_in (disj xs) = xs
parts_in (neg x) = x ∷ []
parts_in (implies x y) = x ∷ y ∷ []
parts_in (historically g x) = x ∷ []
parts_in (once g x) = x ∷ []
parts_in (since g x y) = x ∷ y ∷ []

-- properties one after another
unfoldable pub joined : List Forest → Forest
joined [] = none
joined (f ∷ fs) = f then joined fs

-- the tree of a row, from those of its operands
abbrev pub tree_rule : Row Forest → Forest
tree_rule row = one (head_in row) (joined (parts_in row))

unfoldable pub tree_at : Rows → ℕ → Forest
tree_at b = answer b none (λ r. tree_rule)

-- the trees of rows, one after another
unfoldable pub trees_of : Rows → List ℕ → Forest
trees_of b ps = joined (map (tree_at b) ps)
