-- Properties as trees, and how their rows are numbered: REFERENCE 11. Definitions only.
use Rattle.std.specs.Prelude.{ℕ, suc, ◌+◌, ◌≡◌, List, [], ◌∷◌, ◌++◌}
use Rattle.book.specs.declared.kind.Kind.{Kind}
use Rattle.book.specs.declared.kind.Kind.TheVariants.{False, True, Atom, And, Or, Not, Implies, Historically, Once, Since}

infixl 50 ◌then◌
-- how a property begins: its word, an atom's number, a range's bounds; 0 where its word takes none
pub record Head : Type 0 where
  pub word : Kind
  pub atom : ℕ
  pub lower : ℕ
  pub upper : ℕ

abbrev pub head_of : Kind → ℕ → ℕ → ℕ → Head
head_of w a l u = record { word = w; atom = a; lower = l; upper = u }

-- properties in a row: the first, by its head and its parts, and those after it
pub data Forest : Type 0 where
  none : Forest
  tree : Head → Forest → Forest → Forest

-- one property
abbrev pub one : Head → Forest → Forest
one h p = tree h p none

-- properties, and then others
unfoldable pub ◌then◌ : Forest → Forest → Forest
none then g = g
(tree h p s) then g = tree h p (s then g)

-- how many there are
unfoldable pub count : Forest → ℕ
count none = 0
count (tree h p s) = suc (count s)

-- ---- well-formed: each operator has as many parts as it takes, and nothing but what its word takes
abbrev pub Fit : Kind → ℕ → ℕ → ℕ → ℕ → Type 0
Fit False a l u n = (n ≡ 0) × (a ≡ 0) × (l ≡ 0) × (u ≡ 0)
Fit True a l u n = (n ≡ 0) × (a ≡ 0) × (l ≡ 0) × (u ≡ 0)
Fit Atom a l u n = (n ≡ 0) × (l ≡ 0) × (u ≡ 0)
Fit And a l u n = (a ≡ 0) × (l ≡ 0) × (u ≡ 0)
Fit Or a l u n = (a ≡ 0) × (l ≡ 0) × (u ≡ 0)
Fit Not a l u n = (n ≡ 1) × (a ≡ 0) × (l ≡ 0) × (u ≡ 0)
Fit Implies a l u n = (n ≡ 2) × (a ≡ 0) × (l ≡ 0) × (u ≡ 0)
Fit Historically a l u n = (n ≡ 1) × (a ≡ 0)
Fit Once a l u n = (n ≡ 1) × (a ≡ 0)
Fit Since a l u n = (n ≡ 2) × (a ≡ 0)

abbrev pub Good : Forest → Type 0
Good none = Unit {0}
Good (tree h p s) = Fit h.word h.atom h.lower h.upper (count p) × Good p × Good s

-- ---- numbering: operands first, left to right
unfoldable pub size : Forest → ℕ
size none = 0
size (tree h p s) = size p + suc (size s)

-- the rows of the properties themselves, where numbers begin at n
unfoldable pub roots : ℕ → Forest → List ℕ
roots n none = []
roots n (tree h p s) = (n + size p) ∷ roots (n + suc (size p)) s

-- a row: its head, and the rows of its operands
pub record Entry : Type 0 where
  pub head : Head
  pub operands : List ℕ

unfoldable pub entries : ℕ → Forest → List Entry
entries n none = []
entries n (tree h p s) = entries n p ++ (record { head = h; operands = roots n p } ∷ entries (n + suc (size p)) s)
