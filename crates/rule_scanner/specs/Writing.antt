-- How properties are written, as symbols: REFERENCE 11. Definitions only.
use Rattle.std.specs.Prelude.{ℕ, List, [], ◌∷◌, ◌++◌, eqb}
use Rattle.text.specs.Words.{pick}
use Rattle.numbers.specs.Limits.{MAX}
use Rattle.book.specs.declared.kind.Kind.{Kind}
use Rattle.book.specs.declared.kind.Kind.TheVariants.{False, True, Atom, And, Or, Not, Implies, Historically, Once, Since}
use Rattle.rule_scanner.specs.declared.symbols.Symbol.{Symbol}
use Rattle.rule_scanner.specs.declared.symbols.Symbol.TheVariants.{Name, Number, Left, Right, Opens, Closes, Comma, Star, End}
use Rattle.trees.specs.Forest.{Head, Forest, none, tree, count}

abbrev pub upper_said : ℕ → Symbol
upper_said u = pick (eqb u MAX) Star (Number u)

abbrev pub range_said : ℕ → ℕ → List Symbol → List Symbol
range_said l u rest = Left ∷ Number l ∷ Comma ∷ upper_said u ∷ Right ∷ rest

-- a head, before its bracket; and what stands in the bracket
unfoldable pub head_said : Head → List Symbol
head_said h = elim h.word [
  | False ↦ []
  | True ↦ []
  | Atom ↦ Number h.atom ∷ []
  | And ↦ Opens ∷ []
  | Or ↦ Opens ∷ []
  | Not ↦ Opens ∷ []
  | Implies ↦ Opens ∷ []
  | Historically ↦ range_said h.lower h.upper (Opens ∷ [])
  | Once ↦ range_said h.lower h.upper (Opens ∷ [])
  | Since ↦ range_said h.lower h.upper (Opens ∷ [])
]

unfoldable pub shut : Kind → List Symbol
shut False = []
shut True = []
shut Atom = []
shut And = Closes ∷ []
shut Or = Closes ∷ []
shut Not = Closes ∷ []
shut Implies = Closes ∷ []
shut Historically = Closes ∷ []
shut Once = Closes ∷ []
shut Since = Closes ∷ []

-- one property, from what stands in its bracket
unfoldable pub one_said : Head → List Symbol → List Symbol
one_said h inner = (Name h.word ∷ head_said h) ++ (inner ++ shut h.word)

-- properties: the symbols before the first of them, and those before each other
unfoldable pub written : List Symbol → List Symbol → Forest → List Symbol
written b c none = []
written b c (tree h p s) = b ++ (one_said h (written [] (Comma ∷ []) p) ++ written c c s)

-- a file: the assumes, then the guarantees, each after their count; the end stands last
unfoldable pub file_said : Forest → Forest → List Symbol
file_said a g = (Number (count a) ∷ written [] [] a) ++ ((Number (count g) ∷ written [] [] g) ++ (End ∷ []))
