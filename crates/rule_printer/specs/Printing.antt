-- The text that a printer writes: REFERENCE 11.4. Definitions only.
use Rattle.std.specs.Prelude.{ℕ, ◌≤◌, List, [], ◌∷◌, ◌++◌}
use Rattle.numbers.specs.Limits.{MAX}
use Rattle.text.specs.Words.{line_feed}
use Rattle.text.specs.Decimals.{decimal}
use Rattle.rule_scanner.specs.Symbols.{false_word, true_word, atom_word, and_word, or_word, not_word, implies_word, hist_word, once_word, since_word}
use Rattle.pmtl.specs.Book.{Book}
use Rattle.trees.specs.Books.{trees_of}
use Rattle.trees.specs.Forest.{Forest, none, tree, count}
use Rattle.rule_scanner.specs.Writing.{one_said, written}
use Rattle.rule_scanner.specs.Reading.{Outcome, read, wrong}
use Rattle.book.specs.declared.kind.Kind.{Kind}
use Rattle.book.specs.declared.kind.Kind.TheVariants.{False, True, Atom, And, Or, Not, Implies, Historically, Once, Since}
use Rattle.rule_scanner.specs.declared.symbols.Symbol.{Symbol}
use Rattle.rule_scanner.specs.declared.symbols.Symbol.TheVariants.{Name, Number, Left, Right, Opens, Closes, Comma, Star, Bad, End}

-- a word's letters
unfoldable pub word_spelled : Kind → List ℕ
word_spelled False = false_word
word_spelled True = true_word
word_spelled Atom = atom_word
word_spelled And = and_word
word_spelled Or = or_word
word_spelled Not = not_word
word_spelled Implies = implies_word
word_spelled Historically = hist_word
word_spelled Once = once_word
word_spelled Since = since_word

-- a symbol's bytes: [ ] ( ) , * are one each; a spoilt symbol and the end have none
unfoldable pub spell : Symbol → List ℕ
spell (Name w) = word_spelled w
spell (Number n) = decimal n
spell Left = 91 ∷ []
spell Right = 93 ∷ []
spell Opens = 40 ∷ []
spell Closes = 41 ∷ []
spell Comma = 44 ∷ []
spell Star = 42 ∷ []
spell Bad = []
spell End = []

-- symbols, with nothing between them
unfoldable pub spelled : List Symbol → List ℕ
spelled [] = []
spelled (y ∷ ys) = spell y ++ spelled ys

-- each property on its own line
unfoldable pub lines : Forest → List ℕ
lines none = []
lines (tree h p s) = spelled (one_said h (written [] (Comma ∷ []) p)) ++ (line_feed ∷ lines s)

-- properties after their count
unfoldable pub section_printed : Forest → List ℕ
section_printed f = decimal (count f) ++ (line_feed ∷ lines f)

-- a file
unfoldable pub printed : Forest → Forest → List ℕ
printed a g = section_printed a ++ section_printed g

-- a book: the trees of its properties
unfoldable pub book_printed : Book → List ℕ
book_printed b = printed (trees_of b.rows b.assumes) (trees_of b.rows b.guarantees)

-- what is printed of what was read; nothing of what is not read
unfoldable pub printed_of : Outcome → List ℕ
printed_of (read a g) = printed a g
printed_of (wrong at) = []

-- the numbers of properties are in range
abbrev pub Ranged : Forest → Type 0
Ranged none = Unit {0}
Ranged (tree h p s) = (h.atom ≤ MAX) × (h.lower ≤ MAX) × (h.upper ≤ MAX) × Ranged p × Ranged s

-- and so is their count
pub record Sayable (f : Forest) : Type 0 where
  pub numbers : Ranged f
  pub number : count f ≤ MAX
