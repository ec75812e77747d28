-- REFERENCE 12: a step at a named row of a book, and the trees and words of the book after it. Definitions only.
use Rattle.std.specs.Prelude.{ℕ, Bool, true, false, ◌&&◌, ◌||◌, List, [], ◌∷◌, map, length, get_or, eqb, ltb}
use Rattle.numbers.specs.Limits.{MOST_ROWS, MOST_OPERANDS}
use Rattle.pmtl.specs.Book.{Row, Rows, row_at, Book, answer}
use Rattle.trees.specs.Forest.{Head, head_of, Forest, none, tree, one, ◌then◌, size, entries}
use Rattle.book.specs.Kinds.{word_of_kind}
use Rattle.trees.specs.Building.{all_operands, words_of}
use Rattle.trees.specs.Books.{head_in, parts_in, joined, tree_rule}
use Rattle.book.specs.declared.kind.Kind.{Kind}
use Rattle.book.specs.declared.kind.Kind.TheVariants.{And, Or, Not, Implies, Historically, Once}
use Rattle.tidying.specs.declared.Form.{Form}
use Rattle.tidying.specs.declared.Form.TheVariants.{Nots, Single, Implication, History, Unknown}
use Rattle.tidying.specs.declared.Step.{Step}

-- a form by its number
unfoldable pub form_of : ℕ → Form
form_of n = get_or (Nots ∷ Single ∷ Implication ∷ History ∷ []) n Unknown

-- ---- whether a step fits
-- a row's word and its operands
abbrev pub word_at : Rows → ℕ → Kind
word_at b r = (head_in (row_at b r)).word

abbrev pub parts_at : Rows → ℕ → List ℕ
parts_at b r = parts_in (row_at b r)

-- row r begins with this word
unfoldable pub begins : Kind → Rows → ℕ → Bool
begins w b r = eqb (word_of_kind (word_at b r)) (word_of_kind w)

-- row r has the form: a Not of a Not; an And or an Or of one operand; an Implies; a Historically
unfoldable pub fits_at : Form → Rows → ℕ → Bool
fits_at Nots b r = begins Not b r && begins Not b (get_or (parts_at b r) 0 0)
fits_at Single b r = (begins And b r || begins Or b r) && eqb (length (parts_at b r)) 1
fits_at Implication b r = begins Implies b r
fits_at History b r = begins Historically b r
fits_at Unknown b r = false

-- the row is there and has the form
unfoldable pub fits : Rows → Step → Bool
fits b s = ltb s.row (length b) && fits_at s.form b s.row

-- ---- what a step makes of a property, from its head and its parts
abbrev pub not_of : Forest → Forest
not_of p = one (head_of Not 0 0 0) p

unfoldable pub remade : Form → Head → Forest → Forest
-- Not Not f: f
remade Nots h none = none
remade Nots h (tree k p s) = p
-- And, Or of one operand: that operand
remade Single h p = p
-- Implies(l, r): Or(Not l, r)
remade Implication h none = none
remade Implication h (tree k l r) = one (head_of Or 0 0 0) (not_of (one k l) then r)
-- Historically over a range: Not Once over it of Not
remade History h p = not_of (one (head_of Once 0 h.lower h.upper) (not_of p))
remade Unknown h p = one h p

-- ---- the book after a step
-- the tree of a row, where the one that the step names is remade
abbrev pub step_rule : Step → ℕ → Row Forest → Forest
step_rule s r row = elim (eqb r s.row) [ true ↦ remade s.form (head_in row) (joined (parts_in row)) | false ↦ tree_rule row ]

unfoldable pub stepped_at : Rows → Step → ℕ → Forest
stepped_at b s = answer b none (step_rule s)

-- the trees of rows, one after another
unfoldable pub stepped_of : Rows → Step → List ℕ → Forest
stepped_of b s ps = joined (map (stepped_at b s) ps)

-- the properties after the step: assumes, guarantees, and all of them
abbrev pub assumes_after : Book → Step → Forest
assumes_after b s = stepped_of b.rows s b.assumes

abbrev pub guarantees_after : Book → Step → Forest
guarantees_after b s = stepped_of b.rows s b.guarantees

abbrev pub all_after : Book → Step → Forest
all_after b s = assumes_after b s then guarantees_after b s

-- its words, the rows numbered anew
unfoldable pub words_after : Book → Step → List ℕ
words_after b s = words_of (assumes_after b s) (guarantees_after b s)

-- properties have more rows or operands than a book may
unfoldable pub past_limit : Forest → Bool
past_limit f = ltb MOST_ROWS (size f) || ltb MOST_OPERANDS (length (all_operands (entries 0 f)))
