-- The rows of numbered properties, and what properties mean: REFERENCE 11.3. Definitions only.
use Rattle.std.specs.Prelude.{ℕ, false, List, [], ◌∷◌, map, get_or}
use Rattle.pmtl.specs.Book.{Range, Row, Rows, Book}
use Rattle.pmtl.specs.Book.Row.{never, always, atom, conj, disj, neg, implies, historically, once, since}
use Rattle.pmtl.specs.Meaning.{Fact, meaning_rule}
use Rattle.trees.specs.Forest.{Head, Forest, none, tree, ◌then◌, size, roots, Entry, entries}
use Rattle.book.specs.declared.kind.Kind.TheVariants.{False, True, Atom, And, Or, Not, Implies, Historically, Once, Since}

-- a row: a head over what stands for its operands; d stands for one that is not there
module _ {X : Type 0} (d : X) where
  unfoldable pub row_with : Head → List X → Row X
  row_with h xs =
      let g : Range = record { lower = h.lower; upper = h.upper } in
      let x = get_or xs 0 d in
      let y = get_or xs 1 d in
      elim h.word [
        | False ↦ never
        | True ↦ always
        | Atom ↦ atom h.atom
        | And ↦ conj xs
        | Or ↦ disj xs
        | Not ↦ neg x
        | Implies ↦ implies x y
        | Historically ↦ historically g x
        | Once ↦ once g x
        | Since ↦ since g x y
      ]

-- the rows of properties, where numbers begin at n
abbrev pub row_of : Entry → Row ℕ
row_of e = row_with 0 e.head e.operands

unfoldable pub rows_from : ℕ → Forest → Rows
rows_from n f = map row_of (entries n f)

-- the book of a file
unfoldable pub book_of : Forest → Forest → Book
book_of a g = record { rows = rows_from 0 (a then g); assumes = roots 0 a; guarantees = roots (size a) g }

-- ---- what properties mean, apart from any book
module _ {A : Type 0} (d : A) (rule : Row A → A) where
  unfoldable pub folded : Forest → List A
  folded none = []
  folded (tree h p s) = rule (row_with d h (folded p)) ∷ folded s

unfoldable pub meanings : Forest → List Fact
meanings f = folded (λ h. false) (meaning_rule [] 0) f
