-- The kinds of a row and the words that say them, REFERENCE 2.2. Definitions only.
use Rattle.std.specs.Prelude.{ℕ, ◌<◌, ◌≡◌, [], ◌∷◌, get_or, Result, MatchResult}
use Rattle.numbers.specs.declared.Refusal.{Refusal}
use Rattle.numbers.specs.declared.Refusal.TheVariants.{WrongForm}
use Rattle.book.specs.Rows.{SINCE}
use Rattle.book.specs.declared.kind.Kind.{Kind}
use Rattle.book.specs.declared.kind.Kind.TheVariants.{False, True, Atom, And, Or, Not, Implies, Historically, Once, Since}

-- the word of a kind
abbrev pub word_of_kind : Kind → ℕ
word_of_kind False = 0
word_of_kind True = 1
word_of_kind Atom = 2
word_of_kind And = 3
word_of_kind Or = 4
word_of_kind Not = 5
word_of_kind Implies = 6
word_of_kind Historically = 7
word_of_kind Once = 8
word_of_kind Since = 9

-- and back: the kind of a word; one past the last kind counts as that
unfoldable pub kind_of_word : ℕ → Kind
kind_of_word word = get_or (False ∷ True ∷ Atom ∷ And ∷ Or ∷ Not ∷ Implies ∷ Historically ∷ Once ∷ []) word Since

-- the kind that a word says; a word past the last kind says none
abbrev pub SaysKind : ℕ → Result Kind Refusal → Type 0
SaysKind word said = MatchResult said (λ kind. word_of_kind kind ≡ word) (λ r. (r ≡ WrongForm) × (SINCE < word))
