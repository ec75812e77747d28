-- The symbols of a text, each with the place where it begins: 02, Ask 3. Definitions only.
use Rattle.std.specs.Prelude.{ℕ, suc, Bool, true, false, not, ◌&&◌, ◌||◌, List, [], ◌∷◌, leb, eqb}
use Rattle.text.specs.Words.{pick, parts, digit, said, good}
use Rattle.book.specs.declared.kind.Kind.TheVariants.{False, True, Atom, And, Or, Not, Implies, Historically, Once, Since}
use Rattle.rule_scanner.specs.declared.symbols.Symbol.{Symbol}
use Rattle.rule_scanner.specs.declared.symbols.Symbol.TheVariants.{Name, Number, Left, Right, Opens, Closes, Comma, Star, Bad, End}

-- the letters of ASCII
unfoldable pub letter : ℕ → Bool
letter b = leb 65 b && leb b 90 || leb 97 b && leb b 122

-- a byte's class: 0 parts symbols, 1 is a letter, 2 a digit, 3 another byte
unfoldable pub class_of : ℕ → ℕ
class_of b = pick (parts b) 0 (pick (letter b) 1 (pick (digit b) 2 3))

-- a byte of this class goes on with a symbol of a byte of that class before it: letters with letters, digits with digits
unfoldable pub goes_on : ℕ → ℕ → Bool
goes_on c d = eqb c d && (eqb d 1 || eqb d 2)

-- the longest run of bytes of a class
unfoldable pub run_of : ℕ → List ℕ → List ℕ
run_of c [] = []
run_of c (b ∷ s) = pick (eqb (class_of b) c) (b ∷ run_of c s) []

-- the same bytes
unfoldable pub same : List ℕ → List ℕ → Bool
same [] [] = true
same [] (b ∷ t) = false
same (a ∷ s) [] = false
same (a ∷ s) (b ∷ t) = eqb a b && same s t

-- the ten words, lower case
abbrev pub false_word : List ℕ
false_word = 102 ∷ 97 ∷ 108 ∷ 115 ∷ 101 ∷ []

abbrev pub true_word : List ℕ
true_word = 116 ∷ 114 ∷ 117 ∷ 101 ∷ []

abbrev pub atom_word : List ℕ
atom_word = 97 ∷ []

abbrev pub and_word : List ℕ
and_word = 97 ∷ 110 ∷ 100 ∷ []

abbrev pub or_word : List ℕ
or_word = 111 ∷ 114 ∷ []

abbrev pub not_word : List ℕ
not_word = 110 ∷ 111 ∷ 116 ∷ []

abbrev pub implies_word : List ℕ
implies_word = 105 ∷ 109 ∷ 112 ∷ 108 ∷ 105 ∷ 101 ∷ 115 ∷ []

abbrev pub hist_word : List ℕ
hist_word = 104 ∷ 105 ∷ 115 ∷ 116 ∷ []

abbrev pub once_word : List ℕ
once_word = 111 ∷ 110 ∷ 99 ∷ 101 ∷ []

abbrev pub since_word : List ℕ
since_word = 115 ∷ 105 ∷ 110 ∷ 99 ∷ 101 ∷ []

-- what a run of letters is
unfoldable pub name_of : List ℕ → Symbol
name_of w =
    pick (same w false_word) (Name False)
    (pick (same w true_word) (Name True)
    (pick (same w atom_word) (Name Atom)
    (pick (same w and_word) (Name And)
    (pick (same w or_word) (Name Or)
    (pick (same w not_word) (Name Not)
    (pick (same w implies_word) (Name Implies)
    (pick (same w hist_word) (Name Historically)
    (pick (same w once_word) (Name Once)
    (pick (same w since_word) (Name Since) Bad)))))))))

-- what a run of digits is: numbers are as in 01's text
unfoldable pub number_of : List ℕ → Symbol
number_of w = pick (good w) (Number (said 0 w)) Bad

-- what another byte is: [ ] ( ) , *
unfoldable pub mark_of : ℕ → Symbol
mark_of b =
    pick (eqb b 91) Left
    (pick (eqb b 93) Right (pick (eqb b 40) Opens (pick (eqb b 41) Closes (pick (eqb b 44) Comma (pick (eqb b 42) Star Bad)))))

-- the symbol that begins with the byte b, before the bytes s
unfoldable pub symbol_of : ℕ → List ℕ → Symbol
symbol_of b s = pick (eqb (class_of b) 1) (name_of (b ∷ run_of 1 s)) (pick (eqb (class_of b) 2) (number_of (b ∷ run_of 2 s)) (mark_of b))

-- a symbol and the place where it begins
pub record Placed : Type 0 where
  pub symbol : Symbol
  pub at : ℕ

-- a symbol begins with a byte of class d after one of class c
unfoldable pub begins : ℕ → ℕ → Bool
begins c d = not (eqb d 0) && not (goes_on c d)

-- the symbols of the bytes that are left, which begin at a place, after a byte of class c; the end stands last
unfoldable pub symbols_after : ℕ → ℕ → List ℕ → List Placed
symbols_after c at [] = record { symbol = End; at = at } ∷ []
symbols_after c at (b ∷ s) =
    pick (begins c (class_of b))
    (record { symbol = symbol_of b s; at = at } ∷ symbols_after (class_of b) (suc at) s)
    (symbols_after (class_of b) (suc at) s)

-- the symbols of a text
unfoldable pub symbols : List ℕ → List Placed
symbols s = symbols_after 0 0 s
