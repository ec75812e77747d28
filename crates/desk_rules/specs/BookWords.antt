-- The words of a desk's book: four sections, each after its count. Definitions only.
use Rattle.std.specs.Prelude.{ℕ, zero, suc, ◌*◌, List, [], ◌∷◌, ◌++◌, length}
use Rattle.numbers.specs.Limits.{MAX}
use Rattle.book.specs.Kinds.{word_of_kind}
use Rattle.book.specs.declared.kind.Kind.TheVariants.{Atom, Not, Implies, Historically, Since}
use Rattle.desk_rules.specs.Rows.{PROMISE, HANDOUT, RETURN, atom_of, KIT_ROWS, KIT_OPERANDS, row_of, guarantees_from}

-- the rows of kit k: kind, arg, lower and upper of each
abbrev pub kit_words : ℕ → ℕ → List ℕ
kit_words k window =
    word_of_kind Atom ∷ atom_of k HANDOUT ∷ 0 ∷ 0
    ∷ word_of_kind Atom ∷ atom_of k RETURN ∷ 0 ∷ 0
    ∷ word_of_kind Not ∷ 1 ∷ 0 ∷ 0
    ∷ word_of_kind Atom ∷ atom_of k PROMISE ∷ 0 ∷ 0
    ∷ word_of_kind Since ∷ 2 ∷ 0 ∷ window
    ∷ word_of_kind Implies ∷ 2 ∷ 0 ∷ 0
    ∷ word_of_kind Historically ∷ 1 ∷ 0 ∷ MAX
    ∷ []

-- their operands
abbrev pub kit_operands : ℕ → List ℕ
kit_operands k = row_of k 1 ∷ row_of k 2 ∷ row_of k 3 ∷ row_of k 0 ∷ row_of k 4 ∷ row_of k 5 ∷ []

-- of kits with these windows, of which the first is kit k
unfoldable pub row_words_from : ℕ → List ℕ → List ℕ
row_words_from k [] = []
row_words_from k (w ∷ ws) = kit_words k w ++ row_words_from (suc k) ws

-- of n kits, of which the first is kit k
unfoldable pub operands_from : ℕ → ℕ → List ℕ
operands_from k zero = []
operands_from k (suc n) = kit_operands k ++ operands_from (suc k) n

-- the sections: rows, operands, no assumes and then guarantees
abbrev pub rows_section : List ℕ → List ℕ
rows_section ws = KIT_ROWS * length ws ∷ row_words_from 0 ws

abbrev pub operands_section : ℕ → List ℕ
operands_section n = KIT_OPERANDS * n ∷ operands_from 0 n

abbrev pub property_sections : ℕ → List ℕ
property_sections n = 0 ∷ n ∷ guarantees_from 0 n

unfoldable pub book_words : List ℕ → List ℕ
book_words ws = rows_section ws ++ (operands_section (length ws) ++ property_sections (length ws))
