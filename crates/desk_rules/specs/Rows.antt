-- The book of a desk: one guarantee for each kit. Definitions only.
use Rattle.std.specs.Prelude.{ℕ, zero, suc, ◌+◌, ◌*◌, List, [], ◌∷◌, length}
use Rattle.numbers.specs.Limits.{MAX}
use Rattle.pmtl.specs.Book.{Range, Rows, Book}
use Rattle.pmtl.specs.Book.Row.{atom, neg, implies, historically, since}

-- the atoms of a kit, and how many it has
abbrev pub PROMISE : ℕ
PROMISE = 0

abbrev pub HANDOUT : ℕ
HANDOUT = 1

abbrev pub RETURN : ℕ
RETURN = 2

abbrev pub KIT_ATOMS : ℕ
KIT_ATOMS = 3

-- atom i of kit k: the place of its barcode among those of the desk
abbrev pub atom_of : ℕ → ℕ → ℕ
atom_of k i = KIT_ATOMS * k + i

-- how many rows and operands a kit has, and its row i
abbrev pub KIT_ROWS : ℕ
KIT_ROWS = 7

abbrev pub KIT_OPERANDS : ℕ
KIT_OPERANDS = 6

abbrev pub row_of : ℕ → ℕ → ℕ
row_of k i = KIT_ROWS * k + i

-- the range from now to so many hours later; to MAX it is unbounded
abbrev pub within : ℕ → Range
within hours = record { lower = 0; upper = hours }

-- hist[0,*](implies(handout, since[0,window](not(return), promise))), operands before their owners, left to right
abbrev pub kit_rows : ℕ → ℕ → Rows → Rows
kit_rows k window more =
    atom (atom_of k HANDOUT)
    ∷ atom (atom_of k RETURN)
    ∷ neg (row_of k 1)
    ∷ atom (atom_of k PROMISE)
    ∷ since (within window) (row_of k 2) (row_of k 3)
    ∷ implies (row_of k 0) (row_of k 4)
    ∷ historically (within MAX) (row_of k 5)
    ∷ more

-- the rows of kits with these windows, of which the first is kit k
unfoldable pub rows_from : ℕ → List ℕ → Rows
rows_from k [] = []
rows_from k (w ∷ ws) = kit_rows k w (rows_from (suc k) ws)

-- the guarantee of kit k
abbrev pub guarantee : ℕ → ℕ
guarantee k = row_of k 6

-- those of n kits, of which the first is kit k
unfoldable pub guarantees_from : ℕ → ℕ → List ℕ
guarantees_from k zero = []
guarantees_from k (suc n) = guarantee k ∷ guarantees_from (suc k) n

abbrev pub desk_rows : List ℕ → Rows
desk_rows ws = rows_from 0 ws

abbrev pub desk_book : List ℕ → Book
desk_book ws = record { rows = desk_rows ws; assumes = []; guarantees = guarantees_from 0 (length ws) }
