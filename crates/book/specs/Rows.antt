-- A row from its words, and how many operands it takes. Definitions only.
use Rattle.std.specs.Prelude.{ℕ, Bool, List, [], ◌∷◌, get_or, take, leb}
use Rattle.pmtl.specs.Book.{Range, Row}
use Rattle.pmtl.specs.Book.Row.{never, always, atom, conj, disj, neg, implies, historically, once, since}

-- the words of the kinds that definitions name
abbrev pub ATOM : ℕ
ATOM = 2

abbrev pub HISTORICALLY : ℕ
HISTORICALLY = 7

abbrev pub SINCE : ℕ
SINCE = 9

-- how many kinds there are
abbrev pub KINDS : ℕ
KINDS = 10

-- a row from its words, by its kind in this order, and from the operands that are left for it
unfoldable pub row_from : ℕ → ℕ → ℕ → ℕ → List ℕ → Row ℕ
row_from kind arg lower upper os =
    let g : Range = record { lower = lower; upper = upper } in
    let x = get_or os 0 0 in
    let y = get_or os 1 0 in
    get_or
    (never ∷ always ∷ atom arg ∷ conj (take arg os) ∷ disj (take arg os) ∷ neg x ∷ implies x y ∷ historically g x ∷ once g x ∷ since g x y ∷ [])
    kind
    never

-- how many operands a row of this kind, in the same order, and arg takes
unfoldable pub count_of : ℕ → ℕ → ℕ
count_of kind arg = get_or (0 ∷ 0 ∷ 0 ∷ arg ∷ arg ∷ 1 ∷ 2 ∷ 1 ∷ 1 ∷ 2 ∷ []) kind 0

-- Historically, Once and Since are temporal
abbrev pub temporal : ℕ → Bool
temporal kind = leb HISTORICALLY kind
