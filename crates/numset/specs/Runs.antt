-- A set of instants: its runs, the words that hold it, and what is done to it. Definitions only.
use Rattle.std.specs.Prelude.{ℕ, zero, suc, ◌+◌, ◌*◌, ◌-◌, ◌^◌, ◌≤◌, ◌<◌, min, max, ◌≡◌, Bool, true, false, cond, ◌&&◌, ◌||◌, List, [], ◌∷◌, ◌++◌, length, get_or, replicate, leb, ltb}
use Rattle.numbers.specs.Limits.{MAX, MOST_RUNS}
use Rattle.numbers.specs.Refusals.{ACCEPTED, NO_ROOM}

-- a run: the instants from its lower to its upper end, both in it
pub data Run : Type 0 where
  run : ℕ → ℕ → Run

-- a set, as its runs, the newest (the highest) first
abbrev pub Runs : Type 0
Runs = List Run

-- t is one of l ..= u
abbrev pub within : ℕ → ℕ → ℕ → Bool
within l u t = leb l t && leb t u

-- t is in the set
unfoldable pub has : Runs → ℕ → Bool
has [] t = false
has (run l u ∷ rs) t = within l u t || has rs t

-- every instant from `from` to MAX is in the set (the original: contains_unbounded_interval)
abbrev pub Covers : ℕ → Runs → Type 0
Covers from rs = (t : ℕ) → from ≤ t → t ≤ MAX → has rs t ≡ true

-- the same as a test: one run holds them all
unfoldable pub covers : ℕ → Runs → Bool
covers from [] = false
covers from (run l u ∷ rs) = leb l from && leb MAX u || covers from rs

-- the union with l ..= u, which is not empty: a run wholly above stays, one wholly below ends the walk, any other is joined
unfoldable pub insert : ℕ → ℕ → Runs → Runs
insert l u [] = run l u ∷ []
insert l u (run a b ∷ rs) =
    cond (ltb (u + 1) a) (run a b ∷ insert l u rs)
    (cond (ltb (b + 1) l) (run l u ∷ run a b ∷ rs)
    (insert (min l a) (max u b) rs))

-- the union with l ..= u; nothing is added where l is above u
unfoldable pub union : ℕ → ℕ → Runs → Runs
union l u rs = cond (ltb u l) rs (insert l u rs)

-- what is kept of the set from t on: the runs that end at or after t
unfoldable pub kept : ℕ → Runs → Runs
kept t [] = []
kept t (run l u ∷ rs) = cond (ltb u t) (kept t rs) (run l u ∷ kept t rs)

-- no run is empty, each ends at least two before the one above it begins, and all end before top - 1
unfoldable pub Under : ℕ → Runs → Type 0
Under top [] = Unit {0}
Under top (run l u ∷ rs) = (l ≤ u) × (u + 1 < top) × Under l rs

-- sorted, disjoint, never adjacent
unfoldable pub Canonical : Runs → Type 0
Canonical [] = Unit {0}
Canonical (run l u ∷ rs) = (l ≤ u) × Under l rs

-- ---- a set in lent words: word 0 is the number of runs; run j, counted from the oldest, is words 2 * j + 1 and 2 * j + 2

-- the lower and the upper end of run j
abbrev pub lo : List ℕ → ℕ → ℕ
lo m j = get_or m (2 * j + 1) 0

abbrev pub hi : List ℕ → ℕ → ℕ
hi m j = get_or m (2 * j + 2) 0

-- the oldest n runs that the words hold
unfoldable pub runs_to : List ℕ → ℕ → Runs
runs_to m zero = []
runs_to m (suc j) = run (lo m j) (hi m j) ∷ runs_to m j

-- the set that the words hold
abbrev pub runs : List ℕ → Runs
runs m = runs_to m (get_or m 0 0)

-- the words came from calls made here: the runs have room and are in order, and words not in use are 0
pub record Good (m : List ℕ) : Type 0 where
  pub room : 2 * get_or m 0 0 < length m
  pub apart : Under (2 ^ 64 + 1) (runs m)
  pub rest : (i : ℕ) → 2 * get_or m 0 0 < i → get_or m i 0 ≡ 0

-- the lower and upper ends, the oldest run first
unfoldable pub words : Runs → List ℕ
words [] = []
words (run l u ∷ rs) = words rs ++ l ∷ u ∷ []

-- the words, as many as size, that hold a set
unfoldable pub pack : ℕ → Runs → List ℕ
pack size rs = length rs ∷ words rs ++ replicate (size - (2 * length rs + 1)) 0

-- so many words have room for the set
abbrev pub fits : ℕ → Runs → Bool
fits size rs = ltb (2 * length rs) size

-- the words m, with what is kept of their set from t on
abbrev pub kept_words : ℕ → List ℕ → List ℕ
kept_words t m = pack (length m) (kept t (runs m))

-- the words of a set with room for the most runs
abbrev pub SET_WORDS : ℕ
SET_WORDS = 1 + 2 * MOST_RUNS

-- what making the words m the empty set hands back: NO-ROOM where there is none even for the number of runs
unfoldable pub empty_number : List ℕ → ℕ
empty_number m = cond (fits (length m) []) ACCEPTED NO_ROOM

-- what adding l ..= u to the words m hands back: NO-ROOM where the union has more runs than there is room for
unfoldable pub add_number : List ℕ → ℕ → ℕ → ℕ
add_number m l u = cond (fits (length m) (union l u (runs m))) ACCEPTED NO_ROOM

-- and the words that it leaves: those of the union, or m
unfoldable pub add_words : List ℕ → ℕ → ℕ → List ℕ
add_words m l u = cond (fits (length m) (union l u (runs m))) (pack (length m) (union l u (runs m))) m

-- how many runs the set has that the words hold
abbrev pub held : List ℕ → ℕ
held m = length (runs m)

-- and with the number, how many runs the set has that it leaves
abbrev pub add_count : List ℕ → ℕ → ℕ → ℕ
add_count m l u = held (add_words m l u)

-- what setting the words m to l ..= u hands back, and the words that it leaves; the empty set where l is above u
unfoldable pub set_to_number : List ℕ → ℕ → ℕ → ℕ
set_to_number m l u = cond (fits (length m) (union l u [])) ACCEPTED NO_ROOM

unfoldable pub set_to_words : List ℕ → ℕ → ℕ → List ℕ
set_to_words m l u = cond (fits (length m) (union l u [])) (pack (length m) (union l u [])) m
