-- A set of instants in a ring of words: word 0 is the number of runs and word 1 the place of the oldest; the run at place p is words 2 * p + 2 and
-- 2 * p + 3, the next newer one stands at the next place, and after the last place comes the first. Definitions only.
use Rattle.std.specs.Prelude.{ℕ, ◌+◌, ◌*◌, ◌-◌, ◌%◌, ◌<◌, ◌≡◌, List, ◌∷◌, length, get_or}
use Rattle.numbers.specs.Limits.{MOST_RUNS}
use Rattle.lists.specs.Lists.{listed}
use Rattle.numset.specs.Runs.{Runs, runs, Good, kept, pack, SET_WORDS}

-- the words of all places, and of a ring
abbrev pub PLACE_WORDS : ℕ
PLACE_WORDS = 2 * MOST_RUNS

abbrev pub RING_WORDS : ℕ
RING_WORDS = 2 + PLACE_WORDS

-- the place of the oldest run
abbrev pub turn_of : List ℕ → ℕ
turn_of m = get_or m 1 0

-- the same set in words that begin with its oldest run
unfoldable pub unrolled : List ℕ → List ℕ
unrolled m = get_or m 0 0 ∷ listed (λ i. get_or m (2 + (2 * turn_of m + i) % PLACE_WORDS) 0) PLACE_WORDS

-- the set that a ring holds
abbrev pub ringed : List ℕ → Runs
ringed m = runs (unrolled m)

-- the words came from calls made here
pub record Rolling (m : List ℕ) : Type 0 where
  pub long : length m ≡ RING_WORDS
  pub turn : turn_of m < MOST_RUNS
  pub good : Good (unrolled m)

-- the words that hold a set, its oldest run at place k
unfoldable pub rolled : ℕ → Runs → List ℕ
rolled k rs = length rs ∷ k ∷ listed (λ i. get_or (pack SET_WORDS rs) (1 + (i + 2 * (MOST_RUNS - k)) % PLACE_WORDS) 0) PLACE_WORDS

-- how many runs end before t
abbrev pub lapses : ℕ → Runs → ℕ
lapses t rs = length rs - length (kept t rs)

-- the place of the oldest run once those that end before t are dropped
abbrev pub turn_after : ℕ → List ℕ → ℕ
turn_after t m = (turn_of m + lapses t (ringed m)) % MOST_RUNS
