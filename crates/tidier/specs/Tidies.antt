-- A book in words, tidied in lent memory: REFERENCE 12. Definitions only.
use Rattle.std.specs.Prelude.{ℕ, ◌+◌, ◌-◌, ◌*◌, ◌≤◌, ◌≡◌, true, List, [], ◌++◌, length, get_or, take, replicate, Result, Ok, Err}
use Rattle.numbers.specs.Refusals.{ACCEPTED, number_of}
use Rattle.numbers.specs.declared.Refusal.{Refusal}
use Rattle.book.specs.Judging.{loaded}
use Rattle.trees.specs.Putting.{MOST_WORDS}
use Rattle.book.specs.declared.check.Places.{Places}
use Rattle.tidying.specs.declared.Step.{Step}
use Rattle.tidying.specs.Steps.{form_of, fits, words_after}
use Rattle.tidying.specs.Tidied.{step_number, Tidying, done, refused, tidied, steps_of}
use Rattle.tidier.specs.declared.lay.Laid.{Laid}
use Rattle.tidier.specs.declared.tidy.StepRefused.{StepRefused}

-- what tidying hands back: what it is refused with and at which step, both 0 where nothing is wrong; and how many words the new book has, 0 where there is none
pub record HandedBack : Type 0 where
  pub number : ℕ
  pub step : ℕ
  pub length : ℕ

abbrev pub told : Result ℕ StepRefused → HandedBack
told (Ok n) = record { number = ACCEPTED; step = 0; length = n }
told (Err e) = record { number = number_of e.refusal; step = e.step; length = 0 }

unfoldable pub handed_back : Tidying → HandedBack
handed_back (done ws) = record { number = ACCEPTED; step = 0; length = length ws }
handed_back (refused n k) = record { number = n; step = k; length = 0 }

-- the words of the new book, none where something is refused
unfoldable pub new_book : Tidying → List ℕ
new_book (done ws) = ws
new_book (refused n k) = []

-- the lent words then: those of the new book, and zeros after them
unfoldable pub zeros : ℕ → List ℕ
zeros n = replicate n 0

abbrev pub lent_words : Tidying → List ℕ
lent_words t = new_book t ++ zeros (MOST_WORDS - length (new_book t))

-- ---- steps on the way
-- what steps came to in a memory whose first words are those of the new book
unfoldable pub TidiedAs : Tidying → HandedBack → List ℕ → Type 0
TidiedAs (done ws) r out = (r.number ≡ ACCEPTED) × (r.step ≡ 0) × (take r.length out ≡ ws) × (r.length ≤ length out)
TidiedAs (refused n k) r out = (r.number ≡ n) × (r.step ≡ k) × (r.length ≡ 0)

-- the i-th step of a list in words
unfoldable pub step_at : List ℕ → ℕ → Step
step_at ws i = record { form = form_of (get_or ws (2 * i) 0); row = get_or ws (2 * i + 1) 0 }

-- what a step came to: what it is refused with, 0 where nothing is wrong; and how many words the book after it has
pub record Stepped : Type 0 where
  pub number : ℕ
  pub length : ℕ

abbrev pub stepped : Result ℕ Refusal → Stepped
stepped (Ok n) = record { number = ACCEPTED; length = n }
stepped (Err r) = record { number = number_of r; length = 0 }

-- an accepted book stands in the first words, and there is room for any
pub record Standing (words : List ℕ) (end : ℕ) : Type 0 where
  pub inside : end ≤ length words
  pub long : MOST_WORDS ≤ length words
  pub ok : (loaded (take end words)).number ≡ ACCEPTED

-- and a step fits it
pub record Fitting (words : List ℕ) (end : ℕ) (s : Step) : Type 0 where
  pub standing : Standing words end
  pub fit : fits (loaded (take end words)).book.rows s ≡ true

-- how many there are of everything
pub record Counting (words : List ℕ) (l : Laid) (c : Places) : Type 0 where
  pub rows : c.rows ≡ l.rows
  pub operands : c.operands ≡ l.operands
  pub assumes : c.assumes ≡ length (loaded words).book.assumes
  pub guarantees : c.guarantees ≡ length (loaded words).book.guarantees

-- a step was made: the book after it stands in the first words; or it was refused, and the words are as they were
pub record Makes (words : List ℕ) (end : ℕ) (s : Step) (r : Stepped) (words' : List ℕ) : Type 0 where
  pub number_is : r.number ≡ step_number (loaded (take end words)).book s
  pub words_are : r.number ≡ ACCEPTED → take r.length words' ≡ words_after (loaded (take end words)).book s
  pub inside : r.length ≤ length words'
  pub size : length words' ≡ length words

-- all steps were made
pub record Steps (words : List ℕ) (end : ℕ) (steps : List ℕ) (r : HandedBack) (words' : List ℕ) : Type 0 where
  pub made : TidiedAs (tidied (take end words) (steps_of steps)) r words'
  pub size : length words' ≡ length words
