-- REFERENCE 12: a book tidied by a list of steps, and what it keeps. Definitions only.
use Rattle.std.specs.Prelude.{ℕ, suc, ◌≡◌, Bool, true, false, cond, List, [], ◌∷◌, map, length, eqb}
use Rattle.numbers.specs.Refusals.{ACCEPTED, PAST_LIMIT, DOES_NOT_FIT}
use Rattle.pmtl.specs.Book.{Rows, Book, properties}
use Rattle.pmtl.specs.Sets.{Way}
use Rattle.pmtl.specs.Monitor.{fullest, value}
use Rattle.pmtl.specs.Early.{early}
use Rattle.pmtl.specs.Settled.{settled}
use Rattle.pmtl.specs.Calls.{Call, call, after_in}
use Rattle.book.specs.Judging.{loaded}
use Rattle.tidying.specs.declared.Form.{Form}
use Rattle.tidying.specs.declared.Form.TheVariants.{Nots, Single, Implication, History, Unknown}
use Rattle.tidying.specs.declared.Step.{Step}
use Rattle.tidying.specs.Steps.{form_of, fits, all_after, words_after, past_limit}

-- what is wrong with a step: it does not fit; the book grows past its rows or operands
unfoldable pub step_number : Book → Step → ℕ
step_number b s = cond (fits b.rows s) (cond (past_limit (all_after b s)) PAST_LIMIT ACCEPTED) DOES_NOT_FIT

-- the words of the new book; or the number of what was refused and of the step, counted from 1
pub data Tidying : Type 0 where
  done : List ℕ → Tidying
  refused : ℕ → ℕ → Tidying

-- a book in words and steps, the first first, of which the first has number k
unfoldable pub tidied_from : ℕ → List ℕ → List Step → Tidying
tidied_from k ws [] = done ws
tidied_from k ws (s ∷ ss) = let b = (loaded ws).book in elim (eqb (step_number b s) ACCEPTED) [
  | true ↦ tidied_from (suc k) (words_after b s) ss
  | false ↦ refused (step_number b s) k
]

-- words that are no accepted book are refused with their own number, before the first step
unfoldable pub tidied : List ℕ → List Step → Tidying
tidied ws ss = elim (eqb (loaded ws).number ACCEPTED) [ true ↦ tidied_from 1 ws ss | false ↦ refused (loaded ws).number 0 ]

-- steps as words: form and row of each
unfoldable pub steps_of : List ℕ → List Step
steps_of [] = []
steps_of (f ∷ []) = []
steps_of (f ∷ r ∷ ws) = record { form = form_of f; row = r } ∷ steps_of ws

-- ---- what is kept
-- some answer of each property, in order, after calls
abbrev pub answers_of : {A : Type 0} → (Rows → List Call → ℕ → A) → Book → List Call → List A
answers_of f b calls = map (f b.rows calls) (properties b)

-- two books in a way of monitoring, on every list of calls, the newest first, refused ones among them
pub record Same (way : Way) (b b' : Book) : Type 0 where
  -- each call has the same number
  pub refusals : (calls : List Call) (k : Call) → (call b.rows (after_in way b.rows calls) k).number ≡ (call b'.rows (after_in way b'.rows calls) k).number
  -- the fullest sets have as many runs
  pub counts : (calls : List Call) → fullest (after_in way b.rows calls) ≡ fullest (after_in way b'.rows calls)
  -- each property the same value and the same settled answer
  pub values : (calls : List Call) → answers_of (λ b ks. value b (after_in way b ks)) b calls ≡ answers_of (λ b ks. value b (after_in way b ks)) b' calls
  pub settleds : (calls : List Call) → answers_of (λ b ks. settled b (after_in way b ks)) b calls ≡ answers_of (λ b ks. settled b (after_in way b ks)) b' calls
  -- and as many of them are assumes
  pub assumed : length b.assumes ≡ length b'.assumes

-- and the same early answers
abbrev pub SameEarly : Way → Book → Book → Type 0
SameEarly way b b' = (calls : List Call) → answers_of (λ b ks. early b (after_in way b ks)) b calls ≡ answers_of (λ b ks. early b (after_in way b ks)) b' calls

-- no step goes from Implies to Or
abbrev pub keeps_early : Form → Bool
keeps_early Nots = true
keeps_early Single = true
keeps_early Implication = false
keeps_early History = true
keeps_early Unknown = true

abbrev pub NoImplication : List Step → Type 0
NoImplication [] = Unit {0}
NoImplication (s ∷ ss) = (keeps_early s.form ≡ true) × NoImplication ss
