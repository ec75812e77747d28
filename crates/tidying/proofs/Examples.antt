-- The examples of REFERENCE 12, computed from the definitions. Assumes nothing.
use Prim.Native.Nat.{ℕ}
use mathlib.Core.Path.{◌≡◌, refl, ◌∙◌}
use mathlib.Core.List.{List, [], ◌∷◌, map}
use Rattle.numbers.specs.Limits.{MAX}
use Rattle.numset.specs.Runs.{has, covers, kept, insert, union}
use Rattle.pmtl.specs.Answer.{digit_of}
use Rattle.pmtl.specs.Book.{stop, properties, width_of, table, answer, every, some}
use Rattle.pmtl.specs.Sets.{gone, stays_if, added_if, renewed, set_rule_by}
use Rattle.pmtl.specs.Monitor.{initial_in, value_rule, value, step_by}
use Rattle.pmtl.specs.Early.{early_rule, early}
use Rattle.pmtl.specs.Calls.{Call, state, refusal, crowded, play, call, after_in, after}
use Rattle.book.specs.Rows.{row_from, count_of}
use Rattle.lists.specs.Lists.{listed}
use Rattle.book.specs.Reading.{section, next, sections}
use Rattle.book.specs.Judging.{temporals_in, start_in, first_to, all_to, arg_good, form_good, range_good, row_number, operands_good, links_good, times_in, used_once, judged, row_in, book_in, loaded_from, whole, loaded}
use Rattle.trees.specs.Forest.{◌then◌, count, size, roots, entries}
use Rattle.trees.specs.Building.{all_rows, all_operands, words_of}
use Rattle.trees.specs.Books.{joined}
use Rattle.tidying.specs.Steps.{form_of, begins, fits_at, fits, remade, stepped_at, stepped_of, words_after, past_limit}
use Rattle.tidying.specs.Tidied.{step_number, Tidying, done, refused, tidied_from, tidied, steps_of}

-- a book in words tidied by steps in words, by what every definition says
unfoldable pub outcome_of : List ℕ → List ℕ → Tidying
unfolding table answer every row_from count_of listed section next sections temporals_in start_in first_to all_to arg_good form_good range_good row_number operands_good links_good times_in used_once judged row_in book_in loaded_from whole loaded ◌then◌ count size roots entries all_rows all_operands words_of joined form_of begins fits_at fits remade stepped_at stepped_of words_after past_limit step_number tidied_from tidied steps_of
outcome_of ws ss = tidied ws (steps_of ss)

pub opened : (ws ss : List ℕ) → tidied ws (steps_of ss) ≡ outcome_of ws ss
unfolding outcome_of
opened ws ss = refl

-- hist[0,5](implies(and(not(not(a0))),true))
abbrev pub clumsy : List ℕ
clumsy =
    7 ∷ 2 ∷ 0 ∷ 0 ∷ 0 ∷ 5 ∷ 1 ∷ 0 ∷ 0 ∷ 5 ∷ 1 ∷ 0 ∷ 0 ∷ 3 ∷ 1 ∷ 0 ∷ 0 ∷ 1 ∷ 0 ∷ 0 ∷ 0 ∷ 6 ∷ 2 ∷ 0 ∷ 0 ∷ 7 ∷ 1 ∷ 0 ∷ 5
    ∷ 6 ∷ 0 ∷ 1 ∷ 2 ∷ 3 ∷ 4 ∷ 5 ∷ 0 ∷ 1 ∷ 6 ∷ []

-- one step of each form gives not(once[0,5](not(or(not(a0),true))))
pub all_forms : tidied clumsy (steps_of (0 ∷ 2 ∷ 1 ∷ 1 ∷ 2 ∷ 2 ∷ 3 ∷ 4 ∷ [])) ≡ done
    (7 ∷ 2 ∷ 0 ∷ 0 ∷ 0 ∷ 5 ∷ 1 ∷ 0 ∷ 0 ∷ 1 ∷ 0 ∷ 0 ∷ 0 ∷ 4 ∷ 2 ∷ 0 ∷ 0 ∷ 5 ∷ 1 ∷ 0 ∷ 0 ∷ 8 ∷ 1 ∷ 0 ∷ 5 ∷ 5 ∷ 1 ∷ 0 ∷ 0
    ∷ 6 ∷ 0 ∷ 1 ∷ 2 ∷ 3 ∷ 4 ∷ 5 ∷ 0 ∷ 1 ∷ 6 ∷ [])
unfolding outcome_of
all_forms = opened clumsy (0 ∷ 2 ∷ 1 ∷ 1 ∷ 2 ∷ 2 ∷ 3 ∷ 4 ∷ []) ∙ refl

-- the second step names the row as it was before the first: 21
pub numbered_anew : tidied clumsy (steps_of (0 ∷ 2 ∷ 1 ∷ 3 ∷ [])) ≡ refused 21 2
unfolding outcome_of
numbered_anew = opened clumsy (0 ∷ 2 ∷ 1 ∷ 3 ∷ []) ∙ refl

-- no such form, no such row: 21
pub no_such_form : tidied clumsy (steps_of (4 ∷ 2 ∷ [])) ≡ refused 21 1
unfolding outcome_of
no_such_form = opened clumsy (4 ∷ 2 ∷ []) ∙ refl

pub no_such_row : tidied clumsy (steps_of (0 ∷ 7 ∷ [])) ≡ refused 21 1
unfolding outcome_of
no_such_row = opened clumsy (0 ∷ 7 ∷ []) ∙ refl

-- words that are no book: 1, before the first step
pub no_book : tidied [] (steps_of (0 ∷ 0 ∷ [])) ≡ refused 1 0
unfolding outcome_of
no_book = opened [] (0 ∷ 0 ∷ []) ∙ refl

-- ---- early answers: hist[0,*](implies(a1,once[0,*](a0))) and what the step from Implies to Or makes of it
abbrev pub turning : List ℕ
turning =
    5 ∷ 2 ∷ 1 ∷ 0 ∷ 0 ∷ 2 ∷ 0 ∷ 0 ∷ 0 ∷ 8 ∷ 1 ∷ 0 ∷ MAX ∷ 6 ∷ 2 ∷ 0 ∷ 0 ∷ 7 ∷ 1 ∷ 0 ∷ MAX
    ∷ 4 ∷ 1 ∷ 0 ∷ 2 ∷ 3 ∷ 0 ∷ 1 ∷ 4 ∷ []

abbrev pub turned : List ℕ
turned =
    6 ∷ 2 ∷ 1 ∷ 0 ∷ 0 ∷ 5 ∷ 1 ∷ 0 ∷ 0 ∷ 2 ∷ 0 ∷ 0 ∷ 0 ∷ 8 ∷ 1 ∷ 0 ∷ MAX ∷ 4 ∷ 2 ∷ 0 ∷ 0 ∷ 7 ∷ 1 ∷ 0 ∷ MAX
    ∷ 5 ∷ 0 ∷ 2 ∷ 1 ∷ 3 ∷ 4 ∷ 0 ∷ 1 ∷ 5 ∷ []

pub turns_into : tidied turning (steps_of (2 ∷ 3 ∷ [])) ≡ done turned
unfolding outcome_of
turns_into = opened turning (2 ∷ 3 ∷ []) ∙ refl

-- the early answers of the properties of a book in words after calls, the newest first, by what every definition says
abbrev pub early_digits : List ℕ → List Call → List ℕ
early_digits ws calls = let b = (loaded ws).book in map (λ r. digit_of (early b.rows (after b.rows calls) r)) (properties b)

unfoldable pub early_of : List ℕ → List Call → List ℕ
unfolding has covers insert union stop width_of table answer every some kept gone stays_if added_if renewed set_rule_by initial_in value_rule value step_by early_rule early refusal crowded play call after_in row_from count_of listed section next sections temporals_in start_in first_to all_to arg_good form_good range_good row_number operands_good links_good times_in used_once judged row_in book_in loaded_from whole loaded
early_of ws calls = early_digits ws calls

pub early_opened : (ws : List ℕ) (calls : List Call) → early_digits ws calls ≡ early_of ws calls
unfolding early_of
early_opened ws calls = refl

-- a1 alone on, then both on
abbrev pub two_calls : List Call
two_calls = state (1 ∷ 1 ∷ []) ∷ state (0 ∷ 1 ∷ []) ∷ []

-- true before the step, false after it
pub early_before : early_digits turning two_calls ≡ 1 ∷ []
unfolding early_of
early_before = early_opened turning two_calls ∙ refl

pub early_after : early_digits turned two_calls ≡ 0 ∷ []
unfolding early_of
early_after = early_opened turned two_calls ∙ refl
