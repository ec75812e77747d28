-- A text without one of its calls, and a report without its line. Definitions only.
use Rattle.std.specs.Prelude.{ℕ, suc, ◌-◌, ◌≤◌, ◌≡◌, List, [], ◌∷◌, ◌++◌, map, cond, length, take, drop, ltb}
use Rattle.numbers.specs.Limits.{MOST_ATOMS, LONGEST_INPUT}
use Rattle.text.specs.Words.{supply}
use Rattle.pmtl.specs.Calls.{Call, time, state, stamped}
use Rattle.book.specs.Reading.{got, Sections}
use Rattle.report.specs.Lines.{Line, book, called, summed, last}
use Rattle.summaries.specs.Renumbered.{renumbered_line, renumbered}
use Rattle.slip.specs.Says.{sections_said}

-- the words of a call, and of calls in order
abbrev pub call_words : Call → List ℕ
call_words (time t) = 0 ∷ t ∷ []
call_words (state bytes) = 1 ∷ length bytes ∷ bytes
call_words (stamped t bytes) = 2 ∷ t ∷ length bytes ∷ bytes

unfoldable pub all_words : List Call → List ℕ
all_words [] = []
all_words (k ∷ ks) = call_words k ++ all_words ks

-- a state is not too wide to be read
abbrev pub Fits : Call → Type 0
Fits (time t) = Unit {0}
Fits (state bytes) = length bytes ≤ MOST_ATOMS
Fits (stamped t bytes) = length bytes ≤ MOST_ATOMS

abbrev pub AllFit : List Call → Type 0
AllFit [] = Unit {0}
AllFit (k ∷ ks) = Fits k × AllFit ks

-- call i of a text, with what stands before and after its words
pub record CallAt (input : List ℕ) (i : ℕ) : Type 0 where
  pub book : Sections
  pub fewer : ℕ
  pub before : List Call
  pub itself : Call
  pub rest : List ℕ
  pub place : i ≡ suc (length before)
  pub counted : length before ≤ fewer
  pub fits_before : AllFit before
  pub fits : Fits itself
  pub words : sections_said input ≡ got book (suc fewer ∷ (all_words before ++ (call_words itself ++ rest)))

-- another text says the same without that call: its words are taken out, and the count is one less
pub record TakenOut {input : List ℕ} {i : ℕ} (c : CallAt input i) (other : List ℕ) : Type 0 where
  pub short : length other ≤ LONGEST_INPUT
  pub ending : (supply other).ending ≡ (supply input).ending
  pub words : sections_said other ≡ got c.book (c.fewer ∷ (all_words c.before ++ c.rest))

-- where call i is taken out, the number of a call: one lower from there on
abbrev pub lower_from : ℕ → ℕ → ℕ
lower_from i n = cond (ltb n i) n (n - 1)

-- a line with the calls that it names by these numbers
abbrev pub lowered : ℕ → Line → Line
lowered i (book n e) = book n e
lowered i (called l) = called (renumbered_line (lower_from i) l)
lowered i (summed s) = summed (renumbered (lower_from i) s)
lowered i (last e) = last e

-- lines without line i, and calls by their new numbers
unfoldable pub without : ℕ → List Line → List Line
without i ls = map (lowered i) (take i ls ++ drop (suc i) ls)

-- lines without the summaries
abbrev pub unless_summed : Line → List Line → List Line
unless_summed (book n e) ls = book n e ∷ ls
unless_summed (called l) ls = called l ∷ ls
unless_summed (summed s) ls = ls
unless_summed (last e) ls = last e ∷ ls

unfoldable pub unsummed : List Line → List Line
unsummed [] = []
unsummed (l ∷ ls) = unless_summed l (unsummed ls)
