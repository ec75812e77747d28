-- Steps of a report: a call that is read and made, and its line from digits. No public contract cites these. Definitions only.
use Rattle.std.specs.Prelude.{ℕ, Result, Ok, Err, MatchResult, zero, suc, ◌+◌, ◌≡◌, ◌<◌, cond, Option, Some, None, List, [], ◌∷◌, ◌++◌, eqb}
use Rattle.std.proofs.lemmas.List.Edits.{sets}
use Rattle.numbers.specs.Refusals.{number_of, refused_with}
use Rattle.numbers.specs.declared.Refusal.{Refusal}
use Rattle.numbers.specs.declared.Refusal.TheVariants.{BadWord}
use Rattle.text.specs.Words.{space, digit0, read, next_word, supply_from}
use Rattle.text.specs.declared.words.Word.{Word}
use Rattle.text.specs.Decimals.{decimal}
use Rattle.pmtl.specs.Calls.{Call}
use Rattle.pmtl.specs.Calls.Call.{state, stamped}
use Rattle.book.specs.Reading.{Read, got, refused}
use Rattle.memory.specs.Layout.{FAILED, FIRST, LAST, LONGEST, SETTLED_CALL}
use Rattle.memory.specs.Memory.{property_row, value_at, early_at, settled_at, fullest_word, taken_word, entry_word}
use Rattle.memory.specs.Tables.{property_count}
use Rattle.calls.specs.Called.{Called}
use Rattle.report.specs.Report.{ended}
use Rattle.report.specs.declared.text_calls.Kind.{Kind}
use Rattle.report.specs.declared.text_calls.Kind.TheVariants.{Time, State, Stamped}
use Rattle.report.specs.declared.text_calls.Turn.{Turn}

-- the word of a kind of call
abbrev pub word_of_kind : Kind → ℕ
word_of_kind Time = 0
word_of_kind State = 1
word_of_kind Stamped = 2

-- the kind that a word says; a word past the last kind says none
abbrev pub SaysKind : ℕ → Result Kind Refusal → Type 0
SaysKind word said = MatchResult said (λ kind. word_of_kind kind ≡ word) (λ r. (r ≡ BadWord) × (2 < word))

-- a call that has a state, stamped with a time or not
unfoldable pub with_stamp : Option ℕ → List ℕ → Call
with_stamp (Some t) = stamped t
with_stamp None = state

-- the time of a call and the place after it; 0, and the place itself, of one that has none
unfoldable pub time_word : Kind → List ℕ → ℕ → Result Word Refusal
time_word Time input at = next_word input at
time_word State input at = read 0 at
time_word Stamped input at = next_word input at

-- a call was read, from words that leave off with `ending`, and made on the memory m, which it left as m' with the number r
pub record CallMade (input : List ℕ) (ending : ℕ) (asked : Read Call) (m m' : List ℕ) (r next : ℕ) : Type 0 where
  pub what : Call
  pub read : asked ≡ got what (supply_from input next).words
  pub ending_on : (supply_from input next).ending ≡ ending
  pub called : Called what m m' r

unfoldable pub Turned : List ℕ → ℕ → Read Call → List ℕ → List ℕ → Result Turn Refusal → Type 0
Turned input ending asked m m' (Ok turn) = CallMade input ending asked m m' (refused_with turn.outcome) turn.next
Turned input ending asked m m' (Err refusal) = asked ≡ refused (number_of refusal)

-- ---- a call's line from the digits that the tables of a memory hold
-- a property's word
unfoldable pub digit_word : ℕ → ℕ → ℕ → List ℕ
digit_word value early settled = space ∷ (digit0 + value) ∷ (digit0 + early) ∷ (digit0 + settled) ∷ []

-- that of property i
abbrev pub word_at : List ℕ → ℕ → List ℕ
word_at m i = digit_word (value_at m (property_row m i)) (early_at m i) (settled_at m i)

-- the words of the first n properties
unfoldable pub digit_words : List ℕ → ℕ → List ℕ
digit_words m zero = []
digit_words m (suc i) = digit_words m i ++ word_at m i

-- where those of the first properties stand in out, out' is what has the words up to `count` in their place
pub record LaidOn (m : List ℕ) (at first count : ℕ) (out out' : List ℕ) : Type 0 where
  pub laid : (o : List ℕ) → out ≡ sets o at (digit_words m first) → out' ≡ sets o at (digit_words m count)

-- those of all properties, and the count
unfoldable pub digit_rest : List ℕ → List ℕ
digit_rest m = digit_words m (property_count m) ++ space ∷ decimal (fullest_word m)

-- the digits of a call's number and its refusal; if 0, what follows them
unfoldable pub digit_line : List ℕ → ℕ → List ℕ → List ℕ
digit_line number refusal rest = number ++ space ∷ decimal refusal ++ cond (eqb refusal 0) rest [] ++ ended

-- ---- the summaries from the words that a memory's ledger has
-- a number, after a space
abbrev pub number_after : ℕ → List ℕ
number_after n = space ∷ decimal n

-- of property i the numbers on failed calls; how long a stretch and where it settled
unfoldable pub fail_words : List ℕ → ℕ → List ℕ
fail_words m i = number_after (entry_word m i FAILED) ++ number_after (entry_word m i FIRST) ++ number_after (entry_word m i LAST)

unfoldable pub span_words : List ℕ → ℕ → List ℕ
span_words m i = number_after (entry_word m i LONGEST) ++ number_after (entry_word m i SETTLED_CALL)

-- its line
unfoldable pub summary_words : List ℕ → ℕ → List ℕ
summary_words m i = decimal (taken_word m) ++ fail_words m i ++ span_words m i ++ ended

-- the lines of the first n properties
unfoldable pub all_summary_words : List ℕ → ℕ → List ℕ
all_summary_words m zero = []
all_summary_words m (suc i) = all_summary_words m i ++ summary_words m i
