-- The ledger after calls is what a recount of their lines comes to, as far as calls are counted. Assumes nothing.
use Prim.Native.Nat.{ℕ, zero, suc, ◌+◌, ◌<◌, ◌≤◌, min}
use native.Mathlib.Omega.{arith}
use native.Mathlib.Decide.{dec_lt, ℕ_discrete}
use mathlib.Core.Path.{◌≡◌, refl, sym, ap, ◌∙◌}
use mathlib.Core.List.{List, [], ◌∷◌, ◌++◌, append-nil, append_assoc, reverse, reverse_aux, reverse-append}
use lib.ListN.{length, take, drop, length-append, length-take, length-reverse, take-append-drop}
use lib.Seq.{take_all}
use borrow.Author.Tests.{eq-eqb}
use Rattle.lists.specs.Lists.{listed}
use Rattle.lists.proofs.Listed.{listed_at, listed_agree, listed_all}
use Rattle.numbers.specs.Refusals.{ACCEPTED}
use Rattle.pmtl.specs.Book.{Book, properties, property_at}
use Rattle.pmtl.specs.Sets.{Way}
use Rattle.pmtl.specs.Monitor.{State, value, initial_in}
use Rattle.pmtl.specs.Settled.{settled}
use Rattle.pmtl.specs.Calls.{Call, Outcome, call, after_in}
use Rattle.property_answers.specs.Verdict.{verdict_in}
use Rattle.report.specs.Lines.{CallLine, word_of, line_of, lines_of}
use Rattle.summaries.specs.Recount.{no_word, word_on, accepted_of, numbers_if, longest_of, recount}
use Rattle.ledger.specs.Ledger.{LAST_COUNTED, Entry, Ledger, no_entry, blank_ledger, entry_at, summary_from, summary_at, next, ledger_from, ledger_in, LedgerInBounds}
use Rattle.summaries.proofs.Appended.{one_longer, Numbered, numbered_more, open_from, accepted_yes, accepted_no, entry_from, entry_accepted, entry_refused}
use Rattle.ledger.proofs.Noted.{noted_at, next_accepted, next_refused, next_past, number_next, blank_counts, next_counts}

-- ---- what lines come to
abbrev pub tally : Book → List CallLine → Ledger
tally b ls = record { number = length ls; accepted = length (accepted_of ls); entries = listed (λ p. entry_from p ls) (length (properties b)) }

tally_entry : (b : Book) (ls : List CallLine) (p : ℕ) → p < length (properties b) → entry_at (tally b ls).entries p ≡ entry_from p ls
tally_entry b ls p inside = listed_at (λ p. entry_from p ls) no_entry (length (properties b)) p inside

-- the summaries among them are recounts
pub tally_at : (b : Book) (ls : List CallLine) (p : ℕ) → p < length (properties b) → summary_at (tally b ls) p ≡ recount p ls
unfolding recount
tally_at b ls p inside = ap (summary_from (length (accepted_of ls))) (tally_entry b ls p inside)

tally_none : (b : Book) → blank_ledger b ≡ tally b []
unfolding recount accepted_of numbers_if longest_of open_from
tally_none b = ap (λ es. record { number = 0; accepted = 0; entries = es }) (sym (listed_all (λ p. entry_from p []) no_entry (length (properties b)) (λ p h. refl)))

-- ---- one call more, and its line
word_on_lem : (b : Book) (i : ℕ) (o : Outcome) → o.number ≡ ACCEPTED → (p : ℕ) → p < length (properties b) → word_on p (line_of b i o) ≡ word_of (verdict_in b o.state p)
unfolding line_of
word_on_lem b i o e p inside = rw (eq-eqb o.number ACCEPTED e) (listed_at (λ p. word_of (verdict_in b o.state p)) no_word (length (properties b)) p inside)

module _ (b : Book) (o : Outcome) (ls : List CallLine) (ok : Numbered ls) where
  abbrev line : CallLine
  line = line_of b (suc (length ls)) o

  line_longer : length (ls ++ line ∷ []) ≡ suc (length ls)
  line_longer = length-append ls (line ∷ []) ∙ (omega arith)

  line_numbered : Numbered (ls ++ line ∷ [])
  unfolding line_of
  line_numbered = numbered_more ls line ok (omega arith)

  entry_now : o.number ≡ ACCEPTED → (p : ℕ) → p < length (properties b) → noted_at b o (tally b ls) p ≡ entry_from p (ls ++ line ∷ [])
  unfolding verdict_in line_of
  entry_now e p inside =
      let w = word_on_lem b (suc (length ls)) o e p inside in
      rw (tally_entry b ls p inside)
      (sym (entry_accepted p ls line ok e (value b.rows o.state (property_at b p)) (ap (λ w. w.value) w) (settled b.rows o.state (property_at b p)) (ap (λ w. w.settled) w)))

  line_refused : ¬ (o.number ≡ ACCEPTED) → (p : ℕ) → p < length (properties b) → entry_from p ls ≡ entry_from p (ls ++ line ∷ [])
  unfolding line_of
  line_refused e p inside = sym (entry_refused p ls line e)

  counted_yes : o.number ≡ ACCEPTED → length (accepted_of (ls ++ line ∷ [])) ≡ suc (length (accepted_of ls))
  unfolding line_of
  counted_yes e = ap (length {A = CallLine}) (accepted_yes ls line e) ∙ one_longer (accepted_of ls) line

  counted_no : ¬ (o.number ≡ ACCEPTED) → length (accepted_of (ls ++ line ∷ [])) ≡ length (accepted_of ls)
  unfolding line_of
  counted_no e = ap (length {A = CallLine}) (accepted_no ls line e)

  as_parts : {n n' a a' : ℕ} {es es' : List Entry} → n ≡ n' → a ≡ a' → es ≡ es'
      → ◌≡◌ {A = Ledger} (record { number = n; accepted = a; entries = es }) (record { number = n'; accepted = a'; entries = es' })
  as_parts en ea ee = cc

  tally_more : length ls < LAST_COUNTED → next b o (tally b ls) ≡ tally b (ls ++ line ∷ [])
  tally_more h = go (ℕ_discrete o.number ACCEPTED)
    where
      go : Dec (o.number ≡ ACCEPTED) → next b o (tally b ls) ≡ tally b (ls ++ line ∷ [])
      go (yes e) =
          next_accepted b o (tally b ls) h e
          ∙ as_parts (sym line_longer) (sym (counted_yes e))
          (listed_agree (noted_at b o (tally b ls)) (λ p. entry_from p (ls ++ line ∷ [])) (length (properties b)) (entry_now e))
      go (no e) =
          next_refused b o (tally b ls) h e
          ∙ as_parts (sym line_longer) (sym (counted_no e))
          (listed_agree (λ p. entry_from p ls) (λ p. entry_from p (ls ++ line ∷ [])) (length (properties b)) (line_refused e))

-- ---- calls, the oldest first
pub from_lines : (b : Book) (st : State) (ls : List CallLine) → Numbered ls → (ks : List Call) → length ls + length ks ≤ LAST_COUNTED
    → ledger_from b st (tally b ls) ks ≡ tally b (ls ++ lines_of b (length ls) st ks)
unfolding ledger_from lines_of
from_lines b st ls ok [] h = ap (tally b) (sym (append-nil ls))
from_lines b st ls ok (k ∷ ks) h =
    let o = call b.rows st k in
    let l = line_of b (suc (length ls)) o in
    let now = tally_more b o ls ok (omega arith) in
    let longer = line_longer b o ls ok in
    let later = from_lines b o.state (ls ++ l ∷ []) (line_numbered b o ls ok) ks (omega arith) in
    ap (λ t. ledger_from b o.state t ks) now
    ∙ later
    ∙ ap (λ n. tally b ((ls ++ l ∷ []) ++ lines_of b n o.state ks)) longer
    ∙ ap (tally b) (append_assoc ls (l ∷ []) (lines_of b (suc (length ls)) o.state ks))

-- from a blank ledger
pub from_blank : (b : Book) (st : State) (ks : List Call) → length ks ≤ LAST_COUNTED → ledger_from b st (blank_ledger b) ks ≡ tally b (lines_of b 0 st ks)
from_blank b st ks h = ap (λ l. ledger_from b st l ks) (tally_none b) ∙ from_lines b st [] tt ks (omega arith)

-- ---- calls, the newest first, from loading on
module _ (way : Way) (b : Book) where
  -- calls that are put on others in turn are made after them
  turned : (ks past : List Call) → ledger_in way b (reverse_aux ks past) ≡ ledger_from b (after_in way b.rows past) (ledger_in way b past) ks
  unfolding ledger_in ledger_from after_in
  turned [] past = refl
  turned (k ∷ ks) past = turned ks (k ∷ past)

  -- the ledger is what the lines come to
  pub ledger_lines : (calls : List Call) → length calls ≤ LAST_COUNTED → ledger_in way b (reverse calls) ≡ tally b (lines_of b 0 (initial_in way b.rows) calls)
  unfolding ledger_in after_in
  ledger_lines calls h = turned calls [] ∙ from_blank b (initial_in way b.rows) calls h

  -- its number is how many calls were made, as far as they are counted
  pub ledger_number : (calls : List Call) → (ledger_in way b calls).number ≡ min (length calls) LAST_COUNTED
  unfolding ledger_in
  ledger_number [] = omega arith
  ledger_number (k ∷ ks) = go (dec_lt (ledger_in way b ks).number LAST_COUNTED) (ledger_number ks)
    where
      o : Outcome
      o = call b.rows (after_in way b.rows ks) k

      go : Dec ((ledger_in way b ks).number < LAST_COUNTED) → (ledger_in way b ks).number ≡ min (length ks) LAST_COUNTED → (next b o (ledger_in way b ks)).number ≡ min (suc (length ks)) LAST_COUNTED
      go (yes h) ih = number_next b o (ledger_in way b ks) h ∙ (omega arith)
      go (no h) ih = ap (λ (l : Ledger). l.number) (next_past b o (ledger_in way b ks) (omega arith)) ∙ (omega arith)

  -- after the last call that is counted all stays as it is
  pub ledger_stays : (more calls : List Call) → LAST_COUNTED ≤ length calls → ledger_in way b (more ++ calls) ≡ ledger_in way b calls
  unfolding ledger_in
  ledger_stays [] calls h = refl
  ledger_stays (k ∷ more) calls h =
      let o = call b.rows (after_in way b.rows (more ++ calls)) k in
      ap (next b o) (ledger_stays more calls h) ∙ next_past b o (ledger_in way b calls) (omega (arith, ledger_number calls))

  -- so that it is that of the first calls, as far as they are counted
  pub ledger_first : (calls : List Call) → ledger_in way b (reverse calls) ≡ ledger_in way b (reverse (take LAST_COUNTED calls))
  ledger_first calls = go (dec_lt (length calls) LAST_COUNTED)
    where
      go : Dec (length calls < LAST_COUNTED) → ledger_in way b (reverse calls) ≡ ledger_in way b (reverse (take LAST_COUNTED calls))
      go (yes h) = ap (λ ks. ledger_in way b (reverse ks)) (sym (take_all LAST_COUNTED calls (omega arith)))
      go (no h) =
          let first = take LAST_COUNTED calls in
          let later = drop LAST_COUNTED calls in
          ap (λ ks. ledger_in way b (reverse ks)) (sym (take-append-drop LAST_COUNTED calls))
          ∙ ap (ledger_in way b) (reverse-append first later)
          ∙ ledger_stays (reverse later) (reverse first) (omega (arith, length-reverse first, length-take LAST_COUNTED calls))

  -- and its numbers are as they can be
  pub ledger_counts : (calls : List Call) → LedgerInBounds (length (properties b)) (ledger_in way b calls)
  unfolding ledger_in
  ledger_counts [] = blank_counts b
  ledger_counts (k ∷ ks) = next_counts b (call b.rows (after_in way b.rows ks) k) (ledger_in way b ks) (ledger_counts ks)

-- ---- the lines of the first calls are the first lines
pub lines_take : (b : Book) (done : ℕ) (st : State) (i : ℕ) (ks : List Call) → lines_of b done st (take i ks) ≡ take i (lines_of b done st ks)
unfolding lines_of
lines_take b done st zero ks = refl
lines_take b done st (suc i) [] = refl
lines_take b done st (suc i) (k ∷ ks) = ap (λ ls. line_of b (suc done) (call b.rows st k) ∷ ls) (lines_take b (suc done) (call b.rows st k).state i ks)
