-- What is proved of summaries, for every book, either way of monitoring and every list of calls, refused ones among them. Nothing is assumed.
use Prim.Native.Nat.{ℕ, suc, ◌<◌, ◌≤◌, min}
use native.Mathlib.Omega.{arith}
use mathlib.Core.Path.{◌≡◌, refl, sym, ap, ◌∙◌}
use mathlib.Core.Logic.{◌↔◌}
use mathlib.Core.List.{List, [], ◌∷◌, ◌++◌, map, reverse, reverse-reverse}
use lib.ListN.{length, take, drop, length-take, length-reverse}
use borrow.Author.Tests.{le-ltb}
use Rattle.lists.specs.Lists.{listed}
use Rattle.lists.proofs.Listed.{listed_agree}
use Rattle.numbers.specs.Refusals.{ACCEPTED}
use Rattle.pmtl.specs.declared.Answer.TheVariants.{Open}
use Rattle.pmtl.specs.Book.{Book, properties, property_at}
use Rattle.pmtl.specs.Sets.{Way}
use Rattle.pmtl.specs.Monitor.{initial_in}
use Rattle.pmtl.specs.Settled.{settled}
use Rattle.pmtl.specs.Calls.{Call, call, after_in}
use Rattle.lasts.specs.Flat.{Fit}
use Rattle.lasts.proofs.Loaded.{words_fit}
use Rattle.book.specs.declared.loading.Loading.{Loading}
use Rattle.book.specs.Loading.{way_in}
use Rattle.memory.specs.Memory.{ledger_of}
use Rattle.property_answers.specs.Verdict.{verdict_of, properties_in}
use Rattle.property_summaries.specs.Summaries.{summary_of, summaries_list}
use Rattle.oracle.specs.Made.{Made, book_said}
use Rattle.oracle.proofs.Theorems.{made_book, made_ledger, settled_is}
use Rattle.report.specs.Lines.{CallLine, lines_of}
use Rattle.summaries.specs.Recount.{is_false, accepted_of, numbers_if, first_of, last_of, recount, InARow}
use Rattle.summaries.specs.Renumbered.{renumbered_line, renumbered}
use Rattle.ledger.specs.declared.Summary.{Summary}
use Rattle.ledger.specs.Ledger.{LAST_COUNTED, Ledger, summary_at, ledger_in, LedgerInBounds}
use Rattle.ledger.proofs.Noted.{next_refused}
use Rattle.summaries.proofs.Counting.{tally_at, ledger_lines, ledger_number, ledger_stays, ledger_first, ledger_counts, lines_take}
use Rattle.summaries.proofs.Stretches.{none_longer, one_so_long}
use Rattle.summaries.proofs.Settles.{settled_zero}
use Rattle.summaries.proofs.Renumbered.{recount_without, recount_renumbered}

module _ (way : Way) (b : Book) where
  -- ---- THE RECORDS ARE A RECOUNT of the report's lines, up to the last call that is counted; calls the oldest first, as the report has them
  pub records_are_recounts : (calls : List Call) → length calls ≤ LAST_COUNTED → (p : ℕ) → p < length (properties b)
      → summary_at (ledger_in way b (reverse calls)) p ≡ recount p (lines_of b 0 (initial_in way b.rows) calls)
  records_are_recounts calls h p inside =
      let ls = lines_of b 0 (initial_in way b.rows) calls in
      ap (λ (l : Ledger). summary_at l p) (ledger_lines way b calls h) ∙ tally_at b ls p inside

  -- at any moment: after the first i calls, of the first i lines
  pub at_any_moment : (calls : List Call) (i : ℕ) → i ≤ LAST_COUNTED → (p : ℕ) → p < length (properties b)
      → summary_at (ledger_in way b (reverse (take i calls))) p ≡ recount p (take i (lines_of b 0 (initial_in way b.rows) calls))
  at_any_moment calls i h p inside =
      records_are_recounts (take i calls) (omega (arith, length-take i calls)) p inside ∙ ap (recount p) (lines_take b 0 (initial_in way b.rows) i calls)

  -- however many calls there were: of the lines up to that of the last call that is counted
  pub always_a_recount : (calls : List Call) (p : ℕ) → p < length (properties b)
      → summary_at (ledger_in way b (reverse calls)) p ≡ recount p (take LAST_COUNTED (lines_of b 0 (initial_in way b.rows) calls))
  always_a_recount calls p inside = ap (λ (l : Ledger). summary_at l p) (ledger_first way b calls) ∙ at_any_moment calls LAST_COUNTED (omega arith) p inside

  -- ---- from here on calls are the newest first
  -- EVERY CALL IS NUMBERED, refused ones, too
  pub every_call_numbered : (calls : List Call) → length calls ≤ LAST_COUNTED → (ledger_in way b calls).number ≡ length calls
  every_call_numbered calls h = omega (arith, ledger_number way b calls)

  -- that is all that a refused call changes
  pub refused_numbers_on : (calls : List Call) (k : Call) → length calls < LAST_COUNTED → ¬ ((call b.rows (after_in way b.rows calls) k).number ≡ ACCEPTED)
      → ledger_in way b (k ∷ calls) ≡ record { number = suc (ledger_in way b calls).number; accepted = (ledger_in way b calls).accepted; entries = (ledger_in way b calls).entries }
  unfolding ledger_in
  refused_numbers_on calls k h e =
      next_refused b (call b.rows (after_in way b.rows calls) k) (ledger_in way b calls) (omega (arith, ledger_number way b calls)) e

  -- AFTER THE LAST CALL THAT IS COUNTED number and records stay as they are
  pub stays_after : (more calls : List Call) → LAST_COUNTED ≤ length calls → ledger_in way b (more ++ calls) ≡ ledger_in way b calls
  stays_after = ledger_stays way b

  -- NOTHING WRAPS: there is a record for each property, and none of its numbers passes that of the last call, which never passes the last that is counted
  pub nothing_wraps : (calls : List Call) → LedgerInBounds (length (properties b)) (ledger_in way b calls)
  nothing_wraps = ledger_counts way b

  -- SETTLED at call 0 exactly if it is open now
  pub settled_at_none : Fit way b.rows → (calls : List Call) → length calls ≤ LAST_COUNTED → (p : ℕ) → p < length (properties b)
      → ((summary_at (ledger_in way b calls) p).settled ≡ 0) ↔ (settled b.rows (after_in way b.rows calls) (property_at b p) ≡ Open)
  settled_at_none fit calls h p inside = settled_zero way b fit p inside calls h

-- ---- THE LONGEST STRETCH: so many accepted lines in a row say that the property is false, and never more do
module _ (p : ℕ) (ls : List CallLine) where
  pub longest_reached : InARow (is_false p) (accepted_of ls) (recount p ls).longest
  unfolding recount
  longest_reached = one_so_long (is_false p) (accepted_of ls)

  pub longest_of_all : (n : ℕ) → InARow (is_false p) (accepted_of ls) n → n ≤ (recount p ls).longest
  unfolding recount
  longest_of_all n r = none_longer (is_false p) (accepted_of ls) n r

  -- ---- 0 CALLS FAILED: then none is named, which tells a printed summary from the line of an accepted call
  pub none_failed : (recount p ls).failed ≡ 0 → ((recount p ls).first ≡ 0) × ((recount p ls).last ≡ 0)
  unfolding recount
  none_failed e = go (numbers_if (is_false p) (accepted_of ls)) e
    where
      go : (ns : List ℕ) → length ns ≡ 0 → (first_of ns ≡ 0) × (last_of ns ≡ 0)
      go [] h = (refl, refl)
      go (n ∷ ns) h = absurd (omega arith)

-- ---- WHAT THE LIBRARY HANDS BACK, by what loading and the calls promise, the calls the newest first
module _ {way : Loading} {words : List ℕ} {calls : List Call} {m : List ℕ} (made : Made way words calls m) where
  -- the lines of those calls in a report
  abbrev lines_made : List CallLine
  lines_made = lines_of (book_said way words) 0 (initial_in (way_in way) (book_said way words).rows) (reverse calls)

  inside_said : (p : ℕ) → p < properties_in m → p < length (properties (book_said way words))
  inside_said p h = rw (← made_book made) h

  -- the summary of a property is always a recount of the lines, up to that of the last call that is counted
  pub summary_is_recount : (p : ℕ) → p < properties_in m → summary_of m p ≡ recount p (take LAST_COUNTED lines_made)
  summary_is_recount p h =
      ap (λ (l : Ledger). summary_at l p) (made_ledger made ∙ ap (ledger_in (way_in way) (book_said way words)) (sym (reverse-reverse calls)))
      ∙ always_a_recount (way_in way) (book_said way words) (reverse calls) p (inside_said p h)

  -- which is all of them, if there were no more calls
  pub summary_of_all : length calls ≤ LAST_COUNTED → (p : ℕ) → p < properties_in m → summary_of m p ≡ recount p lines_made
  summary_of_all few p h =
      ap (λ (l : Ledger). summary_at l p) (made_ledger made ∙ ap (ledger_in (way_in way) (book_said way words)) (sym (reverse-reverse calls)))
      ∙ records_are_recounts (way_in way) (book_said way words) (reverse calls) (omega (arith, length-reverse calls)) p (inside_said p h)

  -- so are the records that are stored into a lent list
  pub summaries_are_recounts : (out : List Summary) → properties_in m ≤ length out
      → summaries_list m out ≡ listed (λ p. recount p (take LAST_COUNTED lines_made)) (properties_in m) ++ drop (properties_in m) out
  unfolding summaries_list
  summaries_are_recounts out h =
      rw (le-ltb (length out) (properties_in m) h)
      (ap (λ rs. rs ++ drop (properties_in m) out) (listed_agree (summary_of m) (λ p. recount p (take LAST_COUNTED lines_made)) (properties_in m) summary_is_recount))

  -- every call is numbered, refused ones, too, up to the last that is counted
  pub number_is : (ledger_of m).number ≡ min (length calls) LAST_COUNTED
  number_is = ap (λ (l : Ledger). l.number) (made_ledger made) ∙ ledger_number (way_in way) (book_said way words) calls

  -- after which further calls leave number and summaries as they are
  pub ledger_stays_after : LAST_COUNTED ≤ length calls → (more : List Call) {m' : List ℕ} → Made way words (more ++ calls) m' → ledger_of m' ≡ ledger_of m
  ledger_stays_after h more later = made_ledger later ∙ stays_after (way_in way) (book_said way words) more calls h ∙ sym (made_ledger made)

  -- settled at call 0 exactly if it is open now
  pub settled_at_none_now : length calls ≤ LAST_COUNTED → (p : ℕ) → p < properties_in m → ((summary_of m p).settled ≡ 0) ↔ ((verdict_of m p).settled ≡ Open)
  settled_at_none_now few p h =
      rw (made_ledger made, settled_is made p) (settled_at_none (way_in way) (book_said way words) (words_fit way words) calls few p (inside_said p h))

-- ---- A REFUSED LINE LEAVES NO TRACE: without it, and the lines numbered anew, only the numbers of a summary's calls are new
pub refused_line_no_trace : (f : ℕ → ℕ) → f 0 ≡ 0 → (p : ℕ) (older : List CallLine) (l : CallLine) (newer : List CallLine) → ¬ (l.refusal ≡ ACCEPTED)
    → recount p (map (renumbered_line f) (older ++ newer)) ≡ renumbered f (recount p (older ++ l ∷ newer))
refused_line_no_trace f none p older l newer e =
    recount_renumbered f none p (older ++ newer) ∙ ap (renumbered f) (sym (recount_without p older l newer e))
