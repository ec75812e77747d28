-- How long a report gets. Assumes nothing.
use Prim.Native.Nat.{ℕ, zero, suc, ◌+◌, ◌*◌, ◌≤◌, ◌<◌}
use native.Mathlib.Omega.{arith}
use native.Mathlib.Decide.{dec_lt, ℕ_discrete}
use borrow.Author.Tests.{eq-eqb, ne_eqb, lt-ltb}
use mathlib.Core.Path.{◌≡◌, refl, sym, ap, ◌∙◌}
use mathlib.Core.Bool.{Bool, true, false, cond, not, ◌&&◌}
use mathlib.Core.List.{List, [], ◌∷◌, ◌++◌, map, map-append}
use lib.Dec.{leb, ltb, eqb}
use lib.ListN.{length, length-append}
use Rattle.numbers.specs.Limits.{LAST_TIME, LONGEST_INPUT, LONGEST_REPORT, MOST_RUNS, MOST_ATOMS, MOST_PROPERTIES, MOST_TEMPORALS}
use Rattle.numbers.specs.Refusals.{ACCEPTED, PAST_LIMIT}
use Rattle.lists.specs.Lists.{listed}
use Rattle.lists.proofs.Listed.{listed_length}
use Rattle.text.specs.Words.{supply}
use Rattle.text.specs.Decimals.{decimal}
use Rattle.text.proofs.Digits.{at_most, at_most_20}
use Rattle.pmtl.specs.Book.{Rows, Book, properties, width_of, some}
use Rattle.pmtl.specs.Monitor.{Snap, State, fullest, initial_in, step_in}
use Rattle.pmtl.specs.Calls.{Call, time, state, stamped, turns, time_refusal, state_refusal, first_of as firstNumber, refusal, crowded, Outcome, play, call}
use Rattle.pmtl.proofs.Fullest.{fresh_none, call_few}
use Rattle.book.specs.Rows.{temporal}
use Rattle.book.specs.Reading.{Read, got, refused, Sections}
use Rattle.book.specs.declared.loading.Loading.{Loading}
use Rattle.std.specs.Prelude.{Option, Some, None}
use Rattle.book.specs.declared.strict.Excess.{Excess}
use Rattle.book.specs.Strict.{over, excess_by}
use Rattle.book.specs.Loading.{way_in, admitted}
use Rattle.book.proofs.Excess.{excess_small}
use Rattle.book.proofs.Admitted.{admitted_all}
use Rattle.book.specs.Judging.{Loaded, first_of, first_to, form_good, range_good, kind_in, arg_in, lower_in, upper_in, temporals_in, rows_in, row_number, links_good, used_once, judged, book_in, refused_with, loaded_from}
use Rattle.property_answers.specs.Verdict.{verdict_in}
use Rattle.ledger.specs.declared.Summary.{Summary}
use Rattle.ledger.specs.Ledger.{LAST_COUNTED, Ledger, blank_ledger, summary_at, next as nextLedger, ledger_from, LedgerInBounds}
use Rattle.ledger.proofs.Noted.{blank_counts, next_counts}
use Rattle.report.specs.Lines.{PropertyWord, nothing, told, CallLine, Ending, end, stop, Line, book, called, summed, last, word_of, CallsRead, calls_after, rest_of, line_of, lines_of, summaries_of, end_lines, lines_from, lines}
use Rattle.report.specs.Report.{excess_words, book_line, stop_line, end_line, last_line, property_word, property_words, rest_words, call_line, summary_line, line, written, report}
use Rattle.summaries.proofs.Counting.{from_blank}
use Rattle.slip.specs.Says.{sections_said, final_line}
use Rattle.slip.specs.Longest.{most_calls, WORD_BYTES, COUNT_BYTES, LINE_BYTES, FIRST_BYTES, LAST_BYTES, SUMMARY_BYTES, END_BYTES, longest, longest_stopped}
use Rattle.text.proofs.Few.{few_words, small_ending}
use Rattle.slip.proofs.Words.{Few, sections_got, sections_refused}
use Rattle.slip.proofs.Calls.{EndsSmall, after_read, few_calls}
use Rattle.slip.proofs.Places.{lines_length as each_line, lines_loaded, lines_refused, lines_unread, whole_of, read_as}
use Rattle.slip.proofs.Recounted.{final_said}

-- ---- refusals have at most two digits
either_small : (z : Bool) {n m : ℕ} → n < 100 → m < 100 → cond z n m < 100
either_small true p q = p
either_small false p q = q

small_time : (now : Snap) (t : ℕ) → time_refusal now t < 100
small_time now t = either_small (ltb t now.clock) (omega arith) (either_small (ltb LAST_TIME t) (omega arith) (omega arith))

small_state : (b : Rows) (bytes : List ℕ) → state_refusal b bytes < 100
small_state b bytes =
    either_small (ltb MOST_ATOMS (length bytes)) (omega arith)
    (either_small (ltb (length bytes) (width_of b)) (omega arith)
    (either_small (ltb (width_of b) (length bytes)) (omega arith) (either_small (some (ltb 1) bytes) (omega arith) (omega arith))))

small_refusal : (b : Rows) (now : Snap) (k : Call) → refusal b now k < 100
unfolding refusal firstNumber
small_refusal b now (time t) = small_time now t
small_refusal b now (state bytes) = small_state b bytes
small_refusal b now (stamped t bytes) = either_small (eqb (time_refusal now t) 0) (small_state b bytes) (small_time now t)

small_play : (b : Rows) (old st : State) (ns : List Snap) → (play b old st ns).number < 100
unfolding play
small_play b old st [] = omega arith
small_play b old st (n ∷ ns) = go (crowded (step_in b st n)) (small_play b old (step_in b st n) ns)
  where
    go : (z : Bool) → (play b old (step_in b st n) ns).number < 100
        → (elim z as (λ x. Outcome) [ true ↦ record { number = 11; state = old } | false ↦ play b old (step_in b st n) ns ]).number < 100
    go true h = omega arith
    go false h = h

small_call : (b : Rows) (st : State) (k : Call) → (call b st k).number < 100
unfolding call
small_call b st k = go (eqb (refusal b st.now k) 0)
  where
    go : (z : Bool) → (elim z as (λ x. Outcome) [ true ↦ play b st st (turns st.now k) | false ↦ record { number = refusal b st.now k; state = st } ]).number < 100
    go true = small_play b st st (turns st.now k)
    go false = small_refusal b st.now k

small_first : (n m : ℕ) → n < 100 → m < 100 → first_of n m < 100
small_first zero m p q = q
small_first (suc n) m p q = p

small_firsts : (f : ℕ → ℕ) → ((r : ℕ) → f r < 100) → (n : ℕ) → first_to f n < 100
unfolding first_to
small_firsts f h zero = omega arith
small_firsts f h (suc n) = small_first (first_to f n) (f n) (small_firsts f h n) (h n)

small_row : (ws : List ℕ) (r : ℕ) → row_number ws r < 100
unfolding row_number
small_row ws r =
    either_small (not (form_good (kind_in ws r) (arg_in ws r) (lower_in ws r) (upper_in ws r))) (omega arith)
    (either_small (not (range_good (lower_in ws r) (upper_in ws r))) (omega arith)
    (either_small (temporal (kind_in ws r) && leb MOST_TEMPORALS (temporals_in ws r)) (omega arith) (omega arith)))

small_judged : (s : Sections) → judged s < 100
unfolding judged
small_judged s = small_first (first_to (row_number s.rows) (rows_in s)) _ (small_firsts (row_number s.rows) (small_row s.rows) (rows_in s)) (either_small (not (links_good s)) (omega arith) (either_small (not (used_once s)) (omega arith) (omega arith)))

-- a book that is loaded has a small number, and few properties
record Loads (l : Loaded) : Type 0 where
  small : l.number < 100
  few : length (properties l.book) ≤ MOST_PROPERTIES

loads : (s : Sections) → Few s → Loads (loaded_from s)
unfolding loaded_from book_in
loads s f = go (eqb (judged s) ACCEPTED)
  where
    go : (z : Bool) → Loads (elim z as (λ x. Loaded) [ true ↦ record { number = ACCEPTED; book = book_in s } | false ↦ refused_with (judged s) ])
    go true = record { small = omega arith; few = omega (arith, length-append s.assumes s.guarantees) }
    go false = record { small = small_judged s; few = omega arith }

-- ---- lines
two_digits : (n : ℕ) → n < 100 → length (decimal n) ≤ 2
two_digits n h = at_most 1 n (omega arith)

five_digits : (n : ℕ) → n < 100000 → length (decimal n) ≤ 5
five_digits n h = at_most 4 n (omega arith)

words_length : (ws : List PropertyWord) → length (property_words ws) ≡ length ws * 4
unfolding property_words property_word
words_length [] = refl
words_length (w ∷ ws) = let h = words_length ws in omega arith

book_length : (n : ℕ) → n < 100 → length (book_line n None) ≤ LAST_BYTES
unfolding book_line excess_words
book_length n h = simp length-append (omega (arith, two_digits n h))

-- a row of an input that is not too long has at most five digits, and what it can need at most twenty
over_length : (n row count : ℕ) → n < 100 → row < 100000 → count ≤ LAST_TIME + 1 → length (book_line n (Some (over row count))) ≤ 35
unfolding book_line excess_words
over_length n row count h k l = simp length-append (omega (arith, two_digits n h, five_digits row k, at_most_20 count (omega arith)))

first_length : length (book_line ACCEPTED None) ≤ FIRST_BYTES
unfolding book_line excess_words
first_length = simp length-append (omega (arith, at_most 0 ACCEPTED (omega arith)))

after_book : (ls : List Line) → length (written (book ACCEPTED None ∷ ls)) ≤ FIRST_BYTES + length (written ls)
unfolding written line
after_book ls = omega (arith, length-append (book_line ACCEPTED None) (written ls), first_length)

last_length : (e : Ending) → EndsSmall e → length (last_line e) ≤ LAST_BYTES
unfolding last_line stop_line end_line EndsSmall
last_length end h = omega arith
last_length (stop n) h = simp length-append (omega (arith, two_digits n h))

-- the words of the properties, and the count
told_length : (ws : List PropertyWord) (count : ℕ) → length ws ≤ MOST_PROPERTIES → count ≤ MOST_RUNS → length (rest_words (told ws count)) ≤ WORD_BYTES * MOST_PROPERTIES + COUNT_BYTES
unfolding rest_words
told_length ws count few full = simp length-append (omega (arith, words_length ws, two_digits count (omega arith)))

-- the refusal, and what follows it
after_number : (b : Book) (i : ℕ) (o : Outcome) → length (properties b) ≤ MOST_PROPERTIES → o.number < 100 → fullest o.state ≤ MOST_RUNS
    → length (decimal (line_of b i o).refusal) + length (rest_words (line_of b i o).rest) ≤ 1 + WORD_BYTES * MOST_PROPERTIES + COUNT_BYTES
unfolding line_of rest_words
after_number b i o few small full = go (ℕ_discrete o.number ACCEPTED)
  where
    go : Dec (o.number ≡ ACCEPTED) → length (decimal o.number) + length (rest_words (cond (eqb o.number ACCEPTED) (rest_of b o.state) nothing)) ≤ 1 + WORD_BYTES * MOST_PROPERTIES + COUNT_BYTES
    go (yes z) =
        let n = listed_length (λ p. word_of (verdict_in b o.state p)) (length (properties b)) in
        let t = told_length (listed (λ p. word_of (verdict_in b o.state p)) (length (properties b))) (fullest o.state) (omega arith) (omega arith) in
        rw (eq-eqb o.number ACCEPTED z) (omega (arith, at_most 0 o.number (omega arith)))
    go (no z) = rw (ne_eqb o.number ACCEPTED z) (omega (arith, two_digits o.number small))

call_length : (l : CallLine) → l.number < 100000 → length (decimal l.refusal) + length (rest_words l.rest) ≤ 1 + WORD_BYTES * MOST_PROPERTIES + COUNT_BYTES → length (call_line l) ≤ LINE_BYTES
unfolding call_line
call_length l h w =
    let d = five_digits l.number h in
    simp length-append (omega arith)

its_length : (b : Book) (i : ℕ) (o : Outcome) → length (properties b) ≤ MOST_PROPERTIES → i < 100000 → o.number < 100 → fullest o.state ≤ MOST_RUNS → length (call_line (line_of b i o)) ≤ LINE_BYTES
unfolding line_of
its_length b i o few h k full = call_length (line_of b i o) h (after_number b i o few k full)

lines_length : (b : Book) (after : List Line) → length (properties b) ≤ MOST_PROPERTIES → (ks : List Call) (done : ℕ) (st : State) → fullest st ≤ MOST_RUNS → done + length ks < 100000
    → length (written (map called (lines_of b done st ks) ++ after)) ≤ length ks * LINE_BYTES + length (written after)
unfolding written line lines_of
lines_length b after few [] done st full h = omega arith
lines_length b after few (k ∷ ks) done st full h =
    let o = call b.rows st k in
    let full' = call_few b.rows st k full in
    let c = its_length b (suc done) o few (omega arith) (small_call b.rows st k) full' in
    let r = lines_length b after few ks (suc done) o.state full' (omega arith) in
    simp length-append (omega arith)

-- ---- the lines after the calls
summary_length : (s : Summary) → s.accepted < 100000 → s.failed < 100000 → s.first < 100000 → s.last < 100000 → s.longest < 100000 → s.settled < 100000 → length (summary_line s) ≤ SUMMARY_BYTES
unfolding summary_line
summary_length s a b c d e f =
    simp length-append
    (omega (arith, five_digits s.accepted a, five_digits s.failed b, five_digits s.first c, five_digits s.last d, five_digits s.longest e, five_digits s.settled f))

written_append : (xs ys : List Line) → length (written (xs ++ ys)) ≡ length (written xs) + length (written ys)
unfolding written
written_append [] ys = omega arith
written_append (x ∷ xs) ys = let h = written_append xs ys in simp length-append (omega arith)

summaries_length : (f : ℕ → Summary) (n : ℕ) → ((p : ℕ) → p < n → length (summary_line (f p)) ≤ SUMMARY_BYTES) → length (written (map summed (listed f n))) ≤ SUMMARY_BYTES * n
unfolding written line listed
summaries_length f zero h = omega arith
summaries_length f (suc n) h =
    let r = summaries_length f n (λ p l. h p (omega arith)) in
    rw (map-append summed (listed f n) (f n ∷ [])) (omega (arith, h n (omega arith), written_append (map summed (listed f n)) (summed (f n) ∷ []), length-append (summary_line (f n)) []))

end_bytes : length (last_line end) ≡ 4
unfolding last_line end_line
end_bytes = refl

-- what there is room for after the calls
room_after : Ending → ℕ
room_after end = END_BYTES
room_after (stop n) = LAST_BYTES

room_most : (e : Ending) → room_after e ≤ END_BYTES
unfolding room_after
room_most end = omega arith
room_most (stop n) = omega arith

module _ (count : ℕ) (l : Ledger) (bounds : LedgerInBounds count l) (few : count ≤ MOST_PROPERTIES) (small : l.number < 100000) where
  summary_small : (p : ℕ) → p < length l.entries → length (summary_line (summary_at l p)) ≤ SUMMARY_BYTES
  summary_small p h =
      let e = bounds.entries p (omega (arith, bounds.each)) in
      let a = bounds.accepted in
      summary_length (summary_at l p) (omega (arith, a)) (omega (arith, a, e.failed)) (omega (arith, e.first, e.last)) (omega (arith, e.last)) (omega (arith, a, e.failed, e.longest)) (omega (arith, e.settled))

  end_length : (e : Ending) → EndsSmall e → length (written (end_lines l e)) ≤ room_after e
  unfolding written line end_lines room_after
  end_length end s =
      let all = summaries_length (summary_at l) (length l.entries) summary_small in
      omega (arith, all, bounds.each, written_append (map summed (summaries_of l)) (last end ∷ []), length-append (last_line end) [], end_bytes)
  end_length (stop n) s = simp length-append (omega (arith, last_length (stop n) s))

-- of the ledger of calls
from_counts : (b : Book) (st : State) (l : Ledger) (ks : List Call) → LedgerInBounds (length (properties b)) l → LedgerInBounds (length (properties b)) (ledger_from b st l ks)
unfolding ledger_from
from_counts b st l [] h = h
from_counts b st l (k ∷ ks) h = from_counts b (call b.rows st k).state (nextLedger b (call b.rows st k) l) ks (next_counts b (call b.rows st k) l h)

calls_number : (b : Book) (st : State) (ks : List Call) → length ks ≤ LAST_COUNTED → (ledger_from b st (blank_ledger b) ks).number ≡ length ks
calls_number b st ks h = ap (λ (l : Ledger). l.number) (from_blank b st ks h) ∙ each_line b 0 st ks

-- ---- reports
-- a line alone
lone_book : (n room : ℕ) → n < 100 → length (written (book n None ∷ [])) ≤ longest room
unfolding written line
lone_book n room h = simp length-append (omega (arith, book_length n h))

-- a book that is loaded in a way
loads_by : (way : Loading) (s : Sections) → Few s → Loads (admitted way (loaded_from s))
loads_by way s f = admitted_all Loads (record { small = omega arith; few = omega arith }) (record { small = omega arith; few = omega arith }) way (loaded_from s) (loads s f)

module _ (way : Loading) (input : List ℕ) where
  whole_length : {s : Sections} {ws : List ℕ} → length input ≤ LONGEST_INPUT → sections_said input ≡ got s ws → (admitted way (loaded_from s)).number ≡ ACCEPTED
      → length (report way input) ≤ FIRST_BYTES + most_calls (length input) * LINE_BYTES + room_after (calls_after (supply input).ending ws).ends
  unfolding report lines_from
  whole_length {s} {ws} f e z =
      let ending = (supply input).ending in
      let g = sections_got ending (small_ending input) (supply input).words e in
      let c = after_read ending (small_ending input) ws in
      let b = (admitted way (loaded_from s)).book in
      let ks = (calls_after ending ws).calls in
      let st = initial_in (way_in way) b.rows in
      let l = ledger_from b st (blank_ledger b) ks in
      let few = few_calls input e in
      let props = (loads_by way s g.0).few in
      let number = calls_number b st ks (omega arith) in
      let after = end_length (length (properties b)) l (from_counts b st (blank_ledger b) ks (blank_counts b)) props (omega arith) (calls_after ending ws).ends c.0 in
      let cs = lines_of b 0 st ks in
      let called-lines = lines_length b (end_lines l (calls_after ending ws).ends) props ks 0 st (omega (arith, fresh_none (way_in way) b.rows)) (omega arith) in
      rw (lines_loaded way input f e z) (omega (arith, after_book (map called cs ++ end_lines l (calls_after ending ws).ends), called-lines, after))

  -- a refused book's line alone. Where a row of it is named, the input has the words of a row, and so there would be room for a call's line
  refused_length : (s : Sections) (ws : List ℕ) → length input ≤ LONGEST_INPUT → sections_said input ≡ got s ws → (e : Option Excess) → excess_by way (loaded_from s).book.rows ≡ e
      → length (written (book (admitted way (loaded_from s)).number e ∷ [])) ≤ longest (length input)
  unfolding written line
  refused_length s ws f e None h =
      let g = sections_got (supply input).ending (small_ending input) (supply input).words e in
      lone_book (admitted way (loaded_from s)).number (length input) (loads_by way s g.0).small
  refused_length s ws f e (Some o) h =
      let g = sections_got (supply input).ending (small_ending input) (supply input).words e in
      let x = excess_small way s h in
      let rows : 4 ≤ length s.rows = omega (arith, x.row) in
      let far : 15 ≤ length input = omega (arith, g.1, few_words input) in
      let near : o.row < 100000 = omega (arith, x.row, g.1, few_words input) in
      let l = over_length (admitted way (loaded_from s)).number o.row o.count (loads_by way s g.0).small near x.count in
      simp length-append (omega arith)

  by_number : (s : Sections) (ws : List ℕ) → length input ≤ LONGEST_INPUT → sections_said input ≡ got s ws → Dec ((admitted way (loaded_from s)).number ≡ ACCEPTED)
      → length (report way input) ≤ longest (length input)
  unfolding report
  by_number s ws f e (yes z) = omega (arith, whole_length f e z, room_most (calls_after (supply input).ending ws).ends)
  by_number s ws f e (no z) = rw (lines_refused way input f e z) (refused_length s ws f e (excess_by way (loaded_from s).book.rows) refl)

  by_read : (r : Read Sections) → length input ≤ LONGEST_INPUT → sections_said input ≡ r → length (report way input) ≤ longest (length input)
  unfolding report
  by_read (got s ws) f e = by_number s ws f e (ℕ_discrete (admitted way (loaded_from s)).number ACCEPTED)
  by_read (refused n) f e =
      rw (lines_unread way input f e) (lone_book n (length input) (sections_refused (supply input).ending (small_ending input) (supply input).words e).1)

  stop_length : LONGEST_INPUT < length input → length (report way input) ≤ LAST_BYTES
  unfolding report lines written line EndsSmall
  stop_length h = rw (lt-ltb LONGEST_INPUT (length input) h) (simp length-append (omega (arith, last_length (stop PAST_LIMIT) (omega arith))))

  pub at_most_longest : length (report way input) ≤ longest (length input)
  at_most_longest = go (dec_lt LONGEST_INPUT (length input))
    where
      go : Dec (LONGEST_INPUT < length input) → length (report way input) ≤ longest (length input)
      go (yes h) = omega (arith, stop_length h)
      go (no h) = by_read (sections_said input) (omega arith) refl

  -- where it ends with `stop`
  pub at_most_stopped : {n : ℕ} → final_line (lines way input) ≡ last (stop n) → length (report way input) ≤ longest_stopped (length input)
  unfolding final_line room_after
  at_most_stopped {n} h = go (dec_lt LONGEST_INPUT (length input))
    where
      not_book : {m : ℕ} {x : Option Excess} → book m x ≡ last (stop n) → ⊥
      not_book h = let z : ◌≡◌ {A = ℕ} 0 1 = cc in omega arith

      not_end : last end ≡ last (stop n) → ⊥
      not_end h = let z : ◌≡◌ {A = ℕ} 0 1 = cc in omega arith

      by_end : {s : Sections} {ws : List ℕ} → length input ≤ LONGEST_INPUT → sections_said input ≡ got s ws → (admitted way (loaded_from s)).number ≡ ACCEPTED → (e : Ending) → (calls_after (supply input).ending ws).ends ≡ e
          → length (report way input) ≤ longest_stopped (length input)
      by_end f e z end y = absurd (not_end (ap last (sym y) ∙ ap last (sym (ap (λ (r : CallsRead). r.ends) (read_as way input e))) ∙ sym (final_said way input (whole_of way input f e z)) ∙ h))
      by_end f e z (stop m) y = rw y at (whole_length f e z)

      by_loaded : (s : Sections) (ws : List ℕ) → length input ≤ LONGEST_INPUT → sections_said input ≡ got s ws → Dec ((admitted way (loaded_from s)).number ≡ ACCEPTED) → length (report way input) ≤ longest_stopped (length input)
      by_loaded s ws f e (yes z) = by_end f e z (calls_after (supply input).ending ws).ends refl
      by_loaded s ws f e (no z) = absurd (not_book (ap final_line (sym (lines_refused way input f e z)) ∙ h))

      by_sections : (r : Read Sections) → length input ≤ LONGEST_INPUT → sections_said input ≡ r → length (report way input) ≤ longest_stopped (length input)
      by_sections (got s ws) f e = by_loaded s ws f e (ℕ_discrete (admitted way (loaded_from s)).number ACCEPTED)
      by_sections (refused m) f e = absurd (not_book (ap final_line (sym (lines_unread way input f e)) ∙ h))

      go : Dec (LONGEST_INPUT < length input) → length (report way input) ≤ longest_stopped (length input)
      go (yes l) = omega (arith, stop_length l)
      go (no l) = by_sections (sections_said input) (omega arith) refl

  pub room_enough : length (report way input) ≤ LONGEST_REPORT
  room_enough = go (dec_lt LONGEST_INPUT (length input))
    where
      go : Dec (LONGEST_INPUT < length input) → length (report way input) ≤ LONGEST_REPORT
      go (yes h) = omega (arith, stop_length h)
      go (no h) = omega (arith, at_most_longest)
