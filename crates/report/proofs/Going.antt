-- Laws of a report's calls, one after the other, and of the whole report. Assumes nothing.
use Prim.Native.Nat.{ℕ, zero, suc, ◌+◌, ◌-◌, ◌≤◌, ◌<◌}
use mathlib.Core.Path.{◌≡◌, refl, sym, ap, ap₂, ◌∙◌}
use mathlib.Core.List.{List, ◌++◌, append-nil}
use native.Mathlib.Omega.{arith}
use native.Mathlib.Numerals.{add-one}
use lib.ListN.{length, take}
use borrow.Author.Tests.{eq-eqb, ne_eqb, lt-ltb, le-ltb}
use Rattle.text.specs.Words.{next_word, supply_from}
use Rattle.std.proofs.Common.{Option, None, Result, Ok, Err}
use Rattle.numbers.specs.declared.Refusal.{Refusal}
use Rattle.numbers.specs.Refusals.{number_of, refused_with}
use Rattle.text.specs.declared.words.Word.{Word}
use Rattle.text.proofs.Supplies.{word, refused as ended}
use Rattle.pmtl.specs.Book.{Rows, Book}
use Rattle.pmtl.specs.Sets.{Way}
use Rattle.pmtl.specs.Monitor.{State, initial_in}
use Rattle.pmtl.specs.Calls.{Call, Outcome, call}
use Rattle.ledger.specs.Ledger.{Ledger, blank_ledger, next as nextLedger, ledger_from}
use Rattle.memory.specs.Memory.{book_of, state_of, ledger_of}
use Rattle.book.specs.Reading.{got, refused}
use Rattle.book.specs.declared.loading.Loading.{Loading}
use Rattle.book.specs.declared.strict.Excess.{Excess}
use Rattle.book.specs.Strict.{excess_by}
use Rattle.book.specs.Loading.{way_in, admitted}
use Rattle.book.proofs.Admitted.{accepted_within}
use Rattle.book.specs.Judging.{Loaded, whole as wholeBook, loaded}
use Rattle.memory.specs.Kept.{Kept}
use Rattle.text_reader.specs.declared.Part.{Part}
use Rattle.text_reader.specs.Reads.{BookTook, BookRead}
use Rattle.buffer_writer.specs.Buffer.{Handed}
use Rattle.buffer_writer.specs.Finish.{finish, Wrote}
use Rattle.report.specs.declared.text_calls.Turn.{Turn}
use Rattle.numbers.specs.Limits.{LONGEST_INPUT}
use Rattle.report.specs.Lines.{CallsRead, call_then, call_from, or_stop, ending_of, calls_from, calls_after, line_of, lines_of, end_lines, lines_from, call_lines, book_then, book_lines, lines}
use Rattle.report.specs.Report.{book_line, stop_line, call_line, last_line, line, written, report}
use Rattle.report.specs.Private.{CallMade, Turned}

outcome_is : {o : Outcome} {n : ℕ} {st : State} → n ≡ o.number → st ≡ o.state → o ≡ record { number = n; state = st }
outcome_is e f = rw (e, f)

-- the line of one call, and the lines after it
one_call : (b : Book) (done : ℕ) (st : State) (l : Ledger) (k : Call) (r : CallsRead) {o : Outcome} → call b.rows st k ≡ o
    → written (lines_from b done st l (call_then k r)) ≡ call_line (line_of b (suc done) o) ++ written (lines_from b (suc done) o.state (nextLedger b o l) r)
unfolding written line lines_from lines_of ledger_from
one_call b done st l k r e = ap (λ (o : Outcome). call_line (line_of b (suc done) o) ++ written (lines_from b (suc done) o.state (nextLedger b o l) r)) e

-- ---- the lines of the calls: so many are done, and what is still owed comes to what was owed at first
pub record Going (input : List ℕ) (from count : ℕ) (m₀ out₀ : List ℕ) (start : ℕ) (m out : List ℕ) (at cursor done : ℕ) : Type 0 where
  pub low : done ≤ count
  pub size : length out ≡ length out₀
  pub kept : Kept m
  pub book : book_of m ≡ book_of m₀
  pub on : (supply_from input cursor).ending ≡ (supply_from input from).ending
  pub owed : finish out at (written (lines_from (book_of m₀) done (state_of m) (ledger_of m) (calls_from (supply_from input from).ending (count - done) (supply_from input cursor).words))) ≡ finish out₀ start (written (lines_from (book_of m₀) 0 (state_of m₀) (ledger_of m₀) (calls_from (supply_from input from).ending count (supply_from input from).words)))

pub go_start : (input : List ℕ) (from count : ℕ) (m out : List ℕ) (start : ℕ) → Kept m → Going input from count m out start m out start from 0
go_start input from count m out start k =
    let e : count - 0 ≡ count = omega arith in
    record { low = omega arith; size = refl; kept = k; book = refl; on = refl; owed = rw e }

module _ {input : List ℕ} {from count : ℕ} {m₀ out₀ : List ℕ} {start : ℕ} {m out : List ℕ} {at cursor done : ℕ} (g : Going input from count m₀ out₀ start m out at cursor done) where
  abbrev Next : List ℕ → Result Turn Refusal → Type 0
  Next m' t = Turned input (supply_from input cursor).ending (call_from (supply_from input cursor).ending (supply_from input cursor).words) m m' t

  pub go_called : (m' : List ℕ) (t : Turn) → Next m' (Ok t) → CallMade input (supply_from input cursor).ending (call_from (supply_from input cursor).ending (supply_from input cursor).words) m m' (refused_with t.outcome) t.next
  unfolding Turned
  go_called m' t k = k

  module _ {m' : List ℕ} {r next : ℕ} (c : CallMade input (supply_from input cursor).ending (call_from (supply_from input cursor).ending (supply_from input cursor).words) m m' r next) where
    made : call (book_of m₀).rows (state_of m) c.what ≡ record { number = r; state = state_of m' }
    made = rw (← g.book) (outcome_is c.called.number c.called.state)

    noted : nextLedger (book_of m₀) (record { number = r; state = state_of m' }) (ledger_of m) ≡ ledger_of m'
    noted = ap (λ (o : Outcome). nextLedger (book_of m₀) o (ledger_of m)) (sym made) ∙ ap (λ (b : Book). nextLedger b (call b.rows (state_of m) c.what) (ledger_of m)) (sym g.book) ∙ sym c.called.ledger

    asked : call_from (supply_from input from).ending (supply_from input cursor).words ≡ got c.what (supply_from input next).words
    asked = rw g.on at c.read

    call_read : (k : ℕ) → calls_from (supply_from input from).ending (suc k) (supply_from input cursor).words ≡ call_then c.what (calls_from (supply_from input from).ending k (supply_from input next).words)
    unfolding calls_from or_stop
    call_read k = rw asked

    step : (k : ℕ) → count - done ≡ suc k → written (lines_from (book_of m₀) done (state_of m) (ledger_of m) (calls_from (supply_from input from).ending (count - done) (supply_from input cursor).words)) ≡ call_line (line_of (book_of m₀) (done + 1) (record { number = r; state = state_of m' })) ++ written (lines_from (book_of m₀) (done + 1) (state_of m') (ledger_of m') (calls_from (supply_from input from).ending k (supply_from input next).words))
    step k e =
        let rest = calls_from (supply_from input from).ending k (supply_from input next).words in
        rw (e, call_read k) (one_call (book_of m₀) done (state_of m) (ledger_of m) c.what rest made)
        ∙ ap₂ (λ (n : ℕ) (l : Ledger). call_line (line_of (book_of m₀) n (record { number = r; state = state_of m' })) ++ written (lines_from (book_of m₀) n (state_of m') l rest)) (sym (add-one done)) noted

    pub go_more : {out' : List ℕ} {at' : ℕ} → done < count → Wrote out at (call_line (line_of (book_of m') (done + 1) (record { number = r; state = state_of m' }))) out' at' → length out' ≡ length out → Going input from count m₀ out₀ start m' out' at' next (done + 1)
    go_more h w z =
        let b : book_of m' ≡ book_of m₀ = c.called.book ∙ g.book in
        let w' = rw b at w in
        record {
          low = omega arith;
          size = z ∙ g.size;
          kept = c.called.kept;
          book = b;
          on = c.ending_on ∙ g.on;
          owed = sym (w'.same (written (lines_from (book_of m₀) (done + 1) (state_of m') (ledger_of m') (calls_from (supply_from input from).ending (count - (done + 1)) (supply_from input next).words)))) ∙ sym (ap (finish out at) (step (count - (done + 1)) (omega arith))) ∙ g.owed;
        }

  halt : {n : ℕ} (k : ℕ) → call_from (supply_from input cursor).ending (supply_from input cursor).words ≡ refused n → count - done ≡ suc k → written (lines_from (book_of m₀) done (state_of m) (ledger_of m) (calls_from (supply_from input from).ending (count - done) (supply_from input cursor).words)) ≡ stop_line n
  unfolding written line last_line lines_from lines_of end_lines calls_from or_stop
  halt {n} k e f = let a = rw g.on at e in rw (f, a) (append-nil (stop_line n))

  go_refused : (m' : List ℕ) (r : Refusal) → Next m' (Err r) → call_from (supply_from input cursor).ending (supply_from input cursor).words ≡ refused (number_of r)
  unfolding Turned
  go_refused m' r k = k

  pub go_stop : (m' : List ℕ) (r : Refusal) {h : Handed} → Next m' (Err r) → done < count → h ≡ finish out at (stop_line (number_of r)) → h ≡ finish out₀ start (written (lines_from (book_of m₀) 0 (state_of m₀) (ledger_of m₀) (calls_from (supply_from input from).ending count (supply_from input from).words)))
  go_stop m' r c l p = p ∙ sym (ap (finish out at) (halt (count - (done + 1)) (go_refused m' r c) (omega arith))) ∙ g.owed

  none : count - done ≡ zero → written (lines_from (book_of m₀) done (state_of m) (ledger_of m) (calls_from (supply_from input from).ending (count - done) (supply_from input cursor).words)) ≡ written (end_lines (ledger_of m) (ending_of (supply_from input from).ending (supply_from input cursor).words))
  unfolding lines_from lines_of ledger_from calls_from
  none e = rw e

  pub go_end : {h : Handed} → count ≤ done → h ≡ finish out at (written (end_lines (ledger_of m) (ending_of (supply_from input cursor).ending (supply_from input cursor).words))) → h ≡ finish out₀ start (written (lines_from (book_of m₀) 0 (state_of m₀) (ledger_of m₀) (calls_from (supply_from input from).ending count (supply_from input from).words)))
  go_end {h} l p = let q = rw g.on at p in q ∙ sym (ap (finish out at) (none (omega arith))) ∙ g.owed

-- ---- the calls after their count
module _ (input : List ℕ) (cursor : ℕ) (out : List ℕ) (at : ℕ) (way : Way) (b : Book) where
  pub no_count : {h : Handed} {r : Refusal} → next_word input cursor ≡ Err r → h ≡ finish out at (stop_line (number_of r)) → h ≡ finish out at (written (call_lines way b (supply_from input cursor).ending (supply_from input cursor).words))
  unfolding written line last_line lines_from lines_of end_lines call_lines calls_after
  no_count {h} e p = let s = ended input cursor e in p ∙ rw (s, append-nil)

  pub after_count : {h : Handed} {count : Word} {st : State} {l : Ledger} → next_word input cursor ≡ Ok count → st ≡ initial_in way b.rows → l ≡ blank_ledger b → h ≡ finish out at (written (lines_from b 0 st l (calls_from (supply_from input count.next).ending count.number (supply_from input count.next).words))) → h ≡ finish out at (written (call_lines way b (supply_from input cursor).ending (supply_from input cursor).words))
  unfolding call_lines calls_after
  after_count {h} e f k p = let s = (word input cursor e).gave in p ∙ rw (s, f, k)

-- ---- the book, and what follows it
-- a fresh monitor is in the way that its book was loaded for
pub way_loaded : {st : State} (way : Way) (b : Rows) → st ≡ initial_in way b → st.way ≡ way
unfolding initial_in
way_loaded way b e = ap (λ (st : State). st.way) e

pub fresh_in : {st : State} (way : Way) {b b' : Book} → b' ≡ b → st ≡ initial_in way b.rows → st ≡ initial_in st.way b'.rows
fresh_in way {b} f e = e ∙ ap₂ (λ (way : Way) (b : Book). initial_in way b.rows) (sym (way_loaded way b.rows e)) (sym f)

pub blank_in : {l : Ledger} {b b' : Book} → b' ≡ b → l ≡ blank_ledger b → l ≡ blank_ledger b'
blank_in f e = e ∙ ap blank_ledger (sym f)

module _ (way : Loading) (l : Loaded) (ending : ℕ) (ws : List ℕ) where
  pub book_accepted : {out out₁ : List ℕ} {at n : ℕ} {h : Handed} {w : Way} {b : Book} → Wrote out 0 (book_line n None) out₁ at → n ≡ 0 → n ≡ (admitted way l).number → b ≡ (admitted way l).book → w ≡ way_in way
      → h ≡ finish out₁ at (written (call_lines w b ending ws)) → h ≡ finish out 0 (written (book_then way l ending ws))
  unfolding written line book_then
  book_accepted {out} w z e f g p =
      let y : (admitted way l).number ≡ 0 = sym e ∙ z in
      p ∙ sym (w.same (written (call_lines _ _ ending ws)))
      ∙ rw (eq-eqb (admitted way l).number 0 y, e, f, g)
      (ap (λ (x : Option Excess). finish out 0 (book_line (admitted way l).number x ++ written (call_lines (way_in way) (admitted way l).book ending ws))) (sym (accepted_within way l y)))

  pub book_refused : (out : List ℕ) {n : ℕ} {x : Option Excess} {h : Handed} → (n ≡ 0 → ⊥) → n ≡ (admitted way l).number → x ≡ excess_by way l.book.rows
      → h ≡ finish out 0 (book_line n x) → h ≡ finish out 0 (written (book_then way l ending ws))
  unfolding written line book_then
  book_refused out {n} z e f p =
      let y : (admitted way l).number ≡ 0 → ⊥ = λ q. z (e ∙ q) in
      p ∙ rw (ne_eqb (admitted way l).number 0 y, e, f, append-nil)

-- ---- the whole report
pub book_there : (input m : List ℕ) {p : Part} → BookRead input m (Ok p) → BookTook input m p.end p.next
unfolding BookRead
book_there input m q = q

module _ (way : Loading) (input : List ℕ) where
  pub too_long : LONGEST_INPUT < length input → stop_line 2 ≡ report way input
  unfolding report lines written line last_line
  too_long h = rw (lt-ltb LONGEST_INPUT (length input) h, append-nil)

  module _ (fits : length input ≤ LONGEST_INPUT) where
    pub no_book : (m : List ℕ) (r : Refusal) → BookRead input m (Err r) → book_line (number_of r) None ≡ report way input
    unfolding report lines book_lines written line BookRead
    no_book m r q = rw (le-ltb LONGEST_INPUT (length input) fits, q, append-nil)

    pub of_book : {m : List ℕ} {end next : ℕ} → BookTook input m end next → written (book_then way (loaded (take end m)) (supply_from input next).ending (supply_from input next).words) ≡ report way input
    unfolding report lines book_lines loaded wholeBook
    of_book k = rw (le-ltb LONGEST_INPUT (length input) fits, k.read, k.ending, k.stand)
