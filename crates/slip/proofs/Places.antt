-- Where a call's line stands, and what it says. Assumes nothing.
use Prim.Native.Nat.{ℕ, zero, suc, ◌+◌, ◌≤◌, ◌<◌}
use native.Mathlib.Omega.{arith}
use native.Mathlib.Decide.{dec_lt, ℕ_discrete}
use mathlib.Core.Path.{◌≡◌, refl, sym, ap, ap₂, ◌∙◌}
use mathlib.Core.List.{List, [], ◌∷◌, ◌++◌, map, reverse, reverse_aux}
use lib.ListN.{length, get_or, take}
use borrow.Author.Tests.{eq-eqb, ne_eqb, lt-ltb, le-ltb}
use Rattle.numbers.specs.Limits.{LONGEST_INPUT}
use Rattle.numbers.specs.Refusals.{ACCEPTED}
use Rattle.text.specs.Words.{supply}
use Rattle.pmtl.specs.Book.{Book, properties}
use Rattle.pmtl.specs.Sets.{Way}
use Rattle.pmtl.specs.Monitor.{State, initial_in}
use Rattle.pmtl.specs.Calls.{Call, Outcome, call, after_in}
use Rattle.book.specs.Reading.{Read, got, refused, Sections}
use Rattle.book.specs.declared.loading.Loading.{Loading}
use Rattle.std.specs.Prelude.{Option, None}
use Rattle.book.specs.declared.strict.Excess.{Excess}
use Rattle.book.specs.Strict.{excess_by}
use Rattle.book.specs.Loading.{way_in, admitted}
use Rattle.book.proofs.Admitted.{accepted_within}
use Rattle.book.specs.Judging.{Loaded, loaded_from}
use Rattle.lists.specs.Lists.{listed}
use Rattle.lists.proofs.Listed.{listed_length, listed_agree}
use Rattle.ledger.specs.declared.Summary.{Summary}
use Rattle.ledger.specs.Ledger.{LAST_COUNTED, blank_ledger, summary_at, ledger_from}
use Rattle.report.specs.Lines.{CallLine, Ending, end, stop, Line, book, called, summed, last, CallsRead, calls_after, line_of, lines_of, summaries_of, end_lines, lines_from, call_lines, book_then, book_lines, lines}
use Rattle.slip.specs.Says.{sections_said, loaded_of, excess_of, book_said, words_after, read_said, calls_said, end_said, no_line, no_call_line, missing_call, recounts, closing, Whole, Shape}
use Rattle.slip.specs.Says.Shape.{whole, refused_book, too_long}
use Rattle.text.proofs.Few.{small_ending}
use Rattle.summaries.specs.Recount.{recount}
use Rattle.summaries.proofs.Appended.{entry_from}
use Rattle.summaries.proofs.Counting.{tally, tally_at, from_blank}
use Rattle.slip.proofs.Words.{sections_refused}
use Rattle.slip.proofs.Calls.{few_calls}

-- ---- a call's line among the others
not_book : {n : ℕ} {e : Option Excess} {l : CallLine} → book n e ≡ called l → ⊥
not_book h = let z : ◌≡◌ {A = ℕ} 0 1 = cc in omega arith

not_last : {e : Ending} {l : CallLine} → last e ≡ called l → ⊥
not_last h = let z : ◌≡◌ {A = ℕ} 0 1 = cc in omega arith

-- a line alone that is no call's
lone_line : (x : Line) (l : CallLine) → (x ≡ called l → ⊥) → (i : ℕ) → get_or (x ∷ []) i no_line ≡ called l → ⊥
lone_line x l no_call zero h = no_call h
lone_line x l no_call (suc i) h = not_last h

not_summed : {s : Summary} {l : CallLine} → summed s ≡ called l → ⊥
not_summed h = let z : ◌≡◌ {A = ℕ} 0 1 = cc in omega arith

-- none among the summaries and the last line
no_call : (ss : List Summary) (e : Ending) (i : ℕ) (l : CallLine) → get_or (map summed ss ++ last e ∷ []) i no_line ≡ called l → ⊥
no_call [] e i l h = lone_line (last e) l not_last i h
no_call (s ∷ ss) e zero l h = not_summed h
no_call (s ∷ ss) e (suc i) l h = no_call ss e i l h

none_closing : (b : Book) (ds : List CallLine) (e : Ending) (i : ℕ) (l : CallLine) → get_or (closing b ds e) i no_line ≡ called l → ⊥
unfolding closing
none_closing b ds end i l h = no_call (recounts b ds) end i l h
none_closing b ds (stop n) i l h = no_call [] (stop n) i l h

pub at_place : (cs : List CallLine) (b : Book) (ds : List CallLine) (e : Ending) (i : ℕ) (l : CallLine) → get_or (map called cs ++ closing b ds e) i no_line ≡ called l → (i < length cs) × (get_or cs i no_call_line ≡ l)
at_place [] b ds e i l h = absurd (none_closing b ds e i l h)
at_place (c ∷ cs) b ds e zero l h = (omega arith, cc)
at_place (c ∷ cs) b ds e (suc i) l h = let r = at_place cs b ds e i l h in (omega (arith, r.0), r.1)

pub at_call : (cs : List CallLine) (after : List Line) (i : ℕ) → i < length cs → get_or (map called cs ++ after) i no_line ≡ called (get_or cs i no_call_line)
at_call [] after i h = absurd (omega arith)
at_call (c ∷ cs) after zero h = refl
at_call (c ∷ cs) after (suc i) h = at_call cs after i (omega arith)

-- ---- the lines of calls
pub lines_length : (b : Book) (done : ℕ) (st : State) (ks : List Call) → length (lines_of b done st ks) ≡ length ks
unfolding lines_of
lines_length b done st [] = refl
lines_length b done st (k ∷ ks) = ap suc (lines_length b (suc done) (call b.rows st k).state ks)

pub lines_at : (w : Way) (b : Book) (done : ℕ) (past ks : List Call) (i : ℕ) → i < length ks → get_or (lines_of b done (after_in w b.rows past) ks) i no_call_line
    ≡ line_of b (suc (done + i)) (call b.rows (after_in w b.rows (reverse_aux (take i ks) past)) (get_or ks i missing_call))
unfolding lines_of after_in
lines_at w b done past [] i h = absurd (omega arith)
lines_at w b done past (k ∷ ks) zero h = let e : done + 0 ≡ done = omega arith in rw e
lines_at w b done past (k ∷ ks) (suc i) h =
    let e : done + suc i ≡ suc done + i = omega arith in rw e (lines_at w b (suc done) (k ∷ past) ks i (omega arith))

-- line i of calls, on a fresh monitor in a way of monitoring
abbrev pub sayings : Way → ℕ → Book → List Call → CallLine
sayings w i b ks = line_of b (suc i) (call b.rows (after_in w b.rows (reverse (take i ks))) (get_or ks i missing_call))

said_at : (w : Way) (b : Book) (ks : List Call) (i : ℕ) → i < length ks → get_or (lines_of b 0 (initial_in w b.rows) ks) i no_call_line ≡ sayings w i b ks
unfolding after_in
said_at w b ks i h = let e : 0 + i ≡ i = omega arith in rw e at (lines_at w b 0 [] ks i h)

number_of_lem : (b : Book) (i : ℕ) (o : Outcome) → (line_of b i o).number ≡ i
unfolding line_of
number_of_lem b i o = refl

-- one call more
pub one_more : (ks past : List Call) (i : ℕ) → i < length ks → reverse_aux (take (suc i) ks) past ≡ get_or ks i missing_call ∷ reverse_aux (take i ks) past
one_more [] past i h = absurd (omega arith)
one_more (k ∷ ks) past zero h = refl
one_more (k ∷ ks) past (suc i) h = one_more ks (k ∷ past) i (omega arith)

-- ---- the lines after those of the calls are a recount
pub ends_are : (b : Book) (st : State) (ks : List Call) → length ks ≤ LAST_COUNTED → (e : Ending) → end_lines (ledger_from b st (blank_ledger b) ks) e ≡ closing b (lines_of b 0 st ks) e
unfolding end_lines closing
ends_are b st ks h (stop n) = refl
ends_are b st ks h end =
    let ls = lines_of b 0 st ks in
    let t = tally b ls in
    ap (λ l. map summed (summaries_of l) ++ last end ∷ []) (from_blank b st ks h)
    ∙ ap (λ ss. map summed ss ++ last end ∷ [])
    (ap (listed (summary_at t)) (listed_length (λ p. entry_from p ls) (length (properties b))) ∙ listed_agree (summary_at t) (λ p. recount p ls) (length (properties b)) (tally_at b ls))

-- ---- the lines of an input
module _ (way : Loading) (input : List ℕ) {s : Sections} {ws : List ℕ} (e : sections_said input ≡ got s ws) where
  pub loads_as : loaded_of way (sections_said input) ≡ admitted way (loaded_from s)
  unfolding loaded_of
  loads_as = rw e

  pub read_as : read_said input ≡ calls_after (supply input).ending ws
  unfolding words_after
  read_as = ap (λ r. calls_after (supply input).ending (words_after r)) e

module _ (way : Loading) (input : List ℕ) (fits : length input ≤ LONGEST_INPUT) where
  -- of a loaded book
  pub lines_loaded : {s : Sections} {ws : List ℕ} → sections_said input ≡ got s ws → (admitted way (loaded_from s)).number ≡ ACCEPTED
      → lines way input ≡ book ACCEPTED None ∷ lines_from (admitted way (loaded_from s)).book 0 (initial_in (way_in way) (admitted way (loaded_from s)).book.rows) (blank_ledger (admitted way (loaded_from s)).book) (calls_after (supply input).ending ws)
  unfolding lines book_lines book_then call_lines
  lines_loaded {s} {ws} e z =
      rw (le-ltb LONGEST_INPUT (length input) fits, e, eq-eqb (admitted way (loaded_from s)).number ACCEPTED z)
      (ap₂ (λ n x. book n x ∷ lines_from (admitted way (loaded_from s)).book 0 (initial_in (way_in way) (admitted way (loaded_from s)).book.rows) (blank_ledger (admitted way (loaded_from s)).book) (calls_after (supply input).ending ws)) z
      (accepted_within way (loaded_from s) z))

  pub lines_refused : {s : Sections} {ws : List ℕ} → sections_said input ≡ got s ws → ¬ ((admitted way (loaded_from s)).number ≡ ACCEPTED) → lines way input ≡ book (admitted way (loaded_from s)).number (excess_by way (loaded_from s).book.rows) ∷ []
  unfolding lines book_lines book_then
  lines_refused {s} e z = rw (le-ltb LONGEST_INPUT (length input) fits, e, ne_eqb (admitted way (loaded_from s)).number ACCEPTED z)

  pub lines_unread : {n : ℕ} → sections_said input ≡ refused n → lines way input ≡ book n None ∷ []
  unfolding lines book_lines
  lines_unread e = rw (le-ltb LONGEST_INPUT (length input) fits, e)

  -- by the lines of its calls
  pub lines_recounted : {s : Sections} {ws : List ℕ} → sections_said input ≡ got s ws → (admitted way (loaded_from s)).number ≡ ACCEPTED
      → let b = (admitted way (loaded_from s)).book in let r = calls_after (supply input).ending ws in let cs = lines_of b 0 (initial_in (way_in way) b.rows) r.calls in
      lines way input ≡ book ACCEPTED None ∷ map called cs ++ closing b cs r.ends
  unfolding lines_from
  lines_recounted {s} {ws} e z =
      let b = (admitted way (loaded_from s)).book in
      let r = calls_after (supply input).ending ws in
      let st = initial_in (way_in way) b.rows in
      lines_loaded e z
      ∙ ap (λ ls. book ACCEPTED None ∷ map called (lines_of b 0 st r.calls) ++ ls) (ends_are b st r.calls (omega (arith, few_calls input e)) r.ends)

  pub whole_of : {s : Sections} {ws : List ℕ} → sections_said input ≡ got s ws → (admitted way (loaded_from s)).number ≡ ACCEPTED → Whole way input
  whole_of {s} {ws} e z =
      let b = (admitted way (loaded_from s)).book in
      let ks = (calls_after (supply input).ending ws).calls in
      let cs = lines_of b 0 (initial_in (way_in way) b.rows) ks in
      let n = lines_length b 0 (initial_in (way_in way) b.rows) ks in
      let said : ks ≡ calls_said input = ap (λ (r : CallsRead). r.calls) (sym (read_as way input e)) in
      record {
        calls = cs;
        loads = rw (loads_as way input e) z;
        all = lines_recounted e z
            ∙ ap₂ (λ b' x. book ACCEPTED None ∷ map called cs ++ closing b' cs x) (sym (ap (λ (l : Loaded). l.book) (loads_as way input e))) (ap (λ (r : CallsRead). r.ends) (sym (read_as way input e)));
        each = n ∙ ap length said;
        numbered = λ i h. ap (λ (l : CallLine). l.number) (said_at (way_in way) b ks i (omega arith)) ∙ number_of_lem b (suc i) _;
        in_order = λ i h. said_at (way_in way) b ks i (omega arith) ∙ ap₂ (sayings (way_in way) i) (sym (ap (λ (l : Loaded). l.book) (loads_as way input e))) said;
      }

pub shape : (way : Loading) (input : List ℕ) → Shape way input
unfolding loaded_of excess_of lines
shape way input = go (dec_lt LONGEST_INPUT (length input))
  where
    by_number : (s : Sections) (ws : List ℕ) → length input ≤ LONGEST_INPUT → sections_said input ≡ got s ws → Dec ((admitted way (loaded_from s)).number ≡ ACCEPTED) → Shape way input
    by_number s ws f e (yes z) = whole f (whole_of way input f e z)
    by_number s ws f e (no z) = refused_book (rw e z) (lines_refused way input f e z ∙ ap (λ r. book (loaded_of way r).number (excess_of way r) ∷ []) (sym e))

    by_read : (r : Read Sections) → length input ≤ LONGEST_INPUT → sections_said input ≡ r → Shape way input
    by_read (got s ws) f e = by_number s ws f e (ℕ_discrete (admitted way (loaded_from s)).number ACCEPTED)
    by_read (refused n) f e =
        let m = sections_refused (supply input).ending (small_ending input) (supply input).words e in
        refused_book (rw e (λ z. omega (arith, m.0))) (lines_unread way input f e ∙ ap (λ r. book (loaded_of way r).number (excess_of way r) ∷ []) (sym e))

    go : Dec (LONGEST_INPUT < length input) → Shape way input
    go (yes h) = too_long h (rw (lt-ltb LONGEST_INPUT (length input) h))
    go (no h) = by_read (sections_said input) (omega arith) refl

-- ---- a call's line in a report
-- line i is that of a call that the text says, after so many others
pub record CalledLine (way : Loading) (input : List ℕ) (i : ℕ) (l : CallLine) : Type 0 where
  pub fits : length input ≤ LONGEST_INPUT
  pub loads : (loaded_of way (sections_said input)).number ≡ ACCEPTED
  pub others : ℕ
  pub place : i ≡ suc others
  pub said : others < length (calls_said input)
  pub is : sayings (way_in way) others (book_said way input) (calls_said input) ≡ l

in_whole : (way : Loading) (input : List ℕ) → length input ≤ LONGEST_INPUT → (w : Whole way input) (i : ℕ) (l : CallLine) → get_or (book ACCEPTED None ∷ map called w.calls ++ closing (book_said way input) w.calls (end_said input)) i no_line ≡ called l → CalledLine way input i l
in_whole way input f w zero l h = absurd (not_book h)
in_whole way input f w (suc i) l h =
    let q = at_place w.calls (book_said way input) w.calls (end_said input) i l h in
    record { fits = f; loads = w.loads; others = i; place = refl; said = omega (arith, q.0, w.each); is = sym (w.in_order i q.0) ∙ q.1 }

pub called_line : (way : Loading) (input : List ℕ) (i : ℕ) {l : CallLine} → get_or (lines way input) i no_line ≡ called l → CalledLine way input i l
called_line way input i {l} h = go (shape way input)
  where
    go : Shape way input → CalledLine way input i l
    go (whole f w) = in_whole way input f w i l (ap (λ ls. get_or ls i no_line) (sym w.all) ∙ h)
    go (refused_book n e) = absurd (lone_line (book _ _) l not_book i (ap (λ ls. get_or ls i no_line) (sym e) ∙ h))
    go (too_long n e) = absurd (lone_line (last _) l not_last i (ap (λ ls. get_or ls i no_line) (sym e) ∙ h))
