-- What a report says, for every input, in each way of loading its book: the demands of the printed lines. Line 0 is the book's, line i that of call i. Nothing is assumed.
use Prim.Native.Nat.{ℕ, suc, ◌≤◌}
use native.Mathlib.Omega.{arith}
use mathlib.Core.Path.{◌≡◌, refl, sym, ap, ap₂, ◌∙◌}
use mathlib.Core.Bool.{Bool, true, false, cond}
use mathlib.Core.List.{List, [], ◌∷◌}
use lib.ListN.{length, get_or}
use lib.Dec.{ltb, eqb}
use borrow.Author.Tests.{le-ltb, ne_eqb}
use Rattle.numbers.specs.Limits.{MOST_RUNS, LONGEST_INPUT, LONGEST_REPORT}
use Rattle.numbers.specs.Refusals.{ACCEPTED, PAST_LIMIT, NO_ROOM, COULD_RUN_OUT, NESTED}
use Rattle.text.specs.Words.{supply}
use Rattle.pmtl.specs.Book.{properties, property_at}
use Rattle.pmtl.specs.declared.Answer.{Answer}
use Rattle.pmtl.specs.declared.Answer.TheVariants.{False, True, Open}
use Rattle.pmtl.specs.Answer.{digit_of, bit_of, known}
use Rattle.pmtl.specs.Sets.{Way, lasting}
use Rattle.pmtl.specs.Monitor.{fullest}
use Rattle.pmtl.specs.Settled.{settled}
use Rattle.pmtl.specs.Calls.{after_in}
use Rattle.pmtl.specs.Meaning.{meaning}
use Rattle.pmtl.specs.Flat.{flat}
use Rattle.pmtl.specs.Strict.{needed_by, Strict as IsStrict}
use Rattle.lasts.specs.Lasting.{history_in}
use Rattle.lasts.proofs.EitherWay.{demand_2, demand_3, never_eleven as strict-never}
use Rattle.pmtl.proofs.Fullest.{fullest_few}
use Rattle.book.specs.declared.loading.Loading.{Loading}
use Rattle.std.specs.Prelude.{Option, Some, None}
use Rattle.book.specs.declared.strict.Excess.{Excess}
use Rattle.book.specs.Reading.{Read, got, refused, Sections}
use Rattle.book.specs.Judging.{Loaded, refused_with, loaded_from}
use Rattle.book.specs.Strict.{over, strictly, excess_by, unless}
use Rattle.book.specs.Loading.{way_in, flatly, admitted}
use Rattle.book.proofs.Admitted.{nested_refused, fifteen_first, admitted_strict}
use Rattle.property_answers.specs.Verdict.{verdict_in}
use Rattle.report.specs.Lines.{PropertyWord, nothing, words_in, count_in, CallLine, end, stop, Line, book, called, last, word_of, call_lines, book_then, book_lines, lines}
use Rattle.report.specs.Report.{written, report}
use Rattle.slip.specs.Back.{lines_in, AllProper}
use Rattle.slip.specs.Says.{sections_said, loaded_of, book_said, excess_of, calls_said, first_calls, no_line, missing_call, SaidTwice, Says, calls_among, summaries_among, final_line, recounts, Shape}
use Rattle.slip.specs.TakenOut.{CallAt, TakenOut, without, unsummed}
use Rattle.slip.specs.Longest.{longest, longest_stopped}
use Rattle.slip.proofs.Reading.{lines_back}
use Rattle.slip.proofs.Places.{shape, called_line}
use Rattle.slip.proofs.Sayings.{fit, word_each, count_here, refusal_here, nothing_here, word_is, calls_go_on}
use Rattle.slip.proofs.Traces.{no_trace, call_at}
use Rattle.slip.proofs.Again.{second_line, second_leaves_no_trace}
use Rattle.slip.proofs.Recounted.{all_proper, recounted, none_otherwise}
use Rattle.slip.proofs.Lengths.{at_most_longest, at_most_stopped, room_enough}

-- ---- READING BACK: the bytes of a report say its lines
pub read_back : (way : Loading) (input : List ℕ) → lines_in (report way input) ≡ lines way input
unfolding report
read_back way input = lines_back (lines way input) (all_proper way input)

-- and no two lists of lines that a report can have are written alike
pub written_once : (ls ls' : List Line) → AllProper ls → AllProper ls' → written ls ≡ written ls' → ls ≡ ls'
written_once ls ls' ok ok' e = sym (lines_back ls ok) ∙ ap lines_in e ∙ lines_back ls' ok'

-- such are the lines of every report
pub always_proper : (way : Loading) (input : List ℕ) → AllProper (lines way input)
always_proper = all_proper

-- ---- what a word says
-- the three digits on an accepted line are those of the answers after the calls that the text says up to that line
pub word_says : (way : Loading) (input : List ℕ) {i p : ℕ} {w : PropertyWord} → Says (lines way input) i p w
    → w ≡ word_of (verdict_in (book_said way input) (after_in (way_in way) (book_said way input).rows (first_calls input i)) p)
word_says way input s = word_is way input s

-- and an accepted line has such a word for each property
pub word_for_each : (way : Loading) (input : List ℕ) (i : ℕ) {l : CallLine} → get_or (lines way input) i no_line ≡ called l → l.refusal ≡ ACCEPTED → length (words_in l.rest) ≡ length (properties (book_said way input))
word_for_each way input i h z = word_each way input (called_line way input i h) z

-- ---- THE COUNT, the last word of an accepted line: how many runs the fullest set has after the calls that the text says up to that line
pub count_says : (way : Loading) (input : List ℕ) (i : ℕ) {l : CallLine} → get_or (lines way input) i no_line ≡ called l → l.refusal ≡ ACCEPTED → count_in l.rest ≡ fullest (after_in (way_in way) (book_said way input).rows (first_calls input i))
count_says way input i h z = count_here way input (called_line way input i h) z

-- it never passes the limit
pub count_few : (way : Loading) (input : List ℕ) (i : ℕ) {l : CallLine} → get_or (lines way input) i no_line ≡ called l → l.refusal ≡ ACCEPTED → count_in l.rest ≤ MOST_RUNS
count_few way input i h z = rw (count_says way input i h z) (fullest_few (way_in way) (book_said way input).rows (first_calls input i))

-- a refused line has neither words nor count
pub refused_says_nothing : (way : Loading) (input : List ℕ) (i : ℕ) {l : CallLine} → get_or (lines way input) i no_line ≡ called l → ¬ (l.refusal ≡ ACCEPTED) → l.rest ≡ nothing
refused_says_nothing way input i h n = nothing_here way input (called_line way input i h) n

-- DEMAND 2 of the slip: the value digit is what the property's row means on the history of the way: those of the calls up to that line that were
-- accepted, in the lasting way with the calls that are put in
pub value_means : (way : Loading) (input : List ℕ) {i p : ℕ} {w : PropertyWord} → Says (lines way input) i p w
    → w.value ≡ bit_of (meaning (book_said way input).rows (property_at (book_said way input) p) (history_in (way_in way) (book_said way input).rows (first_calls input i)))
unfolding verdict_in
value_means way input {i} {p} s =
    ap (λ (x : PropertyWord). x.value) (word_is way input s)
    ∙ ap bit_of (demand_2 (way_in way) (book_said way input).rows (fit way (sections_said input)) (first_calls input i) (property_at (book_said way input) p))

-- DEMAND 3 of the slip, never taken back: where the settled digit is 0 or 1, the value digit of that line is the same, and so are the value and the
-- settled digit of that property on every later accepted line
known_digit : (a : Answer) → digit_of a ≤ 1 → (x : Bool) × (a ≡ known x) × (digit_of a ≡ bit_of x)
known_digit False h = (false, refl, refl)
known_digit True h = (true, refl, refl)
known_digit Open h = absurd (omega arith)

digit_of_known : (x : Bool) → digit_of (known x) ≡ bit_of x
digit_of_known true = refl
digit_of_known false = refl

-- what the settled answer after the calls up to line i makes of the word on line j
settled_on : (way : Loading) (input : List ℕ) (i j p : ℕ) (x : Bool) {w : PropertyWord} → i ≤ j → settled (book_said way input).rows (after_in (way_in way) (book_said way input).rows (first_calls input i)) (property_at (book_said way input) p) ≡ known x
    → Says (lines way input) j p w → (w.value ≡ bit_of x) × (w.settled ≡ bit_of x)
unfolding verdict_in
settled_on way input i j p x h e s =
    let b = (book_said way input).rows in
    let r = property_at (book_said way input) p in
    let m = calls_go_on input i j h in
    let d = rw (sym m.1) at (demand_3 (way_in way) b (fit way (sections_said input)) (first_calls input i) r m.0 x e) in (
      ap (λ (v : PropertyWord). v.value) (word_is way input s) ∙ ap bit_of d.0,
      ap (λ (v : PropertyWord). v.settled) (word_is way input s) ∙ ap digit_of d.1 ∙ digit_of_known x,
    )

pub never_taken_back : (way : Loading) (input : List ℕ) {i j p : ℕ} {w w' : PropertyWord} → Says (lines way input) i p w → Says (lines way input) j p w' → i ≤ j → w.settled ≤ 1
    → (w.value ≡ w.settled) × (w'.value ≡ w.settled) × (w'.settled ≡ w.settled)
unfolding verdict_in
never_taken_back way input {i} {j} {p} {w} s s' h small =
    let a = settled (book_said way input).rows (after_in (way_in way) (book_said way input).rows (first_calls input i)) (property_at (book_said way input) p) in
    let is : w.settled ≡ digit_of a = ap (λ (v : PropertyWord). v.settled) (word_is way input s) in
    let k = known_digit a (omega arith) in
    let here = settled_on way input i i p k.0 (omega arith) k.1 s in
    let later = settled_on way input i j p k.0 h k.1 s' in
    (here.0 ∙ sym here.1, later.0 ∙ sym here.1, later.1 ∙ sym here.1)

-- ---- STRICT LOADING: no line of a call ever says 11
strict_book : (way : Loading) → strictly way ≡ true → (r : Read Sections) → IsStrict (loaded_of way r).book.rows
unfolding loaded_of needed_by
strict_book way strict (got s ws) = admitted_strict way strict (loaded_from s)
strict_book way strict (refused n) = λ r. omega arith

pub never_eleven : (way : Loading) → strictly way ≡ true → (input : List ℕ) (i : ℕ) {l : CallLine} → get_or (lines way input) i no_line ≡ called l → ¬ (l.refusal ≡ NO_ROOM)
never_eleven way strict input i h e =
    let c = called_line way input i h in
    strict-never (way_in way) (book_said way input).rows (fit way (sections_said input)) (strict_book way strict (sections_said input)) (first_calls input c.others)
    (get_or (calls_said input) c.others missing_call) (sym (refusal_here way input c) ∙ e)

-- the lines of a book, by the way of monitoring and by what strict loading refuses in it: nothing else of the way of loading counts
lines_by_lem : Loaded → ℕ → List ℕ → Way → Option Excess → List Line
lines_by_lem l ending ws way x =
    let a = flatly way (unless x l) in
    book a.number x ∷ cond (eqb a.number ACCEPTED) (call_lines way a.book ending ws) []

loose_within : (way : Loading) → strictly way ≡ false → (r : Read Sections) → excess_of way r ≡ None
unfolding excess_of
loose_within way loose (got s ws) = rw loose
loose_within way loose (refused n) = refl

-- where no row is refused, the report is that of loading which is not strict, for the same way of monitoring, byte for byte
pub strict_as_loose : (way loose : Loading) → way_in way ≡ way_in loose → strictly loose ≡ false → (input : List ℕ) → excess_of way (sections_said input) ≡ None → report way input ≡ report loose input
unfolding report lines book_lines book_then excess_of lines_by_lem
strict_as_loose way loose same not-strict input h =
    ap (λ ls. written (cond (ltb LONGEST_INPUT (length input)) (last (stop PAST_LIMIT) ∷ []) ls)) (same_lines (sections_said input) (h ∙ sym (loose_within loose not-strict (sections_said input))))
  where
    same_lines : (r : Read Sections) → excess_of way r ≡ excess_of loose r → book_lines way r (supply input).ending ≡ book_lines loose r (supply input).ending
    same_lines (got s ws) z = ap₂ (λ w x. lines_by_lem (loaded_from s) (supply input).ending ws w x) same z
    same_lines (refused n) z = refl

-- a book that is refused has one line
lone_line : (way : Loading) (l : Loaded) (ending : ℕ) (ws : List ℕ) {n : ℕ} {x : Option Excess} → admitted way l ≡ refused_with n → ¬ (n ≡ ACCEPTED) → excess_by way l.book.rows ≡ x → book_then way l ending ws ≡ book n x ∷ []
unfolding book_then
lone_line way l ending ws {n} e z f = rw (e, ne_eqb n ACCEPTED z, f)

-- where a row is refused, it is 15, the first row that can need more runs than a set may have, and how many it can need
pub strict_refuses : (way : Loading) (input : List ℕ) {row count : ℕ} → length input ≤ LONGEST_INPUT → excess_of way (sections_said input) ≡ Some (over row count)
    → lines way input ≡ book COULD_RUN_OUT (Some (over row count)) ∷ []
unfolding lines book_lines excess_of
strict_refuses way input {row} {count} f h = rw (le-ltb LONGEST_INPUT (length input) f) (go (sections_said input) h)
  where
    go : (r : Read Sections) → excess_of way r ≡ Some (over row count) → book_lines way r (supply input).ending ≡ book COULD_RUN_OUT (Some (over row count)) ∷ []
    go (got s ws) z = lone_line way (loaded_from s) (supply input).ending ws (fifteen_first way (loaded_from s) row count z) (λ q. omega arith) z
    go (refused n) z = absurd (let y : ◌≡◌ {A = ℕ} 0 1 = cc in omega arith)

-- ---- THE LASTING WAY: where no row is refused, but a temporal row lies below another, it is 17
pub nested_refuses : (way : Loading) → way_in way ≡ lasting → (input : List ℕ) {s : Sections} {ws : List ℕ} → length input ≤ LONGEST_INPUT → sections_said input ≡ got s ws
    → excess_by way (loaded_from s).book.rows ≡ None → flat (loaded_from s).book.rows ≡ false → lines way input ≡ book NESTED None ∷ []
unfolding lines book_lines
nested_refuses way last-way input {s} {ws} f e h n =
    rw (le-ltb LONGEST_INPUT (length input) f, e)
    (lone_line way (loaded_from s) (supply input).ending ws
    (ap₂ (λ w x. flatly w (unless x (loaded_from s))) last-way h ∙ nested_refused lasting (loaded_from s) n) (λ q. omega arith) h)

-- ---- REFUSED LINES LEAVE NO TRACE
-- whatever call has a line, its words stand in the text
pub call_said : (way : Loading) (input : List ℕ) (i : ℕ) {l : CallLine} → get_or (lines way input) i no_line ≡ called l → CallAt input i
call_said way input = call_at input way

-- a text without the words of a refused call, its count one less, has the same lines but for that one and the numbers of calls, in the summaries, too
pub refused_leaves_no_trace : (way : Loading) {input : List ℕ} {i : ℕ} (c : CallAt input i) {l : CallLine} → get_or (lines way input) i no_line ≡ called l → ¬ (l.refusal ≡ ACCEPTED)
    → {other : List ℕ} → TakenOut c other → lines way other ≡ without i (lines way input)
refused_leaves_no_trace way c h n t = no_trace way c h n t

-- ---- A DOUBLED SCAN DOES NO HARM
-- where the text says a call twice, one right after the other, and the first is accepted, the second has the same line but for its number
pub doubled_line : (way : Loading) (input : List ℕ) (i : ℕ) {l : CallLine} → get_or (lines way input) i no_line ≡ called l → l.refusal ≡ ACCEPTED → SaidTwice input i
    → get_or (lines way input) (suc i) no_line ≡ called (record { number = suc l.number; refusal = l.refusal; rest = l.rest })
doubled_line way input i h z t = second_line way input (called_line way input i h) z t

-- and a text without the words of the second, its count one less, has the same lines but for that one, the numbering and the summaries, in which the
-- second is counted
pub doubled_leaves_no_trace : (way : Loading) (input : List ℕ) (i : ℕ) {l : CallLine} → get_or (lines way input) i no_line ≡ called l → l.refusal ≡ ACCEPTED → SaidTwice input i
    → (c : CallAt input (suc i)) {other : List ℕ} → TakenOut c other → unsummed (lines way other) ≡ unsummed (without (suc i) (lines way input))
doubled_leaves_no_trace way input i h z t = second_leaves_no_trace way input (called_line way input i h) z t

-- ---- THE SUMMARIES before `end` are a recount of the lines of calls, for each property
pub summaries_recount_the_lines : (way : Loading) (input : List ℕ) → final_line (lines way input) ≡ last end → summaries_among (lines way input) ≡ recounts (book_said way input) (calls_among (lines way input))
summaries_recount_the_lines = recounted

-- and where the report ends otherwise there are none
pub no_summaries_otherwise : (way : Loading) (input : List ℕ) → ¬ (final_line (lines way input) ≡ last end) → summaries_among (lines way input) ≡ []
no_summaries_otherwise = none_otherwise

-- ---- ONE LINE FOR EACH CALL read, in order, numbered from 1, the summaries and one last line; nothing after a refused book
pub one_line_each : (way : Loading) (input : List ℕ) → Shape way input
one_line_each = shape

-- ---- HOW LONG a report gets
pub no_longer : (way : Loading) (input : List ℕ) → length (report way input) ≤ longest (length input)
no_longer = at_most_longest

-- one that ends with `stop` has no summaries, and less
pub no_longer_stopped : (way : Loading) (input : List ℕ) {n : ℕ} → final_line (lines way input) ≡ last (stop n) → length (report way input) ≤ longest_stopped (length input)
no_longer_stopped = at_most_stopped

-- so there is room for every report
pub always_room : (way : Loading) (input : List ℕ) → length (report way input) ≤ LONGEST_REPORT
always_room = room_enough
