-- How long an answer gets: what is said after a line, or at the end of the input, is never longer than the room for it. Assumes nothing.
use Prim.Native.Nat.{ℕ, zero, suc, ◌*◌, ◌≤◌, ◌<◌}
use native.Mathlib.Omega.{arith}
use native.Mathlib.Decide.{ℕ_discrete}
use mathlib.Core.Path.{◌≡◌, refl, ap, ◌∙◌}
use mathlib.Core.Bool.{Bool, true, false, cond, ◌||◌}
use mathlib.Core.Logic.{inl, inr}
use mathlib.Core.List.{List, ◌++◌}
use lib.ListN.{length, length-append, take, drop}
use lib.Seq.{take-append_seam}
use lib.Dec.{ltb, eqb}
use borrow.Author.Tests.{eq-eqb, ne_eqb, le-leb, ltb-true}
use Rattle.numbers.specs.Limits.{MAX, LAST_TIME, MOST_KITS}
use Rattle.numbers.specs.Refusals.{ACCEPTED, BAD_WORD, WRONG_KITS}
use Rattle.text.specs.Words.{Supply}
use Rattle.text.specs.Decimals.{decimal}
use Rattle.text.proofs.Digits.{at_most, at_most_20}
use Rattle.text.proofs.Few.{small_ending}
use Rattle.pmtl.specs.Book.{Book, some}
use Rattle.pmtl.specs.Monitor.{State}
use Rattle.pmtl.specs.declared.Answer.{Answer}
use Rattle.pmtl.specs.Answer.{is_false}
use Rattle.memory.specs.Memory.{book_of, state_of}
use Rattle.buffer_writer.specs.Buffer.{Handed, handed, in_buffer}
use Rattle.desk_rules.specs.Scans.{Kit, Scan, codes, windows, repeats, open_number}
use Rattle.desk_rules.specs.Desk.{place_of, scanned_in}
use Rattle.desk_rules.proofs.Theorems.{Few, few_numbers}
use Rattle.std.specs.Prelude.{Option, Some, None}
use Rattle.desk.specs.Kits.{KIT_WORDS, kits_in}
use Rattle.desk.specs.Standing.{codes_in, kit_count, kit_of, slip_for, Stands}
use Rattle.desk.proofs.Standing.{after_codes, width_small, ready_scan}
use Rattle.line_words.specs.Line.{LONGEST_LINE, without_return, line_supply, blank, judged_by, word_at, number_for}
use Rattle.desk_lines.specs.declared.Stage.{Stage}
use Rattle.desk_lines.specs.declared.Stage.TheVariants.{Awaited, Giving, Opened, Closed}
use Rattle.desk_lines.specs.Dialogue.Event.{Nothing, Desk}
use Rattle.desk_lines.specs.Dialogue.{Heard, Held, Reply, says, unchanged, closed_by, COUNT_WORDS, count_heard, count_line, with_kit, open_heard, opening, kit_given, kit_line, SCAN_WORDS, following, scan_of, scan_event, scanning, scan_line, at_stage, reply_to}
use Rattle.desk_lines.specs.Bytes.{desk_word, slip_word, numbered, kit_word, kit_words, scan_bytes, event_bytes, reply_bytes, last_bytes}
use Rattle.desk_lines.specs.Longest.{KIT_BYTES, SCAN_BYTES, SLIP_BYTES, LONGEST_ANSWER}
use Rattle.desk_lines.specs.Does.{held_of}

-- what is so of both is so of the one that is chosen
chosen : {A : Type 0} (P : A → Type 0) (z : Bool) {x y : A} → P x → P y → P (cond z x y)
chosen P true p q = p
chosen P false p q = q

-- ---- refusals have at most two digits
abbrev Small : ℕ → Type 0
Small n = n < 100

judged_small : (n count ending : ℕ) → Small ending → Small (judged_by n count ending)
unfolding judged_by
judged_small n count ending h = chosen Small (ltb count n) h (chosen Small (ltb n count) (omega arith) (chosen Small (eqb ending BAD_WORD) (omega arith) (omega arith)))

line_ending : (line : List ℕ) → Small (line_supply line).ending
unfolding line_supply
line_ending line = chosen (λ (s : Supply). Small s.ending) (ltb LONGEST_LINE (length line)) (omega arith) (small_ending (without_return line)).1

number_small : (n : ℕ) (line : List ℕ) → Small (number_for n (line_supply line))
number_small n line = judged_small n (length (line_supply line).words) (line_supply line).ending (line_ending line)

open_small : (kits : List Kit) → Small (open_number kits)
unfolding open_number
open_small kits =
    chosen Small (eqb (length kits) 0 || ltb MOST_KITS (length kits) || repeats (codes kits)) (omega arith)
    (chosen Small (some (ltb LAST_TIME) (windows kits)) (omega arith) (omega arith))

few_small : (n : ℕ) → Few n → Small n
few_small n (inl e) = omega arith
few_small n (inr (inl e)) = omega arith
few_small n (inr (inr (inl e))) = omega arith
few_small n (inr (inr (inr e))) = omega arith

following_small : (done : ℕ) → following done ≤ MAX
unfolding following
following_small done = go (ltb done MAX) refl
  where
    go : (z : Bool) → ltb done MAX ≡ z → cond z (suc done) MAX ≤ MAX
    go true e = let h = ltb-true done MAX e in omega arith
    go false e = omega arith

-- ---- lines
two_digits : (n : ℕ) → Small n → length (decimal n) ≤ 2
two_digits n h = at_most 1 n (omega arith)

desk_length : (n : ℕ) → Small n → length (numbered desk_word n) ≤ SLIP_BYTES
unfolding numbered
desk_length n h = simp length-append (omega (arith, two_digits n h))

slip_length : (n : ℕ) → Small n → length (numbered slip_word n) ≤ SLIP_BYTES
unfolding numbered
slip_length n h = simp length-append (omega (arith, two_digits n h))

kits_length : (b : Book) (st : State) (n : ℕ) → length (kit_words b st n) ≡ KIT_BYTES * n
unfolding kit_words kit_word
kits_length b st zero = refl
kits_length b st (suc k) = let h = kits_length b st k in simp length-append (omega arith)

scan_length : (i n : ℕ) (answers : List ℕ) → i ≤ MAX → Small n → length answers ≤ KIT_BYTES * MOST_KITS → length (scan_bytes i n answers) ≤ SCAN_BYTES
unfolding scan_bytes
scan_length i n answers h small few = go (ℕ_discrete n ACCEPTED)
  where
    go : Dec (n ≡ ACCEPTED) → length (scan_bytes i n answers) ≤ SCAN_BYTES
    go (yes z) = rw (eq-eqb n ACCEPTED z) (simp length-append (omega (arith, at_most_20 i (omega arith), at_most 0 n (omega arith))))
    go (no z) = rw (ne_eqb n ACCEPTED z) (simp length-append (omega (arith, at_most_20 i (omega arith), two_digits n small)))

-- ---- what is said
abbrev Fits : Reply → Type 0
Fits r = length (reply_bytes r) ≤ LONGEST_ANSWER

module _ (d : Held) (stage : Stage) where
  nothing_fits : Fits (unchanged d (says stage Nothing))
  unfolding event_bytes
  nothing_fits = omega arith

  desk_fits : (n : ℕ) → Small n → Fits (unchanged d (says stage (Desk n)))
  unfolding event_bytes
  desk_fits n h = omega (arith, desk_length n h)

-- the number of kits
module _ (d : Held) where
  abbrev FitsHere : Heard → Type 0
  FitsHere h = Fits (unchanged d h)

  closed_fits : (n : ℕ) → Small n → FitsHere (closed_by n)
  closed_fits n h = desk_fits d Closed n h

  count_fits : (count : ℕ) → FitsHere (count_heard count)
  unfolding count_heard
  count_fits count =
      chosen FitsHere (eqb count 0) (closed_fits WRONG_KITS (omega arith))
      (chosen FitsHere (ltb MOST_KITS count) (closed_fits WRONG_KITS (omega arith)) (nothing_fits d (Giving count 0)))

  count_line_fits : (line : List ℕ) → FitsHere (count_line (line_supply line))
  unfolding count_line
  count_line_fits line =
      let s = line_supply line in
      chosen FitsHere (eqb (number_for COUNT_WORDS s) ACCEPTED) (count_fits (word_at s 0)) (closed_fits (number_for COUNT_WORDS s) (number_small COUNT_WORDS line))

  open_fits : (n : ℕ) → Small n → FitsHere (open_heard n)
  unfolding open_heard
  open_fits n h = chosen FitsHere (eqb n ACCEPTED) (desk_fits d (Opened 0) n h) (closed_fits n h)

-- a kit
opening_fits : (kits : List Kit) (d : Held) → Fits (opening kits d)
unfolding opening
opening_fits kits d = open_fits (opening kits d).held (open_number kits) (open_small kits)

given_fits : (count given : ℕ) (d : Held) → Fits (kit_given count given d)
unfolding kit_given
given_fits count given d = chosen Fits (ltb given count) (nothing_fits d (Giving count given)) (opening_fits (kits_in d.words count) d)

kit_line_fits : (count given : ℕ) (line : List ℕ) (d : Held) → Fits (kit_line count given (line_supply line) d)
unfolding kit_line
kit_line_fits count given line d =
    let s = line_supply line in
    chosen Fits (eqb (number_for KIT_WORDS s) ACCEPTED) (given_fits count (suc given) (with_kit given s d)) (closed_fits d (number_for KIT_WORDS s) (number_small KIT_WORDS line))

-- a scan
event_length : (i n kit : ℕ) (before after : Answer) (answers : List ℕ) → i ≤ MAX → Small n → Small kit → length answers ≤ KIT_BYTES * MOST_KITS
    → length (event_bytes (scan_event i n (slip_for kit before after)) answers) ≤ LONGEST_ANSWER
unfolding event_bytes scan_event slip_for
event_length i n kit before after answers h small k few =
    chosen FitsSlip (is_false before) quiet (chosen FitsSlip (is_false after) stops quiet)
  where
    FitsSlip : Option ℕ → Type 0
    FitsSlip p = length (event_bytes (scan_event i n p) answers) ≤ LONGEST_ANSWER

    quiet : FitsSlip None
    quiet = omega (arith, scan_length i n answers h small few)

    stops : FitsSlip (Some kit)
    stops = simp length-append (omega (arith, scan_length i n answers h small few, slip_length kit k))

module _ {table m : List ℕ} (stands : Stands table m) (words : List ℕ) where
  abbrev d : Held
  d = held_of words table m

  count_few : kit_count table ≤ MOST_KITS
  count_few = omega (arith, width_small table m stands)

  scan_small : (e : Scan) → Small (scanned_in (book_of m).rows (codes_in table) (state_of m) e).number
  scan_small e = let a = stands.after in
      few_small _ (rw (a.book, after_codes a, a.state) (few_numbers stands.kits stands.scans e))

  kit_small : (e : Scan) → Small (kit_of table e)
  kit_small e =
      let r = ready_scan table m (codes_in table) e.hour e.barcode _ (place_of e.barcode (codes_in table)) stands refl refl refl in
      omega (arith, r.inside, r.few)

  answers_few : (b : Book) (st : State) → length (kit_words b st (kit_count table)) ≤ KIT_BYTES * MOST_KITS
  answers_few b st = omega (arith, kits_length b st (kit_count table), count_few)

  scanning_fits : (i : ℕ) (e : Scan) → i ≤ MAX → Fits (scanning i e d)
  unfolding scanning
  scanning_fits i e h = event_length i _ (kit_of table e) _ _ _ h (scan_small e) (kit_small e) (answers_few _ _)

  scan_line_fits : (done : ℕ) (line : List ℕ) → Fits (scan_line done (line_supply line) d)
  unfolding scan_line event_bytes
  scan_line_fits done line =
      let s = line_supply line in
      let i = following done in
      let n = number_for SCAN_WORDS s in
      chosen Fits (eqb n ACCEPTED) (scanning_fits i (scan_of s) (following_small done))
      (omega (arith, scan_length i n (kit_words (book_of m) (state_of m) (kit_count table)) (following_small done) (number_small SCAN_WORDS line) (answers_few (book_of m) (state_of m))))

  stage_fits : (stage : Stage) (line : List ℕ) → Fits (at_stage stage (line_supply line) d)
  unfolding at_stage
  stage_fits Awaited line = count_line_fits d line
  stage_fits (Giving count given) line = kit_line_fits count given line d
  stage_fits (Opened done) line = scan_line_fits done line
  stage_fits Closed line = nothing_fits d Closed

  -- NO ANSWER IS LONGER THAN ITS ROOM, at any stage, after any line
  pub answer_fits : (stage : Stage) (line : List ℕ) → length (reply_bytes (reply_to stage line d)) ≤ LONGEST_ANSWER
  unfolding reply_to
  answer_fits stage line = chosen Fits (blank (line_supply line)) (nothing_fits d stage) (stage_fits stage line)

-- nor is what is said at the end of the input
pub last_fits : (stage : Stage) → length (last_bytes stage) ≤ LONGEST_ANSWER
unfolding last_bytes
last_fits Awaited = omega (arith, desk_length 1 (omega arith))
last_fits (Giving count given) = omega (arith, desk_length 1 (omega arith))
last_fits (Opened done) = omega arith
last_fits Closed = omega arith

-- ---- bytes for which there is room are handed back whole
module _ (out bytes : List ℕ) {out' : List ℕ} {n : ℕ} (w : handed n out' ≡ in_buffer out bytes) (room : length bytes ≤ length out) where
  fitted : in_buffer out bytes ≡ handed (length bytes) (bytes ++ drop (length bytes) out)
  unfolding in_buffer
  fitted = rw (le-leb (length bytes) (length out) room)

  pub length_whole : n ≡ length bytes
  length_whole = ap (λ (h : Handed). h.number) (w ∙ fitted)

  pub bytes_whole : take n out' ≡ bytes
  bytes_whole = rw (length_whole, ap (λ (h : Handed). h.buffer) (w ∙ fitted)) (take-append_seam bytes (drop (length bytes) out))
