-- Laws of the summaries' lines. Assumes nothing.
use Prim.Native.Nat.{ℕ, zero, suc, ◌+◌, ◌≤◌, ◌<◌}
use mathlib.Core.Path.{◌≡◌, refl, sym, ap, ap₂, ◌∙◌}
use mathlib.Core.List.{List, [], ◌∷◌, ◌++◌, append-nil, append_assoc, map, map-append}
use native.Mathlib.Omega.{arith}
use native.Mathlib.Numerals.{add-one}
use lib.ListN.{length}
use Rattle.lists.specs.Lists.{listed}
use Rattle.lists.proofs.Listed.{listed_length, listed_at}
use Rattle.text.specs.Words.{line_feed, next_word, supply_from}
use Rattle.text.specs.Decimals.{decimal}
use Rattle.std.proofs.Common.{true, false, eqb, eqb-true, Ok, Err}
use Rattle.numbers.specs.declared.Refusal.{Refusal}
use Rattle.numbers.specs.Refusals.{number_of}
use Rattle.text.specs.declared.words.Word.{Word}
use Rattle.text.proofs.Supplies.{word, refused as ended}
use Rattle.numbers.specs.Refusals.{BAD_WORD, WRONG_LENGTH}
use Rattle.ledger.specs.Ledger.{Ledger, no_entry, summary_from, summary_at}
use Rattle.memory.specs.Layout.{FAILED, FIRST, LAST, LONGEST, SETTLED_CALL}
use Rattle.memory.specs.Memory.{taken_word, entry_word, entry_of, ledger_of}
use Rattle.memory.specs.Tables.{property_count}
use Rattle.buffer_writer.specs.Buffer.{Handed}
use Rattle.buffer_writer.specs.Finish.{finish, Wrote}
use Rattle.buffer_writer.proofs.Writes.{and_then, at_end}
use Rattle.report.specs.Lines.{Line, summed, last, end, ending_of, summaries_of, end_lines}
use Rattle.report.specs.Report.{summary_line, stop_line, end_line, last_line, line, written}
use Rattle.report.specs.Private.{number_after, fail_words, span_words, summary_words, all_summary_words}

-- ---- one line
pub fails_written : (m : List ℕ) (i : ℕ) {out out₁ out₂ out₃ : List ℕ} {at at₁ at₂ at₃ : ℕ} → Wrote out at (number_after (entry_word m i FAILED)) out₁ at₁ → Wrote out₁ at₁ (number_after (entry_word m i FIRST)) out₂ at₂
    → Wrote out₂ at₂ (number_after (entry_word m i LAST)) out₃ at₃ → Wrote out at (fail_words m i) out₃ at₃
unfolding fail_words
fails_written m i p q r = and_then (and_then p q) r

pub spans_written : (m : List ℕ) (i : ℕ) {out out₁ out₂ : List ℕ} {at at₁ at₂ : ℕ} → Wrote out at (number_after (entry_word m i LONGEST)) out₁ at₁ → Wrote out₁ at₁ (number_after (entry_word m i SETTLED_CALL)) out₂ at₂
    → Wrote out at (span_words m i) out₂ at₂
unfolding span_words
spans_written m i p q = and_then p q

pub summary_written : (m : List ℕ) (i : ℕ) {n : ℕ} {out out₁ out₂ out₃ out₄ : List ℕ} {at at₁ at₂ at₃ at₄ : ℕ} → n ≡ taken_word m → Wrote out at (decimal n) out₁ at₁ → Wrote out₁ at₁ (fail_words m i) out₂ at₂
    → Wrote out₂ at₂ (span_words m i) out₃ at₃ → Wrote out₃ at₃ (line_feed ∷ []) out₄ at₄ → Wrote out at (summary_words m i) out₄ at₄
unfolding summary_words
summary_written m i e p q r s = let p' = rw e at p in and_then (and_then (and_then p' q) r) s

-- ---- all lines: those of the first i properties are written
pub record Summing (m : List ℕ) (count : ℕ) (out₀ : List ℕ) (at : ℕ) (out : List ℕ) (p i : ℕ) : Type 0 where
  pub low : i ≤ count
  pub size : length out ≡ length out₀
  pub wrote : Wrote out₀ at (all_summary_words m i) out p

pub sum_start : (m : List ℕ) (count : ℕ) (out : List ℕ) (at : ℕ) → Summing m count out at out at 0
unfolding all_summary_words
sum_start m count out at = record { low = omega arith; size = refl; wrote = record { same = λ rest. refl } }

module _ {m : List ℕ} {count : ℕ} {out₀ : List ℕ} {at : ℕ} {out : List ℕ} {p i : ℕ} (g : Summing m count out₀ at out p i) where
  pub sum_more : {out' : List ℕ} {p' : ℕ} → i < count → Wrote out p (summary_words m i) out' p' → length out' ≡ length out → Summing m count out₀ at out' p' (i + 1)
  unfolding all_summary_words
  sum_more h w z = record { low = omega arith; size = z ∙ g.size; wrote = rw add-one (and_then g.wrote w) }

  pub sum_done : count ≤ i → Wrote out₀ at (all_summary_words m count) out p
  sum_done h = let e : count ≡ i = omega (arith, g.low) in rw e g.wrote

-- ---- the words are the lines of the ledger that the memory holds
summary_is : (m : List ℕ) (p : ℕ) → p < property_count m → summary_at (ledger_of m) p ≡ summary_from (taken_word m) (entry_of m p)
unfolding ledger_of
summary_is m p h = ap (summary_from (taken_word m)) (listed_at (entry_of m) no_entry (property_count m) p h)

regroup : (a b c d e f z : List ℕ) → a ++ (b ++ c ++ d) ++ (e ++ f) ++ z ≡ a ++ b ++ c ++ d ++ e ++ f ++ z
regroup a b c d e f z = simp append_assoc

words_line : (m : List ℕ) (p : ℕ) → summary_words m p ≡ summary_line (summary_from (taken_word m) (entry_of m p))
unfolding summary_words fail_words span_words summary_line entry_of
words_line m p =
    let number : ℕ → List ℕ = λ w. number_after (entry_word m p w) in
    regroup (decimal (taken_word m)) (number FAILED) (number FIRST) (number LAST) (number LONGEST) (number SETTLED_CALL) (line_feed ∷ [])

summary_said : (m : List ℕ) (p : ℕ) → p < property_count m → summary_words m p ≡ summary_line (summary_at (ledger_of m) p)
summary_said m p h = words_line m p ∙ ap summary_line (sym (summary_is m p h))

one_more : (ls : List Line) (l : Line) → written (ls ++ l ∷ []) ≡ written ls ++ line l
unfolding written
one_more [] l = append-nil (line l)
one_more (k ∷ ls) l = ap (λ x. line k ++ x) (one_more ls l) ∙ sym (append_assoc (line k) (written ls) (line l))

said_summaries : (m : List ℕ) (n : ℕ) → n ≤ property_count m → all_summary_words m n ≡ written (map summed (listed (summary_at (ledger_of m)) n))
unfolding all_summary_words written line listed
said_summaries m zero h = refl
said_summaries m (suc i) h =
    let f = summary_at (ledger_of m) in
    ap₂ (λ (x y : List ℕ). x ++ y) (said_summaries m i (omega arith)) (summary_said m i h)
    ∙ sym (one_more (map summed (listed f i)) (summed (f i)))
    ∙ ap written (sym (map-append summed (listed f i) (f i ∷ [])))

entries_count : (m : List ℕ) → length (ledger_of m).entries ≡ property_count m
unfolding ledger_of
entries_count m = listed_length (entry_of m) (property_count m)

all_said : (m : List ℕ) → all_summary_words m (property_count m) ++ end_line ≡ written (end_lines (ledger_of m) end)
unfolding end_lines line last_line
all_said m =
    ap (λ x. x ++ end_line) (said_summaries m (property_count m) (omega arith))
    ∙ rw (← entries_count m) (sym (one_more (map summed (summaries_of (ledger_of m))) (last end)))

-- ---- the lines after the calls
pub ended_written : (m : List ℕ) {out out₁ out₂ : List ℕ} {at at₁ at₂ : ℕ} {h : Handed} → Wrote out at (all_summary_words m (property_count m)) out₁ at₁ → Wrote out₁ at₁ end_line out₂ at₂ → h ≡ finish out₂ at₂ []
    → h ≡ finish out at (written (end_lines (ledger_of m) end))
ended_written m {out} {at = at} p q e = e ∙ at_end (and_then p q) ∙ ap (finish out at) (all_said m)

module _ (input : List ℕ) (cursor : ℕ) (l : Ledger) where
  pub last_word : {w : Word} → next_word input cursor ≡ Ok w → stop_line WRONG_LENGTH ≡ written (end_lines l (ending_of (supply_from input cursor).ending (supply_from input cursor).words))
  unfolding written line last_line end_lines ending_of
  last_word e = rw ((word input cursor e).gave, append-nil)

  pub last_bad : {r : Refusal} → next_word input cursor ≡ Err r → eqb (number_of r) BAD_WORD ≡ true → stop_line (number_of r) ≡ written (end_lines l (ending_of (supply_from input cursor).ending (supply_from input cursor).words))
  unfolding written line last_line end_lines ending_of
  last_bad {r} e f = rw (ended input cursor e, f, eqb-true (number_of r) BAD_WORD f, append-nil)

  pub last_end : {r : Refusal} → next_word input cursor ≡ Err r → eqb (number_of r) BAD_WORD ≡ false → written (end_lines l end) ≡ written (end_lines l (ending_of (supply_from input cursor).ending (supply_from input cursor).words))
  unfolding ending_of
  last_end {r} e f = rw (ended input cursor e, f)
