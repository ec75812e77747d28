-- Laws of a report's lines. Assumes nothing.
use Prim.Native.Nat.{ℕ, zero, suc, ◌+◌, ◌*◌, ◌-◌, ◌≤◌, ◌<◌}
use mathlib.Core.Path.{◌≡◌, refl, sym, ap, ap₂, ◌∙◌}
use mathlib.Core.Bool.{Bool, true, false}
use mathlib.Core.List.{List, [], ◌∷◌, ◌++◌, append-nil, append_assoc}
use native.Mathlib.Omega.{arith}
use native.Mathlib.Numerals.{add-one}
use native.Mathlib.Decide.{ℕ_discrete}
use lib.Dec.{lit≤}
use lib.ListN.{length, take, drop, length-drop, length-append}
use lib.Seq.{sets, take_all}
use borrow.Author.Tests.{eq-eqb, ne_eqb}
use Rattle.text.specs.Words.{space, line_feed, digit0}
use Rattle.numbers.specs.Limits.{MAX}
use Rattle.text.specs.Decimals.{decimal}
use Rattle.text.proofs.Digits.{one_place}
use Rattle.pmtl.specs.declared.Answer.{Answer}
use Rattle.pmtl.specs.declared.Answer.TheVariants.{False, True, Open}
use Rattle.pmtl.specs.Answer.{bit_of, digit_of}
use Rattle.lists.specs.Lists.{listed}
use Rattle.book.specs.declared.strict.Excess.{Excess}
use Rattle.std.proofs.Common.{Some, None}
use Rattle.memory.specs.Memory.{row_count, property_row, value_at, early_at, settled_at, fullest_word, book_of, state_of}
use Rattle.memory.specs.Tables.{property_count, value_of, early_of, settled_of}
use Rattle.memory.specs.Kept.{Kept}
use Rattle.property_answers.specs.Verdict.{verdict_in, verdict_of}
use Rattle.memory.proofs.Properties.{properties_length, property_is}
use Rattle.buffer_writer.specs.Buffer.{Handed}
use Rattle.buffer_writer.specs.Finish.{finish, Wrote, Laid}
use Rattle.buffer_writer.proofs.Writes.{sets_append, it_fits, too_much, and_then, same_bytes}
use Rattle.report.specs.Lines.{PropertyWord, word_of, rest_of, line_of}
use Rattle.report.specs.Report.{excess_words, property_word, property_words, rest_words, call_line}
use Rattle.report.specs.Private.{digit_word, word_at, digit_words, LaidOn, digit_rest, digit_line}

pub ending : {h : Handed} (out : List ℕ) (at : ℕ) {x y : List ℕ} → h ≡ finish out at x → x ≡ y → h ≡ finish out at y
ending out at p e = p ∙ ap (finish out at) e

-- ---- what strict loading refuses
pub excess_none : (out : List ℕ) (at : ℕ) → Wrote out at (excess_words None) out at
unfolding excess_words
excess_none out at = record { same = λ rest. refl }

pub excess_written : (over : Excess) {out out₁ out₂ : List ℕ} {at at₁ at₂ : ℕ} → Wrote out at (space ∷ decimal over.row) out₁ at₁ → Wrote out₁ at₁ (space ∷ decimal over.count) out₂ at₂
    → Wrote out at (excess_words (Some over)) out₂ at₂
unfolding excess_words
excess_written over p q = and_then p q

-- ---- the words of the properties
pub words_length : (m : List ℕ) (n : ℕ) → length (digit_words m n) ≡ 4 * n
unfolding digit_words digit_word
words_length m zero = refl
words_length m (suc i) = length-append (digit_words m i) (word_at m i) ∙ (let e = words_length m i in omega arith)

-- those from `first` on, before the i-th, are laid
pub record Laying (m : List ℕ) (at first count : ℕ) (out₀ out : List ℕ) (i : ℕ) : Type 0 where
  pub low : i ≤ count
  pub size : length out ≡ length out₀
  pub on : LaidOn m at first i out₀ out

pub lay_start : (m : List ℕ) (at first count : ℕ) (out : List ℕ) → first ≤ count → Laying m at first count out out first
lay_start m at first count out h = record { low = h; size = refl; on = record { laid = λ o e. e } }

module _ {m : List ℕ} {at first count : ℕ} {out₀ out : List ℕ} {i : ℕ} (g : Laying m at first count out₀ out i) where
  pub lay_more : {out' : List ℕ} → i < count → out' ≡ sets out (at + 4 * i) (word_at m i) → length out' ≡ length out → Laying m at first count out₀ out' (i + 1)
  unfolding digit_words
  lay_more h w z =
      record {
        low = omega arith;
        size = z ∙ g.size;
        on = record { laid = λ o e. w ∙ rw (add-one, g.on.laid o e, ← words_length m i) (sym (sets_append (digit_words m i) (word_at m i) o at)) };
      }

  pub lay_done : count ≤ i → LaidOn m at first count out₀ out
  lay_done h = let e : count ≡ i = omega (arith, g.low) in rw e g.on

-- all, the first before the others
pub none_laid : (m out : List ℕ) (at : ℕ) {count : ℕ} → count ≡ 0 → out ≡ sets out at (digit_words m count)
unfolding digit_words
none_laid m out at e = rw e

pub all_laid : (m out : List ℕ) (at : ℕ) {out₁ out₂ : List ℕ} {count : ℕ} → out₁ ≡ sets out at (word_at m 0) → LaidOn m at 1 count out₁ out₂ → out₂ ≡ sets out at (digit_words m count)
unfolding digit_words
all_laid m out at p q = q.laid out p

module _ (m out : List ℕ) (at : ℕ) {count : ℕ} (e : count ≡ property_count m) where
  pub words_few : Kept m → count ≤ 32
  words_few kept = let a = kept.sound.book.assumes_few in let g = kept.sound.book.guarantees_few in omega arith

  bytes : length (digit_words m (property_count m)) ≡ 4 * count
  bytes = rw (← e) (words_length m count)

  pub words_wrote : {out' : List ℕ} → out' ≡ sets out at (digit_words m count) → Wrote out at (digit_words m (property_count m)) out' (at + 4 * count)
  words_wrote {out'} p = it_fits out at (digit_words m (property_count m)) out' (at + 4 * count) (rw e at p) (omega (arith, bytes))

  pub words_not : length out < MAX → length out < at + 4 * count → Wrote out at (digit_words m (property_count m)) out MAX
  words_not h k = too_much out at (digit_words m (property_count m)) h (omega (arith, bytes))

-- ---- a call's line
pub rest_whole : (m : List ℕ) (i : ℕ) → take (length m - i) (drop i m) ≡ drop i m
rest_whole m i = take_all (length m - i) (drop i m) (omega (arith, length-drop i m))

pub accepted_bytes : (r : ℕ) → r ≡ 0 → space ∷ digit0 ∷ [] ≡ space ∷ decimal r
accepted_bytes r e = rw e (ap (λ (l : List ℕ). space ∷ l) (one_place 0 (omega arith)))

module _ (number : List ℕ) (r : ℕ) (words : List ℕ) {m m₁ : List ℕ} {at at₁ : ℕ} (numbers : Wrote m at (number ++ space ∷ decimal r) m₁ at₁) where
  pub line_accepted : {m₂ m₃ : List ℕ} {at₂ at₃ : ℕ} → r ≡ 0 → Wrote m₁ at₁ words m₂ at₂ → Wrote m₂ at₂ (line_feed ∷ []) m₃ at₃ → Wrote m at (digit_line number r words) m₃ at₃
  unfolding digit_line
  line_accepted e p q = rw (eq-eqb r 0 e) (and_then (and_then numbers p) q)

  pub line_refused : {m₂ : List ℕ} {at₂ : ℕ} → (r ≡ 0 → ⊥) → Wrote m₁ at₁ (line_feed ∷ []) m₂ at₂ → Wrote m at (digit_line number r words) m₂ at₂
  unfolding digit_line
  line_refused e q = rw (ne_eqb r 0 e, append-nil) (and_then numbers q)

-- what an accepted call's line has after its refusal
pub rest_written : (m : List ℕ) {out out₁ out₂ out₃ : List ℕ} {at at₁ at₂ at₃ count : ℕ} → Wrote out at (digit_words m (property_count m)) out₁ at₁ → Wrote out₁ at₁ (space ∷ []) out₂ at₂
    → count ≡ fullest_word m → Wrote out₂ at₂ (decimal count) out₃ at₃ → Wrote out at (digit_rest m) out₃ at₃
unfolding digit_rest
rest_written m words part e number = and_then words (and_then part (rw e at number))

-- ---- a line that is laid
pub laid_from : (digits : List ℕ) {first k : ℕ} {m m₁ : List ℕ} {at at₁ : ℕ} → first ≡ k → Laid m at (drop k digits) m₁ at₁ → Laid m at (drop first digits) m₁ at₁
laid_from digits e l = rw e l

-- what follows the words of the properties
pub end_at_once : (count : ℕ) → count < 10 → space ∷ (digit0 + count) ∷ line_feed ∷ [] ≡ space ∷ decimal count ++ line_feed ∷ []
end_at_once count h = ap (λ (l : List ℕ). space ∷ l ++ line_feed ∷ []) (one_place count h)

pub end_laid : (count : ℕ) {m m₁ m₂ m₃ : List ℕ} {at at₁ at₂ at₃ : ℕ} → Laid m at (space ∷ []) m₁ at₁ → Laid m₁ at₁ (decimal count) m₂ at₂ → Laid m₂ at₂ (line_feed ∷ []) m₃ at₃
    → Wrote m at (space ∷ decimal count ++ line_feed ∷ []) m₃ at₃
end_laid count part number end = and_then part.wrote (and_then number.wrote end.wrote)

pub rest_laid : (m out : List ℕ) (at : ℕ) {count n : ℕ} {out₁ out₂ : List ℕ} {at₂ : ℕ} → count ≡ property_count m → out₁ ≡ sets out at (digit_words m count) → n ≡ fullest_word m
    → Wrote out₁ (at + 4 * count) (space ∷ decimal n ++ line_feed ∷ []) out₂ at₂ → Wrote out at (digit_rest m ++ line_feed ∷ []) out₂ at₂
unfolding digit_rest
rest_laid m out at e words f end =
    same_bytes (and_then (words_wrote m out at e words) (rw f at end))
    (sym (append_assoc (digit_words m (property_count m)) (space ∷ decimal (fullest_word m)) (line_feed ∷ [])))

pub line_laid : (number words : List ℕ) {m m₁ m₂ m₃ : List ℕ} {at at₁ at₂ at₃ : ℕ} → Laid m at number m₁ at₁ → Laid m₁ at₁ (space ∷ digit0 ∷ []) m₂ at₂ → Wrote m₂ at₂ (words ++ line_feed ∷ []) m₃ at₃
    → Wrote m at (digit_line number 0 words) m₃ at₃
unfolding digit_line
line_laid number words digits nought rest =
    same_bytes (and_then (and_then digits.wrote (same_bytes nought.wrote (accepted_bytes 0 refl))) rest)
    (sym (append_assoc (number ++ space ∷ decimal 0) words (line_feed ∷ [])))

pub as_accepted : (number words : List ℕ) {r : ℕ} {m m₁ : List ℕ} {at at₁ : ℕ} → r ≡ 0 → Wrote m at (digit_line number 0 words) m₁ at₁ → Wrote m at (digit_line number r words) m₁ at₁
as_accepted number words e w = rw e w

-- ---- the digits of the answers, and the line of REFERENCE 8.3
one_more : (ws : List PropertyWord) (w : PropertyWord) → property_words (ws ++ w ∷ []) ≡ property_words ws ++ property_word w
unfolding property_words
one_more [] w = append-nil (property_word w)
one_more (v ∷ ws) w = ap (λ l. property_word v ++ l) (one_more ws w) ∙ sym (append_assoc (property_word v) (property_words ws) (property_word w))

digit_small : (a : Answer) → digit_of a ≤ 2
digit_small False = lit≤ tt
digit_small True = lit≤ tt
digit_small Open = lit≤ tt

bit_small : (b : Bool) → bit_of b ≤ 2
bit_small true = lit≤ tt
bit_small false = lit≤ tt

module _ {m : List ℕ} (kept : Kept m) (i : ℕ) (h : i < property_count m) where
  inside : property_row m i < row_count m
  inside = kept.sound.book.properties i h

  -- the digits of a property are small
  pub value_small : value_at m (property_row m i) ≤ 2
  value_small = rw (kept.tables.valued.right (property_row m i) inside) (bit_small (value_of m (property_row m i)))

  pub early_small : early_at m i ≤ 2
  early_small = rw (kept.tables.answered.early i h) (digit_small (early_of m (property_row m i)))

  pub settled_small : settled_at m i ≤ 2
  settled_small = rw (kept.tables.answered.settled i h) (digit_small (settled_of m (property_row m i)))

  -- and those of its answers
  word_said : word_at m i ≡ property_word (word_of (verdict_of m i))
  unfolding digit_word property_word verdict_in book_of
  word_said =
      let p = property_is m kept.sound.book i h in
      rw (kept.tables.valued.right (property_row m i) inside, kept.tables.answered.early i h, kept.tables.answered.settled i h, p)

said_words : {m : List ℕ} → Kept m → (n : ℕ) → n ≤ property_count m → digit_words m n ≡ property_words (listed (λ p. word_of (verdict_of m p)) n)
unfolding digit_words property_words listed
said_words kept zero h = refl
said_words {m} kept (suc i) h =
    ap₂ (λ (x y : List ℕ). x ++ y) (said_words kept i (omega arith)) (word_said kept i h)
    ∙ sym (one_more (listed (λ p. word_of (verdict_of m p)) i) (word_of (verdict_of m i)))

rest_said_lem : {m : List ℕ} → Kept m → digit_rest m ≡ rest_words (rest_of (book_of m) (state_of m))
unfolding digit_rest rest_words
rest_said_lem {m} kept = rw (properties_length m kept.sound.book, said_words kept (property_count m) (omega arith), kept.tables.counts.right)

pub line_said : {m : List ℕ} → Kept m → {number : List ℕ} (i r : ℕ) → number ≡ decimal i → digit_line number r (digit_rest m) ≡ call_line (line_of (book_of m) i (record { number = r; state = state_of m }))
unfolding digit_line call_line line_of rest_words
line_said {m} kept i r e = rw e (go (ℕ_discrete r 0))
  where
    go : Dec (r ≡ 0) → digit_line (decimal i) r (digit_rest m) ≡ call_line (line_of (book_of m) i (record { number = r; state = state_of m }))
    go (yes z) = rw (eq-eqb r 0 z, rest_said_lem kept)
    go (no z) = rw (ne_eqb r 0 z)

-- ---- a property's word as the code makes it, byte by byte
pub word_bytes : (m : List ℕ) (i : ℕ) {row v e s g h k : ℕ} → row ≡ property_row m i → v ≡ value_at m row → g ≡ digit0 + v → e ≡ early_at m i → h ≡ digit0 + e → s ≡ settled_at m i → k ≡ digit0 + s
    → space ∷ g ∷ h ∷ k ∷ [] ≡ word_at m i
unfolding digit_word
word_bytes m i er ev eg ee eh es ek = rw (eg, eh, ek, ev, ee, es, er)
