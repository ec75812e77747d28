-- Laws of what the program that reads rules prints. Assumes nothing.
use Prim.Native.Nat.{ℕ, ◌≤◌, ◌<◌}
use mathlib.Core.Path.{◌≡◌, refl, sym, ap, ◌∙◌}
use mathlib.Core.List.{List, [], ◌∷◌, ◌++◌}
use native.Mathlib.Omega.{arith}
use lib.ListN.{length, take}
use borrow.Author.Tests.{lt-ltb, le-ltb, eq-eqb, ne_eqb}
use Rattle.numbers.specs.Limits.{LONGEST_INPUT}
use Rattle.numbers.specs.Refusals.{ACCEPTED, BAD_WORD, PAST_LIMIT}
use Rattle.text.specs.Words.{space}
use Rattle.text.specs.Decimals.{decimal}
use Rattle.lists.specs.Lists.{part}
use Rattle.book.specs.Judging.{loaded}
use Rattle.buffer_writer.specs.Buffer.{Handed, in_buffer}
use Rattle.buffer_writer.specs.Finish.{finish, Wrote}
use Rattle.buffer_writer.proofs.Writes.{and_then, at_end, whole}
use Rattle.rule_scanner.specs.Reading.{Outcome, read, wrong, read_text}
use Rattle.rule_reader.specs.Rules.{read_book, result_of}
use Rattle.rule_reader.specs.Words.{ReadAs}
use Rattle.book_writer.specs.Layout.{book_word, ended, book_said}
use Rattle.read_rules.specs.Answers.{refused_line, words_read, answer_within, answer_to}

-- ---- the line of a number
pub line_placed : {m m' : List ℕ} {at at' : ℕ} (n place : ℕ) → n ≡ BAD_WORD → Wrote m at ((book_word ++ decimal n) ++ ((space ∷ []) ++ (decimal place ++ ended))) m' at' → Wrote m at (refused_line n place) m' at'
unfolding refused_line
line_placed n place h w = rw (eq-eqb n BAD_WORD h) w

pub line_plain : {m m' : List ℕ} {at at' : ℕ} (n place : ℕ) → (n ≡ BAD_WORD → ⊥) → Wrote m at ((book_word ++ decimal n) ++ ended) m' at' → Wrote m at (refused_line n place) m' at'
unfolding refused_line
line_plain n place h w = rw (ne_eqb n BAD_WORD h) w

-- ---- the answer
-- the words of an accepted text
words_read_lem : {s words : List ℕ} {n place long : ℕ} → ReadAs s n place long words → n ≡ ACCEPTED → words_read (read_text s) ≡ take long words
unfolding words_read read_book result_of
words_read_lem {s} {words} {n} {place} {long} r h = by_outcome (read_text s) refl
  where
    by_outcome : (x : Outcome) → read_text s ≡ x → words_read (read_text s) ≡ take long words
    by_outcome (read a g) e = rw e (sym (r.words_are h a g e))
    by_outcome (wrong at) e = let z : n ≡ BAD_WORD = rw e at r.number_is in absurd (omega arith)

pub book_accepted : {s words x : List ℕ} {n place long : ℕ} → ReadAs s n place long words → n ≡ ACCEPTED → x ≡ part 0 long words → (loaded x).number ≡ ACCEPTED
unfolding words_read read_book result_of
book_accepted {s} {words} {x} {n} {place} {long} r h e = by_outcome (read_text s) refl
  where
    by_outcome : (y : Outcome) → read_text s ≡ y → (loaded x).number ≡ ACCEPTED
    by_outcome (read a g) f = ap (λ (z : List ℕ). (loaded z).number) (e ∙ r.words_are h a g f) ∙ sym (rw f at r.number_is) ∙ h
    by_outcome (wrong at) f = let z : n ≡ BAD_WORD = rw f at r.number_is in absurd (omega arith)

pub says_refused : {s words m m' : List ℕ} {n place long at' : ℕ} → ReadAs s n place long words → (n ≡ ACCEPTED → ⊥) → Wrote m 0 (refused_line n place) m' at' → Wrote m 0 (answer_within s) m' at'
unfolding answer_within
says_refused {s} {n = n} r h w = rw (← r.number_is, ← r.place_is, ne_eqb n ACCEPTED h) w

pub says_book : {s words m m₁ m₂ x : List ℕ} {n place long a₁ a₂ : ℕ} → ReadAs s n place long words → n ≡ ACCEPTED → x ≡ part 0 long words → Wrote m 0 (refused_line ACCEPTED 0) m₁ a₁ → Wrote m₁ a₁ (book_said x) m₂ a₂ → Wrote m 0 (answer_within s) m₂ a₂
unfolding answer_within
says_book {s} {n = n} r h e w v = rw (← r.number_is, eq-eqb n ACCEPTED h, words_read_lem r h) (and_then w (rw e at v))

-- ---- the whole answer
pub answers_long : {out m : List ℕ} {at : ℕ} {h : Handed} (s : List ℕ) → LONGEST_INPUT < length s → h ≡ finish m at [] → Wrote out 0 (refused_line PAST_LIMIT 0) m at → h ≡ in_buffer out (answer_to s)
unfolding answer_to
answers_long {out} s t e w = rw (lt-ltb LONGEST_INPUT (length s) t) (e ∙ at_end w ∙ whole out (refused_line PAST_LIMIT 0))

pub answers_within : {out m : List ℕ} {at : ℕ} {h : Handed} (s : List ℕ) → length s ≤ LONGEST_INPUT → h ≡ finish m at [] → Wrote out 0 (answer_within s) m at → h ≡ in_buffer out (answer_to s)
unfolding answer_to
answers_within {out} s t e w = rw (le-ltb LONGEST_INPUT (length s) t) (e ∙ at_end w ∙ whole out (answer_within s))
