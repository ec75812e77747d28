-- Laws of what the program that tidies a book prints. Assumes nothing.
use Prim.Native.Nat.{ℕ, ◌≤◌, ◌<◌}
use mathlib.Core.Path.{◌≡◌, refl, sym, ap, ap₂, ◌∙◌}
use mathlib.Core.List.{List, ◌++◌}
use mathlib.Core.Logic.{⊎_elim}
use native.Mathlib.Omega.{arith}
use lib.ListN.{length, take}
use borrow.Author.Tests.{lt-ltb, le-ltb, eq-eqb, ne_eqb}
use Rattle.numbers.specs.Limits.{LONGEST_INPUT}
use Rattle.numbers.specs.Refusals.{ACCEPTED, PAST_LIMIT, number_of}
use Rattle.text.specs.Words.{supply_from}
use Rattle.book.specs.Judging.{loaded, loaded_from, whole}
use Rattle.book_writer.specs.Layout.{book_word, book_said}
use Rattle.text_reader.specs.Reads.{left_in, left_over, BookTook, BookRead}
use Rattle.text_reader.specs.declared.Part.{Part}
use Rattle.std.specs.Prelude.{Ok, Err}
use Rattle.numbers.specs.declared.Refusal.{Refusal}
use Rattle.tidying.specs.Tidied as tidying
use Rattle.tidying.specs.Tidied.{Tidying, tidied, steps_of}
use Rattle.tidying.proofs.Theorems.{tidied_accepted, refused_with_lem}
use Rattle.tidier.specs.Tidies.{TidiedAs}
use Rattle.tidied.specs.Answers.{tidy_word, stop_word, number_line, refusal_line, tidy_said, steps_said, words_in, book_then, words_said, answer_to}
use Rattle.tidied.specs.Private.{StepsTook, StepsRead, LastTook, AcceptedTook, steps_after}
use Rattle.tidied.proofs.Reading.{sections_words}

-- ---- what tidying came to
module _ (book steps : List ℕ) (ok : (loaded book).number ≡ ACCEPTED) (out : List ℕ) where
  pub said_refused : (n k : ℕ) → TidiedAs (tidied book (steps_of steps)) (record { number = n; step = k; length = 0 }) out → (n ≡ ACCEPTED → ⊥) → refusal_line n k ≡ tidy_said (tidied book (steps_of steps))
  unfolding tidy_said TidiedAs
  said_refused n k x bad = by_outcome (tidied book (steps_of steps)) x
    where
      by_outcome : (t : Tidying) → TidiedAs t (record { number = n; step = k; length = 0 }) out → refusal_line n k ≡ tidy_said t
      by_outcome (tidying.done ws) y = absurd (bad y.0)
      by_outcome (tidying.refused m j) y = ap₂ refusal_line y.0 y.1

  module _ (long : ℕ) (x : TidiedAs (tidied book (steps_of steps)) (record { number = ACCEPTED; step = 0; length = long }) out) where
    pub is_done : (tidied book (steps_of steps) ≡ tidying.done (take long out)) × (long ≤ length out)
    unfolding TidiedAs
    is_done = by_outcome (tidied book (steps_of steps)) refl x
      where
        by_outcome : (t : Tidying) → tidied book (steps_of steps) ≡ t → TidiedAs t (record { number = ACCEPTED; step = 0; length = long }) out → (t ≡ tidying.done (take long out)) × (long ≤ length out)
        by_outcome (tidying.done ws) e y = (ap tidying.done (sym y.2), y.3)
        by_outcome (tidying.refused m k) e y = absurd (⊎_elim (λ u. omega (arith, u, y.0)) (λ u. omega (arith, u, y.0)) (refused_with_lem book (steps_of steps) ok m k e).0)

    pub new_accepted : (ws : List ℕ) → ws ≡ take long out → (loaded ws).number ≡ ACCEPTED
    new_accepted ws e = rw e (tidied_accepted book (steps_of steps) (take long out) is_done.0)

    pub said_done : (ws : List ℕ) → ws ≡ take long out → number_line tidy_word ACCEPTED ++ book_said ws ≡ tidy_said (tidied book (steps_of steps))
    unfolding tidy_said
    said_done ws e = rw (is_done.0, e) refl

-- ---- the steps of a text
pub steps_refused : (input : List ℕ) (cursor : ℕ) (m : List ℕ) (r : Refusal) → StepsRead input cursor m (Err r) → (book : List ℕ) → number_line stop_word (number_of r) ≡ steps_after book input cursor
unfolding StepsRead steps_said
steps_refused input cursor m r e book = rw e refl

module _ {input : List ℕ} {cursor : ℕ} {m : List ℕ} where
  pub took_steps : {p : Part} → StepsRead input cursor m (Ok p) → StepsTook input cursor m p.end p.next
  unfolding StepsRead
  took_steps r = r

  module _ {end next : ℕ} (k : StepsTook input cursor m end next) (after : ℕ) (e : after ≡ left_over (supply_from input next)) where
    left_same : left_in (supply_from input next).words (supply_from input cursor).ending ≡ after
    left_same = ap (left_in (supply_from input next).words) (sym k.ending) ∙ sym e

    pub steps_left : (after ≡ ACCEPTED → ⊥) → (book : List ℕ) → number_line stop_word after ≡ steps_after book input cursor
    unfolding steps_said
    steps_left h book = rw (k.read, left_same, ne_eqb after ACCEPTED h) refl

    pub steps_last : after ≡ ACCEPTED → LastTook input cursor m end
    unfolding steps_said
    steps_last h = record { inside = k.inside; said = λ book. rw (k.read, left_same, eq-eqb after ACCEPTED h) refl }

-- ---- the answer
pub answer_long : (s : List ℕ) → LONGEST_INPUT < length s → number_line book_word PAST_LIMIT ≡ answer_to s
unfolding answer_to
answer_long s h = rw (lt-ltb LONGEST_INPUT (length s) h) refl

pub answer_short : (s : List ℕ) → length s ≤ LONGEST_INPUT → words_said s ≡ answer_to s
unfolding answer_to
answer_short s h = rw (le-ltb LONGEST_INPUT (length s) h) refl

pub took_book : {s m : List ℕ} {p : Part} → BookRead s m (Ok p) → BookTook s m p.end p.next
unfolding BookRead
took_book r = r

pub book_none : (s m : List ℕ) (r : Refusal) → BookRead s m (Err r) → number_line book_word (number_of r) ≡ words_said s
unfolding words_said book_then BookRead
book_none s m r b = rw b refl

module _ {s m : List ℕ} {end next : ℕ} (k : BookTook s m end next) (n : ℕ) (en : n ≡ (loaded (take end m)).number) where
  number_same : n ≡ (loaded_from k.given).number
  unfolding loaded whole
  number_same = en ∙ rw k.stand refl

  pub book_refused : (n ≡ ACCEPTED → ⊥) → number_line book_word n ≡ words_said s
  unfolding words_said book_then
  book_refused h = rw (k.read, ← number_same, ne_eqb n ACCEPTED h) refl

  pub book_taken : n ≡ ACCEPTED → AcceptedTook s m end next
  unfolding words_said book_then
  book_taken h =
      let y : take end m ≡ words_in k.given = sections_words (take end m) k.given k.stand in
      record { inside = k.place; ok = sym en ∙ h; said = rw (k.read, ← number_same, eq-eqb n ACCEPTED h, ← k.ending, ← y) refl }
