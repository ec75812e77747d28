-- Laws of what the program that writes rules prints. Assumes nothing.
use Prim.Native.Nat.{ℕ, ◌≤◌, ◌<◌}
use mathlib.Core.Path.{◌≡◌, sym, ap, ◌∙◌}
use mathlib.Core.List.{List}
use lib.ListN.{length}
use borrow.Author.Tests.{lt-ltb, le-ltb, eq-eqb, ne_eqb}
use Rattle.numbers.specs.Limits.{LONGEST_INPUT}
use Rattle.std.specs.Prelude.{Ok, Err}
use Rattle.numbers.specs.declared.Refusal.{Refusal}
use Rattle.numbers.specs.Refusals.{ACCEPTED, PAST_LIMIT, number_of}
use Rattle.text.specs.Words.{supply, supply_from}
use Rattle.book.specs.Judging.{loaded, whole}
use Rattle.rule_printer.specs.Printing.{book_printed}
use Rattle.text_reader.specs.Reads.{left_in, left_over, BookTook, BookRead}
use Rattle.text_reader.specs.declared.Part.{Part}
use Rattle.write_rules.specs.Answers.{refused_line, loaded_said, book_alone, book_only, answer_to}
use Rattle.write_rules.specs.Private.{Alone}

-- ---- a book handed over as words
pub words_refused : (words : List ℕ) (n : ℕ) → n ≡ (loaded words).number → (n ≡ ACCEPTED → ⊥) → refused_line n ≡ loaded_said (loaded words)
unfolding loaded_said
words_refused words n e h = rw (← e, ne_eqb n ACCEPTED h)

pub words_printed : (words : List ℕ) (n : ℕ) → n ≡ (loaded words).number → n ≡ ACCEPTED → book_printed (loaded words).book ≡ loaded_said (loaded words)
unfolding loaded_said
words_printed words n e h = rw (← e, eq-eqb n ACCEPTED h)

-- ---- the answer
pub answer_long : (s : List ℕ) → LONGEST_INPUT < length s → refused_line PAST_LIMIT ≡ answer_to s
unfolding answer_to
answer_long s h = rw (lt-ltb LONGEST_INPUT (length s) h)

pub answer_short : (s : List ℕ) {x : List ℕ} → length s ≤ LONGEST_INPUT → x ≡ book_only (supply s) → x ≡ answer_to s
unfolding answer_to
answer_short s h e = rw (le-ltb LONGEST_INPUT (length s) h) e

pub took_book : {s m : List ℕ} {p : Part} → BookRead s m (Ok p) → BookTook s m p.end p.next
unfolding BookRead
took_book r = r

pub book_none : (s m : List ℕ) (r : Refusal) → BookRead s m (Err r) → refused_line (number_of r) ≡ book_only (supply s)
unfolding book_only book_alone BookRead
book_none s m r b = rw b

module _ {s m : List ℕ} {end next : ℕ} (k : BookTook s m end next) (after : ℕ) (e : after ≡ left_over (supply_from s next)) where
  left_same : left_in (supply_from s next).words (supply_from s 0).ending ≡ after
  left_same = ap (left_in (supply_from s next).words) (sym k.ending) ∙ sym e

  pub alone_left : (after ≡ ACCEPTED → ⊥) → refused_line after ≡ book_only (supply s)
  unfolding book_only book_alone
  alone_left h = rw (k.read, left_same, ne_eqb after ACCEPTED h)

  pub alone_book : after ≡ ACCEPTED → Alone s m end
  unfolding book_only book_alone loaded whole
  alone_book h = record { inside = k.place; said = rw (k.read, left_same, eq-eqb after ACCEPTED h, k.stand) }
