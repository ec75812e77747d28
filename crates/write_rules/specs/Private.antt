-- A step of reading a book that stands alone in a text. No public contract cites this. Definitions only.
use Rattle.std.specs.Prelude.{ℕ, ◌≤◌, ◌≡◌, List, length, take, Result, Ok, Err}
use Rattle.numbers.specs.declared.Refusal.{Refusal}
use Rattle.numbers.specs.Refusals.{number_of}
use Rattle.text.specs.Words.{supply}
use Rattle.book.specs.Judging.{loaded}
use Rattle.write_rules.specs.Answers.{refused_line, loaded_said, book_only}

-- the book stands in the first words, or is refused
pub record Alone (s m : List ℕ) (end : ℕ) : Type 0 where
  pub inside : end ≤ length m
  pub said : loaded_said (loaded (take end m)) ≡ book_only (supply s)

abbrev pub AloneIn : List ℕ → List ℕ → Result ℕ Refusal → Type 0
AloneIn s m (Ok end) = Alone s m end
AloneIn s m (Err refusal) = refused_line (number_of refusal) ≡ book_only (supply s)
